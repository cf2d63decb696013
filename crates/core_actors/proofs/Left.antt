-- An owner has fewer actions left after each, and none just where it has ended.
use Rattle.std.proofs.Common.{◌≡◌, ◌≢◌, ◌↔◌, ℕ, suc, ne_eqb, ap, ◌+◌, ◌-◌, ◌*◌, ◌<◌, ◌≤◌, ◌==◌, nat_lt, min, Bool, true, false, List, [], ◌∷◌, ◌++◌, length, length-append, refl, arith, suc-mul, Option, None, Some, if◌then◌else◌}
use Rattle.std.specs.List.{AllByRecursion}
use Rattle.std.proofs.lemmas.List.Sums.{sum_by-cons}
use Rattle.std.proofs.lemmas.Bool.{eqb-false}
use Rattle.evac_model.specs.declared.names.FrameNo.{FrameNo}
use Rattle.evac_model.specs.declared.names.Kind.{Kind}
use Rattle.evac_model.specs.declared.names.PageNo.{PageNo}
use Rattle.evac_model.specs.declared.call.Call.{Call}
use Rattle.evac_model.specs.declared.call.Call.TheVariants.{Alloc, Free, Read, Write, Add, Pin, Unpin}
use Rattle.evac_model.specs.Geometry.{Sizes}
use Rattle.evac_model.specs.Calls.{IsCallFor}
use Rattle.evac_words.specs.Word.{taken_bit, mapped_bit}
use Rattle.machine.specs.declared.action.Heard.{Heard}
use Rattle.machine.specs.declared.action.Heard.TheVariants as heards
use Rattle.core_actors.specs.declared.action.LeaseSeen.{LeaseSeen}
use Rattle.core_actors.specs.declared.action.LeaseSeen.TheVariants.{NotAsked, Got, Refused}
use Rattle.core_actors.specs.declared.place.Place.{Place}
use Rattle.core_actors.specs.declared.place.Place.TheVariants.{Between, InCall}
use Rattle.core_actors.specs.declared.place.CallPlace.{CallPlace}
use Rattle.core_actors.specs.declared.place.CallPlace.TheVariants.{Zero, MarkZeros, Take, Draw, Load, Store, Mark, Map, Unmap, Release}
use Rattle.core_actors.specs.CallSteps.{IsCallOf, load_count, values_of, is_freed, frame_back}
use Rattle.core_actors.specs.Places.{first_action, action_at, word_in, lease_in, zero_from, behind_lease, behind_take, store_from, behind_loads, load_from, cells_behind, map_behind, behind_draw, behind_first, place_behind, calls_behind}
use Rattle.core_actors.specs.Owners.{OwnerState, owner_at_start, owner_ended, next_action, owner_after}
use Rattle.core_actors.specs.Counts.{most_actions, returns_left, behind_most, left_in, left_of, left_at, actions_left, IsAlloc, NamesCells, ComesTo, IsPlaced, IsUnderWay, FindsTaken}
use Rattle.core_actors.proofs.Cases.{if_then}

-- ---- the most

pub most_actions-few : (s : Sizes) (call : Call) → IsCallFor s call → most_actions s.cells call ≤ s.cells + 6
most_actions-few s (Alloc kind) fits = omega arith
most_actions-few s Free fits = omega arith
most_actions-few s (Read first count) fits = let few = fits.2 in omega arith
most_actions-few s (Write first values) fits = let few = fits.2 in omega arith
most_actions-few s (Add cell value) fits = omega arith
most_actions-few s Pin fits = omega arith
most_actions-few s Unpin fits = omega arith

few_left : (s : Sizes) (calls : List (PageNo × Call)) → AllByRecursion (λ c. IsCallOf s c) calls → left_of s.cells calls ≤ length calls * (s.cells + 6)
few_left s [] all = omega arith
few_left s (c ∷ cs) all =
    let head = most_actions-few s c.1 (all.0).call in
    let rest = few_left s cs all.1 in
    let sum = sum_by-cons (λ (x : PageNo × Call). most_actions s.cells x.1) c cs in
    let product : suc (length cs) * (s.cells + 6) ≡ length cs * (s.cells + 6) + (s.cells + 6) = omega (arith, suc-mul (length cs) (s.cells + 6)) in
    omega arith

pub few_at_start : (s : Sizes) (owner : ℕ) (script : List (PageNo × Call)) → AllByRecursion (λ c. IsCallOf s c) script → actions_left (owner_at_start owner s.cells script) ≤ length script * (s.cells + 6)
few_at_start s owner script all = let few = few_left s script all in omega arith

-- ---- one call

-- a call with steps on cells gives no frame back
pub cells_give_none : (call : Call) (found : ℕ) → NamesCells call → frame_back call NotAsked found ≡ None
cells_give_none (Alloc kind) found names = absurd names
cells_give_none Free found names = absurd names
cells_give_none (Read first count) found names = refl
cells_give_none (Write first values) found names = refl
cells_give_none (Add cell value) found names = refl
cells_give_none Pin found names = absurd names
cells_give_none Unpin found names = absurd names

module _ (cells : ℕ) (call : Call) where
  abbrev AtMost : ℕ → CallPlace → Type 0
  AtMost n at = left_in cells call at ≤ n

  few_zeros : (frame : FrameNo) (cell : ℕ) → AtMost (cells - cell + 5) (zero_from cells frame cell)
  few_zeros frame cell = if_then (AtMost (cells - cell + 5)) (nat_lt cell cells) (Zero frame cell) (MarkZeros frame) (λ t. omega arith) (λ f. omega arith)

  module _ (found : ℕ) (loads : List ℕ) (names : NamesCells call) where
    few_ends : AtMost 1 (Release NotAsked found loads)
    few_ends = rw (cells_give_none call found names) (omega arith)

    few_stores : (i : ℕ) → AtMost (length (values_of loads call) - i + 2) (store_from call found loads i)
    few_stores i = if_then (AtMost (length (values_of loads call) - i + 2)) (nat_lt i (length (values_of loads call))) (Store found loads i) (Mark found loads) (λ t. omega arith) (λ f. omega arith)

    few_behind_loads : AtMost (length (values_of loads call) + min (length (values_of loads call)) 1 + 1) (behind_loads call found loads)
    few_behind_loads = if_then (AtMost (length (values_of loads call) + min (length (values_of loads call)) 1 + 1)) (length (values_of loads call) == 0) (Release NotAsked found loads) (Store found loads 0)
        (λ t. let one = few_ends in omega arith)
        (λ f. let some = eqb-false (length (values_of loads call)) 0 f in omega arith)

    few_loads : AtMost (load_count call - length loads + (length (values_of loads call) + min (length (values_of loads call)) 1 + 1)) (load_from call found loads)
    few_loads = if_then (AtMost (load_count call - length loads + (length (values_of loads call) + min (length (values_of loads call)) 1 + 1))) (nat_lt (length loads) (load_count call)) (Load found loads) (behind_loads call found loads)
        (λ t. omega arith) (λ f. let few = few_behind_loads in omega arith)

  few_cells : (found : ℕ) → NamesCells call → AtMost (load_count call + (length (values_of [] call) + min (length (values_of [] call)) 1 + 1)) (cells_behind call found)
  few_cells found names = if_then (AtMost (load_count call + (length (values_of [] call) + min (length (values_of [] call)) 1 + 1))) (mapped_bit found == 1) (load_from call found []) (Release NotAsked found [])
      (λ t. let few = few_loads found [] names in omega arith) (λ f. let one = few_ends found [] names in omega arith)

few_returns : (frame : Option FrameNo) → returns_left frame ≤ 1
few_returns None = omega arith
few_returns (Some frame) = omega arith

few_maps : (cells : ℕ) (kind : Kind) (lease : LeaseSeen) (found : ℕ) → AtMost cells (Alloc kind) 2 (map_behind kind lease found)
few_maps cells kind NotAsked found = let few = few_returns (frame_back (Alloc kind) NotAsked found) in omega arith
few_maps cells kind (Got frame) found = if_then (AtMost cells (Alloc kind) 2) (mapped_bit found == 1) (Release (Got frame) found []) (Map frame kind found)
    (λ t. let few = few_returns (frame_back (Alloc kind) (Got frame) found) in omega arith) (λ f. omega arith)
few_maps cells kind (Refused at) found = let few = few_returns (frame_back (Alloc kind) (Refused at) found) in omega arith

few_behind : (cells : ℕ) (call : Call) (lease : LeaseSeen) (found : ℕ) → AtMost cells call (behind_most call) (behind_draw call lease found)
few_behind cells (Alloc kind) lease found = few_maps cells kind lease found
few_behind cells Free lease found = if_then (AtMost cells Free 3) (is_freed found) (Unmap found) (Release NotAsked found [])
    (λ t. omega arith) (λ f. let few = few_returns (frame_back Free NotAsked found) in omega arith)
few_behind cells (Read first count) lease found = let few = few_cells cells (Read first count) found tt in omega arith
few_behind cells (Write first values) lease found = let few = few_cells cells (Write first values) found tt in omega arith
few_behind cells (Add cell value) lease found = let few = few_cells cells (Add cell value) found tt in omega arith
few_behind cells Pin lease found = omega arith
few_behind cells Unpin lease found = omega arith

few_lease : (cells : ℕ) (kind : Kind) (lease : LeaseSeen) → AtMost cells (Alloc kind) (cells + 5) (behind_lease cells lease)
few_lease cells kind NotAsked = omega arith
few_lease cells kind (Got frame) = let few = few_zeros cells (Alloc kind) frame 0 in omega arith
few_lease cells kind (Refused at) = omega arith

alloc_behind : (call : Call) → IsAlloc call → behind_most call ≡ 2
alloc_behind (Alloc kind) alloc = refl
alloc_behind Free alloc = absurd alloc
alloc_behind (Read first count) alloc = absurd alloc
alloc_behind (Write first values) alloc = absurd alloc
alloc_behind (Add cell value) alloc = absurd alloc
alloc_behind Pin alloc = absurd alloc
alloc_behind Unpin alloc = absurd alloc

map_gives : (call : Call) (kind : Kind) (frame : FrameNo) (found : ℕ) → call ≡ Alloc kind → mapped_bit found ≢ 1 → frame_back call (Got frame) found ≡ None
map_gives (Alloc other) kind frame found e ne = ap (λ (b : Bool). if b then Some frame else None) (ne_eqb (mapped_bit found) 1 ne)
map_gives Free kind frame found e ne = absurd cc
map_gives (Read first count) kind frame found e ne = refl
map_gives (Write first values) kind frame found e ne = refl
map_gives (Add cell value) kind frame found e ne = refl
map_gives Pin kind frame found e ne = refl
map_gives Unpin kind frame found e ne = refl

values_alike : (call : Call) (loads more : List ℕ) → length (values_of loads call) ≡ length (values_of more call)
values_alike (Alloc kind) loads more = refl
values_alike Free loads more = refl
values_alike (Read first count) loads more = refl
values_alike (Write first values) loads more = refl
values_alike (Add cell value) loads more = refl
values_alike Pin loads more = refl
values_alike Unpin loads more = refl

-- ---- the owner

taken_hears : (heard : Heard) → taken_bit (word_in heard) ≢ 0 → heard ≡ heards.Word (word_in heard)
taken_hears heards.Start taken = absurd (taken refl)
taken_hears (heards.Word word) taken = refl
taken_hears heards.Nothing taken = absurd (taken refl)
taken_hears (heards.Leased frame) taken = absurd (taken refl)
taken_hears (heards.NoFrame at) taken = absurd (taken refl)
taken_hears (heards.Block heard) taken = absurd (taken refl)
taken_hears (heards.Device heard) taken = absurd (taken refl)

module _ (cells : ℕ) (c : PageNo × Call) (cs : List (PageNo × Call)) (heard : Heard) where
  fewer_take : (n : ℕ) (here : Place) (lease : LeaseSeen) → behind_most c.1 + 1 < n → (taken_bit (word_in heard) ≢ 0 → ⊥) → left_at cells (behind_take here lease (word_in heard)) (c ∷ cs) < n + left_of cells cs
  fewer_take n here lease lt free = if_then (λ (p : Place). left_at cells p (c ∷ cs) < n + left_of cells cs) (taken_bit (word_in heard) == 0) (InCall (Draw lease (word_in heard))) here
      (λ t. omega arith) (λ f. absurd (free (eqb-false (taken_bit (word_in heard)) 0 f)))

  -- a take that is made again finds its page taken
  module _ (free : (word : ℕ) → heard ≡ heards.Word word → taken_bit word ≡ 1 → ⊥) where
    not_again : taken_bit (word_in heard) ≢ 0 → ⊥
    not_again taken = free (word_in heard) (taken_hears heard taken) (omega arith)

  fewer_in : (at : CallPlace) → ComesTo cells c.1 at → ((word : ℕ) → heard ≡ heards.Word word → ¬ FindsTaken (action_at c at) word)
      → left_at cells (place_behind cells c.1 at heard) (calls_behind c cs at) < left_in cells c.1 at + left_of cells cs
  fewer_in (Zero frame cell) way free = let few = few_zeros cells c.1 frame (cell + 1) in let lt = way.1 in omega arith
  fewer_in (MarkZeros frame) way free = omega arith
  fewer_in (Take lease) way free = fewer_take 4 (InCall (Take lease)) lease (let two = alloc_behind c.1 way.0 in omega arith) (not_again free)
  fewer_in (Draw lease found) way free = let few = few_behind cells c.1 lease found in omega arith
  fewer_in (Load found loads) way free =
      let few = few_loads cells c.1 found (loads ++ word_in heard ∷ []) way.0 in
      let same = values_alike c.1 loads (loads ++ word_in heard ∷ []) in
      let more = length-append loads (word_in heard ∷ []) in
      let lt = way.2 in
      omega arith
  fewer_in (Store found loads i) way free = let few = few_stores cells c.1 found loads way.0 (i + 1) in let lt = way.3 in omega arith
  fewer_in (Mark found loads) way free = let one = few_ends cells c.1 found loads way.0 in omega arith
  fewer_in (Map frame kind found) way free = rw (map_gives c.1 kind frame found way.0 way.1) (omega arith)
  fewer_in (Unmap found) way free = let few = few_returns (frame_back c.1 NotAsked found) in omega arith
  fewer_in (Release lease found loads) way free = omega arith

fewer_first : (cells : ℕ) (page : PageNo) (call : Call) (cs : List (PageNo × Call)) (heard : Heard) → ((word : ℕ) → heard ≡ heards.Word word → ¬ FindsTaken (first_action (page, call)) word)
    → left_at cells (behind_first cells call heard) ((page, call) ∷ cs) < most_actions cells call + left_of cells cs
fewer_first cells page (Alloc kind) cs heard free = let few = few_lease cells kind (lease_in heard) in omega arith
fewer_first cells page Free cs heard free = fewer_take cells (page, Free) cs heard 5 (Between None) NotAsked (omega arith) (not_again cells (page, Free) cs heard free)
fewer_first cells page (Read first count) cs heard free = fewer_take cells (page, Read first count) cs heard (count + 3) (Between None) NotAsked (omega arith) (not_again cells (page, Read first count) cs heard free)
fewer_first cells page (Write first values) cs heard free = fewer_take cells (page, Write first values) cs heard (length values + 4) (Between None) NotAsked (omega arith) (not_again cells (page, Write first values) cs heard free)
fewer_first cells page (Add cell value) cs heard free = fewer_take cells (page, Add cell value) cs heard 6 (Between None) NotAsked (omega arith) (not_again cells (page, Add cell value) cs heard free)
fewer_first cells page Pin cs heard free = fewer_take cells (page, Pin) cs heard 3 (Between None) NotAsked (omega arith) (not_again cells (page, Pin) cs heard free)
fewer_first cells page Unpin cs heard free = fewer_take cells (page, Unpin) cs heard 3 (Between None) NotAsked (omega arith) (not_again cells (page, Unpin) cs heard free)

module _ (owner cells : ℕ) where
  abbrev state : Place → List (PageNo × Call) → OwnerState
  state place left = record { owner = owner; cells = cells; left = left; place = place }

  fewer_at : (place : Place) (left : List (PageNo × Call)) (heard : Heard) → IsPlaced cells place left → owner_ended (state place left) ≡ false
      → ((word : ℕ) → heard ≡ heards.Word word → ¬ FindsTaken (next_action (state place left)) word) → actions_left (owner_after (state place left) heard) < actions_left (state place left)
  fewer_at (Between (Some frame)) left heard way going free = omega arith
  fewer_at (Between None) [] heard way going free = absurd cc
  fewer_at (Between None) (c ∷ cs) heard way going free =
      let sum = sum_by-cons (λ (x : PageNo × Call). most_actions cells x.1) c cs in
      let few = fewer_first cells c.0 c.1 cs heard free in
      omega arith
  fewer_at (InCall at) [] heard way going free = absurd way
  fewer_at (InCall at) (c ∷ cs) heard way going free = fewer_in cells c cs heard at way free

  some_most : (call : Call) → 0 < most_actions cells call
  some_most (Alloc kind) = omega arith
  some_most Free = omega arith
  some_most (Read first count) = omega arith
  some_most (Write first values) = omega arith
  some_most (Add cell value) = omega arith
  some_most Pin = omega arith
  some_most Unpin = omega arith

  some_in : (call : Call) (at : CallPlace) → 0 < left_in cells call at
  some_in call (Zero frame cell) = omega arith
  some_in call (MarkZeros frame) = omega arith
  some_in call (Take lease) = omega arith
  some_in call (Draw lease found) = omega arith
  some_in call (Load found loads) = omega arith
  some_in call (Store found loads i) = omega arith
  some_in call (Mark found loads) = omega arith
  some_in call (Map frame kind found) = omega arith
  some_in call (Unmap found) = omega arith
  some_in call (Release lease found loads) = omega arith

  ended_at : (place : Place) (left : List (PageNo × Call)) → IsPlaced cells place left → (actions_left (state place left) ≡ 0) ↔ (owner_ended (state place left) ≡ true)
  ended_at (Between None) [] way = ((λ e. refl), (λ e. omega arith))
  ended_at (Between None) (c ∷ cs) way =
      let some = some_most c.1 in
      let sum = sum_by-cons (λ (x : PageNo × Call). most_actions cells x.1) c cs in
      ((λ e. absurd (omega arith)), (λ e. absurd cc))
  ended_at (Between (Some frame)) [] way = ((λ e. absurd (omega arith)), (λ e. absurd cc))
  ended_at (Between (Some frame)) (c ∷ cs) way = ((λ e. absurd (omega arith)), (λ e. absurd cc))
  ended_at (InCall at) [] way = absurd way
  ended_at (InCall at) (c ∷ cs) way = let some = some_in c.1 at in ((λ e. absurd (omega arith)), (λ e. absurd cc))

pub actions_fewer : (a : OwnerState) (heard : Heard) → IsUnderWay a → owner_ended a ≡ false → ((word : ℕ) → heard ≡ heards.Word word → ¬ FindsTaken (next_action a) word)
    → actions_left (owner_after a heard) < actions_left a
actions_fewer a heard way going free = fewer_at a.owner a.cells a.place a.left heard way going free

pub none_left : (a : OwnerState) → IsUnderWay a → (actions_left a ≡ 0) ↔ (owner_ended a ≡ true)
none_left a way = ended_at a.owner a.cells a.place a.left way

-- ---- a take that is made again

module _ (owner cells : ℕ) (found : ℕ) where
  again_take : (left : List (PageNo × Call)) (here : Place) (lease : LeaseSeen) → taken_bit found ≡ 1 → ◌≡◌ {A = OwnerState} (state owner cells (behind_take here lease found) left) (state owner cells here left)
  again_take left here lease e = let other : (taken_bit found == 0) ≡ false = ne_eqb (taken_bit found) 0 (λ z. omega arith) in ap (λ (b : Bool). state owner cells (if b then InCall (Draw lease found) else here) left) other

  again_first : (page : PageNo) (call : Call) (cs : List (PageNo × Call)) → FindsTaken (first_action (page, call)) found
      → owner_after (state owner cells (Between None) ((page, call) ∷ cs)) (heards.Word found) ≡ state owner cells (Between None) ((page, call) ∷ cs)
  again_first page (Alloc kind) cs taken = absurd taken
  again_first page Free cs taken = again_take ((page, Free) ∷ cs) (Between None) NotAsked taken
  again_first page (Read first count) cs taken = again_take ((page, Read first count) ∷ cs) (Between None) NotAsked taken
  again_first page (Write first values) cs taken = again_take ((page, Write first values) ∷ cs) (Between None) NotAsked taken
  again_first page (Add cell value) cs taken = again_take ((page, Add cell value) ∷ cs) (Between None) NotAsked taken
  again_first page Pin cs taken = again_take ((page, Pin) ∷ cs) (Between None) NotAsked taken
  again_first page Unpin cs taken = again_take ((page, Unpin) ∷ cs) (Between None) NotAsked taken

  again_in : (c : PageNo × Call) (cs : List (PageNo × Call)) (at : CallPlace) → FindsTaken (action_at c at) found → owner_after (state owner cells (InCall at) (c ∷ cs)) (heards.Word found) ≡ state owner cells (InCall at) (c ∷ cs)
  again_in c cs (Zero frame cell) taken = absurd taken
  again_in c cs (MarkZeros frame) taken = absurd taken
  again_in c cs (Take lease) taken = again_take (c ∷ cs) (InCall (Take lease)) lease taken
  again_in c cs (Draw lease word) taken = absurd taken
  again_in c cs (Load word loads) taken = absurd taken
  again_in c cs (Store word loads i) taken = absurd taken
  again_in c cs (Mark word loads) taken = absurd taken
  again_in c cs (Map frame kind word) taken = absurd taken
  again_in c cs (Unmap word) taken = absurd taken
  again_in c cs (Release lease word loads) taken = absurd taken

  again_at : (place : Place) (left : List (PageNo × Call)) → FindsTaken (next_action (state owner cells place left)) found → owner_after (state owner cells place left) (heards.Word found) ≡ state owner cells place left
  again_at (Between (Some frame)) left taken = absurd taken
  again_at (Between None) [] taken = absurd taken
  again_at (Between None) (c ∷ cs) taken = again_first c.0 c.1 cs taken
  again_at (InCall at) [] taken = absurd taken
  again_at (InCall at) (c ∷ cs) taken = again_in c cs at taken

pub again : (a : OwnerState) (found : ℕ) → FindsTaken (next_action a) found → owner_after a (heards.Word found) ≡ a
again a found taken = again_at a.owner a.cells found a.place a.left taken
