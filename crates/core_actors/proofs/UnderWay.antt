-- An owner under way stays so after each of its actions, whatever that gives.
use Rattle.std.proofs.Common.{◌≡◌, ◌≢◌, ℕ, eqb-true, ◌+◌, ◌<◌, ◌≤◌, ◌==◌, nat_lt, List, [], ◌∷◌, ◌++◌, length, length-append, refl, arith, Some, None}
use Rattle.std.proofs.lemmas.Bool.{eqb-false}
use Rattle.std.proofs.lemmas.Bool.Decides.{nat_tests}
use Rattle.evac_model.specs.declared.names.FrameNo.{FrameNo}
use Rattle.evac_model.specs.declared.names.Kind.{Kind}
use Rattle.evac_model.specs.declared.names.PageNo.{PageNo}
use Rattle.evac_model.specs.declared.call.Call.{Call}
use Rattle.evac_model.specs.declared.call.Call.TheVariants.{Alloc, Free, Read, Write, Add, Pin, Unpin}
use Rattle.evac_words.specs.Word.{taken_bit, mapped_bit}
use Rattle.machine.specs.declared.action.Heard.{Heard}
use Rattle.machine.specs.declared.action.Heard.TheVariants as heards
use Rattle.core_actors.specs.declared.action.LeaseSeen.{LeaseSeen}
use Rattle.core_actors.specs.declared.action.LeaseSeen.TheVariants.{NotAsked, Got, Refused}
use Rattle.core_actors.specs.declared.place.Place.{Place}
use Rattle.core_actors.specs.declared.place.Place.TheVariants.{Between, InCall}
use Rattle.core_actors.specs.declared.place.CallPlace.{CallPlace}
use Rattle.core_actors.specs.declared.place.CallPlace.TheVariants.{Zero, MarkZeros, Take, Draw, Load, Store, Mark, Map, Unmap, Release}
use Rattle.core_actors.specs.CallSteps.{load_count, values_of, is_freed}
use Rattle.core_actors.specs.Places.{word_in, lease_in, zero_from, behind_lease, behind_take, store_from, behind_loads, load_from, cells_behind, map_behind, behind_draw, behind_first, place_behind, calls_behind}
use Rattle.core_actors.specs.Owners.{OwnerState, owner_after}
use Rattle.core_actors.specs.Counts.{IsAlloc, NamesCells, IsLeaseOf, ComesTo, IsPlaced, IsUnderWay}
use Rattle.core_actors.proofs.Cases.{if_then}

pub cells_no_lease : (call : Call) → NamesCells call → IsLeaseOf call NotAsked
cells_no_lease (Alloc kind) names = absurd names
cells_no_lease Free names = absurd names
cells_no_lease (Read first count) names = refl
cells_no_lease (Write first values) names = refl
cells_no_lease (Add cell value) names = refl
cells_no_lease Pin names = absurd names
cells_no_lease Unpin names = absurd names

alloc_leases : (call : Call) (lease : LeaseSeen) → IsAlloc call → lease ≢ NotAsked → IsLeaseOf call lease
alloc_leases (Alloc kind) lease alloc some = some
alloc_leases Free lease alloc some = absurd alloc
alloc_leases (Read first count) lease alloc some = absurd alloc
alloc_leases (Write first values) lease alloc some = absurd alloc
alloc_leases (Add cell value) lease alloc some = absurd alloc
alloc_leases Pin lease alloc some = absurd alloc
alloc_leases Unpin lease alloc some = absurd alloc

lease_heard : (heard : Heard) → lease_in heard ≢ NotAsked
lease_heard heards.Start e = cc
lease_heard (heards.Word word) e = cc
lease_heard heards.Nothing e = cc
lease_heard (heards.Leased frame) e = cc
lease_heard (heards.NoFrame at) e = cc
lease_heard (heards.Block heard) e = cc
lease_heard (heards.Device heard) e = cc

-- ---- each place that a call comes to

module _ (cells : ℕ) (call : Call) where
  come_zero : (frame : FrameNo) (cell : ℕ) → IsAlloc call → ComesTo cells call (zero_from cells frame cell)
  come_zero frame cell alloc = if_then (ComesTo cells call) (nat_lt cell cells) (Zero frame cell) (MarkZeros frame) (λ t. (alloc, grind (arith, nat_tests))) (λ f. alloc)

  come_lease : (lease : LeaseSeen) → IsAlloc call → lease ≢ NotAsked → ComesTo cells call (behind_lease cells lease)
  come_lease NotAsked alloc some = absurd (some refl)
  come_lease (Got frame) alloc some = come_zero frame 0 alloc
  come_lease (Refused at) alloc some = (alloc, some)

  module _ (found : ℕ) (loads : List ℕ) (names : NamesCells call) (mapped : mapped_bit found ≡ 1) where
    come_store : (i : ℕ) → length loads ≡ load_count call → 0 < length (values_of loads call) → ComesTo cells call (store_from call found loads i)
    come_store i all some = if_then (ComesTo cells call) (nat_lt i (length (values_of loads call))) (Store found loads i) (Mark found loads) (λ t. (names, mapped, all, grind (arith, nat_tests))) (λ f. (names, mapped, all, some))

    come_loads : length loads ≡ load_count call → ComesTo cells call (behind_loads call found loads)
    come_loads all = if_then (ComesTo cells call) (length (values_of loads call) == 0) (Release NotAsked found loads) (Store found loads 0)
        (λ t. (cells_no_lease call names, λ e. all))
        (λ f. let some = eqb-false (length (values_of loads call)) 0 f in (names, mapped, all, omega arith))

    come_load : length loads ≤ load_count call → ComesTo cells call (load_from call found loads)
    come_load le = if_then (ComesTo cells call) (nat_lt (length loads) (load_count call)) (Load found loads) (behind_loads call found loads)
        (λ t. (names, mapped, grind (arith, nat_tests)))
        (λ f. come_loads (grind (arith, nat_tests)))

  come_cells : (found : ℕ) → NamesCells call → ComesTo cells call (cells_behind call found)
  come_cells found names = if_then (ComesTo cells call) (mapped_bit found == 1) (load_from call found []) (Release NotAsked found [])
      (λ t. come_load found [] names (eqb-true (mapped_bit found) 1 t) (omega arith))
      (λ f. (cells_no_lease call names, λ mapped. absurd (eqb-false (mapped_bit found) 1 f mapped)))

come_map : (cells : ℕ) (kind : Kind) (lease : LeaseSeen) (found : ℕ) → lease ≢ NotAsked → ComesTo cells (Alloc kind) (map_behind kind lease found)
come_map cells kind NotAsked found some = absurd (some refl)
come_map cells kind (Got frame) found some = if_then (ComesTo cells (Alloc kind)) (mapped_bit found == 1) (Release (Got frame) found []) (Map frame kind found)
    (λ t. (some, λ mapped. refl))
    (λ f. (refl, eqb-false (mapped_bit found) 1 f))
come_map cells kind (Refused at) found some = (some, λ mapped. refl)

come_draw : (cells : ℕ) (call : Call) (lease : LeaseSeen) (found : ℕ) → IsLeaseOf call lease → ComesTo cells call (behind_draw call lease found)
come_draw cells (Alloc kind) lease found is = come_map cells kind lease found is
come_draw cells Free lease found is = if_then (ComesTo cells Free) (is_freed found) (Unmap found) (Release NotAsked found []) (λ t. (refl, t)) (λ f. (refl, λ mapped. refl))
come_draw cells (Read first count) lease found is = come_cells cells (Read first count) found tt
come_draw cells (Write first values) lease found is = come_cells cells (Write first values) found tt
come_draw cells (Add cell value) lease found is = come_cells cells (Add cell value) found tt
come_draw cells Pin lease found is = (refl, λ mapped. refl)
come_draw cells Unpin lease found is = (refl, λ mapped. refl)

-- ---- the owner

module _ (owner cells : ℕ) where
  come_take : (c : PageNo × Call) (cs : List (PageNo × Call)) (here : Place) (lease : LeaseSeen) (word : ℕ) → IsPlaced cells here (c ∷ cs) → IsLeaseOf c.1 lease → IsPlaced cells (behind_take here lease word) (c ∷ cs)
  come_take c cs here lease word at is = if_then (λ (p : Place). IsPlaced cells p (c ∷ cs)) (taken_bit word == 0) (InCall (Draw lease word)) here (λ t. is) (λ f. at)

  come_first : (page : PageNo) (call : Call) (cs : List (PageNo × Call)) (heard : Heard) → IsPlaced cells (behind_first cells call heard) ((page, call) ∷ cs)
  come_first page (Alloc kind) cs heard = come_lease cells (Alloc kind) (lease_in heard) tt (lease_heard heard)
  come_first page Free cs heard = come_take (page, Free) cs (Between None) NotAsked (word_in heard) tt refl
  come_first page (Read first count) cs heard = come_take (page, Read first count) cs (Between None) NotAsked (word_in heard) tt refl
  come_first page (Write first values) cs heard = come_take (page, Write first values) cs (Between None) NotAsked (word_in heard) tt refl
  come_first page (Add cell value) cs heard = come_take (page, Add cell value) cs (Between None) NotAsked (word_in heard) tt refl
  come_first page Pin cs heard = come_take (page, Pin) cs (Between None) NotAsked (word_in heard) tt refl
  come_first page Unpin cs heard = come_take (page, Unpin) cs (Between None) NotAsked (word_in heard) tt refl

  come_on : (c : PageNo × Call) (cs : List (PageNo × Call)) (at : CallPlace) (heard : Heard) → ComesTo cells c.1 at → IsPlaced cells (place_behind cells c.1 at heard) (calls_behind c cs at)
  come_on c cs (Zero frame cell) heard at = come_zero cells c.1 frame (cell + 1) at.0
  come_on c cs (MarkZeros frame) heard at = (at, λ e. cc)
  come_on c cs (Take lease) heard at = come_take c cs (InCall (Take lease)) lease (word_in heard) at (alloc_leases c.1 lease at.0 at.1)
  come_on c cs (Draw lease found) heard at = come_draw cells c.1 lease found at
  come_on c cs (Load found loads) heard at =
      let few = at.2 in
      come_load cells c.1 found (loads ++ word_in heard ∷ []) at.0 at.1 (let more = length-append loads (word_in heard ∷ []) in omega arith)
  come_on c cs (Store found loads i) heard at = come_store cells c.1 found loads at.0 at.1 (i + 1) at.2 (let lt = at.3 in omega arith)
  come_on c cs (Mark found loads) heard at = (cells_no_lease c.1 at.0, λ mapped. at.2)
  come_on c cs (Map frame kind found) heard at = (map_lease c.1 at.0, λ mapped. absurd (at.1 mapped))
    where
      map_lease : (call : Call) → call ≡ Alloc kind → IsLeaseOf call (Got frame)
      map_lease (Alloc other) e = λ f. cc
      map_lease Free e = absurd cc
      map_lease (Read first count) e = absurd cc
      map_lease (Write first values) e = absurd cc
      map_lease (Add cell value) e = absurd cc
      map_lease Pin e = absurd cc
      map_lease Unpin e = absurd cc
  come_on c cs (Unmap found) heard at = free_ends c.1 at.0
    where
      free_ends : (call : Call) → call ≡ Free → ComesTo cells call (Release NotAsked found [])
      free_ends (Alloc kind) e = absurd cc
      free_ends Free e = (refl, λ mapped. refl)
      free_ends (Read first count) e = absurd cc
      free_ends (Write first values) e = absurd cc
      free_ends (Add cell value) e = absurd cc
      free_ends Pin e = absurd cc
      free_ends Unpin e = absurd cc
  come_on c cs (Release lease found loads) heard at = tt

  stays_at : (place : Place) (left : List (PageNo × Call)) (heard : Heard) → IsPlaced cells place left → IsUnderWay (owner_after (record { owner = owner; cells = cells; left = left; place = place }) heard)
  stays_at (Between (Some frame)) left heard at = tt
  stays_at (Between None) [] heard at = tt
  stays_at (Between None) ((page, call) ∷ cs) heard at = come_first page call cs heard
  stays_at (InCall at) [] heard way = absurd way
  stays_at (InCall at) (c ∷ cs) heard way = come_on c cs at heard way

pub stays_under_way : (a : OwnerState) (heard : Heard) → IsUnderWay a → IsUnderWay (owner_after a heard)
stays_under_way a heard way = stays_at a.owner a.cells a.place a.left heard way
