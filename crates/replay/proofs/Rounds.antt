-- In a round over all actors that begins before all of them have ended, the host makes an action, or some owner
-- makes one that is no take that finds its page taken.
use Rattle.std.proofs.Common.{◌≡◌, ℕ, zero, suc, ◌+◌, ◌<◌, ◌≤◌, Bool, true, false, List, [], ◌∷◌, ◌++◌, length, map, get_or, refl, sym, subst, ap, ◌∙◌, arith, Option, Some, None}
use Rattle.std.specs.List.{sum_by, slice_get, range_with_len}
use Rattle.std.proofs.lemmas.Option.{same_Some, none-some, slice_get-get_or}
use Rattle.std.proofs.lemmas.Bool.{false_from_ne_true}
use mathlib.Core.Logic.{dite}
use native.Mathlib.Decide.{ℕ_discrete, dec_lt}
use Rattle.evac_model.specs.declared.names.PageNo.{PageNo}
use Rattle.evac_model.specs.declared.call.Call.{Call}
use Rattle.evac_model.specs.declared.scenario.Actor.{Actor}
use Rattle.evac_model.specs.declared.scenario.Actor.TheVariants.{Owner, Host, Scanner}
use Rattle.evac_model.specs.declared.scenario.Scenario.{Scenario}
use Rattle.evac_model.specs.Scenarios.{IsRunnable}
use Rattle.evac_model.specs.Scripts.{script_of}
use Rattle.evac_words.specs.Word.{taken_bit}
use Rattle.core_state.specs.declared.held.Held.{Held}
use Rattle.core_state.specs.declared.step.Step.TheVariants.{Take, Draw, Load, Store, Mark, Release}
use Rattle.core_state.specs.Words.{entry_word_of}
use Rattle.core_state.specs.Views.{holds_page, holders}
use Rattle.core_state.specs.Histories.{AllLetGo}
use Rattle.core_state.proofs.Lists.{within, set_else, member_le_sum_by, sum_by_member, sum_by_none}
use Rattle.machine.specs.declared.action.Action.{Action}
use Rattle.machine.specs.declared.action.Action.TheVariants as actions
use Rattle.core_actors.specs.declared.place.Place.{Place}
use Rattle.core_actors.specs.declared.place.Place.TheVariants.{Between, InCall}
use Rattle.core_actors.specs.declared.place.CallPlace.{CallPlace}
use Rattle.core_actors.specs.declared.place.CallPlace.TheVariants.{Zero, MarkZeros, Map, Unmap}
use Rattle.core_actors.specs.declared.place.CallPlace.TheVariants as places
use Rattle.core_actors.specs.Hosts.{host_ended}
use Rattle.core_actors.specs.Owners.{OwnerState, owner_at_start, owner_ended, next_action, owner_after}
use Rattle.core_actors.specs.Counts.{actions_left, FindsTaken}
use Rattle.core_actors.specs.Places.{action_at}
use Rattle.core_actors.specs.Fits.{PageHeld, has_in, seat_has, Holds}
use Rattle.core_actors.proofs.Allowed.{next_step_allowed}
use Rattle.core_actors.proofs.Left.{none_left}
use Rattle.replay.specs.Running.{Running, after_turn, after_turns}
use Rattle.replay.specs.Schedule.{actors, rounds}
use Rattle.replay.specs.Runs.{opening, setting}
use Rattle.replay.specs.Keeping.{IsKept}
use Rattle.replay.proofs.Acting.{owner_view, owner_has, owner_fits}
use Rattle.replay.proofs.ActionsLeft.{owner_actions_left, all_actions_left, host_none_left, action_lowers, host_lowers, turn_never_raises, TurnsKeep, turns_keep, turns_never_raise}
use Rattle.replay.proofs.DriverSeat.{driver_lets_go}
use Rattle.replay.proofs.Turns.{after_turns-append, found_by, found_at, heard_at, TurnOf, rests, acts, host_acts, turn_of, owners_after, host_stays}

-- ---- an owner that holds a page

-- the owner has taken the page of its call
abbrev is_page : Option PageHeld → ℕ
is_page None = 0
is_page (Some page) = 1

abbrev made_holding : OwnerState → ℕ
made_holding a = is_page (seat_has a).page

no_take : (cells : ℕ) (c : PageNo × Call) (at : CallPlace) (word : ℕ) → 0 < is_page (has_in cells c.1 at).page → ¬ FindsTaken (action_at c at) word
no_take cells c (Zero frame cell) word some = absurd (omega arith)
no_take cells c (MarkZeros frame) word some = absurd (omega arith)
no_take cells c (places.Take lease) word some = absurd (omega arith)
no_take cells c (places.Draw lease found) word some = λ h. h
no_take cells c (places.Load found loads) word some = λ h. h
no_take cells c (places.Store found loads i) word some = λ h. h
no_take cells c (places.Mark found loads) word some = λ h. h
no_take cells c (Map frame kind found) word some = λ h. h
no_take cells c (Unmap found) word some = λ h. h
no_take cells c (places.Release lease found loads) word some = λ h. h

module _ (owner cells : ℕ) where
  abbrev state : Place → List (PageNo × Call) → OwnerState
  state place left = record { owner = owner; cells = cells; left = left; place = place }

  goes_on : (place : Place) (left : List (PageNo × Call)) (word : ℕ) → 0 < made_holding (state place left) → (owner_ended (state place left) ≡ false) × (¬ FindsTaken (next_action (state place left)) word)
  goes_on (Between back) left word some = absurd (omega arith)
  goes_on (InCall at) [] word some = absurd (omega arith)
  goes_on (InCall at) (c ∷ cs) word some = (refl, no_take cells c at word some)

-- no page is held before the take of a call
held_none : (size : ℕ) (left : List (PageNo × Call)) (page : Option PageHeld) (held : Option Held) → is_page page ≡ 0 → Holds size left page held → held ≡ None
held_none size left None held none h = h
held_none size left (Some page) held none h = absurd (omega arith)

zero_not_one : (n : ℕ) → n ≡ 0 → ¬ (n ≡ 1)
zero_not_one n z e = omega arith

module _ (s : Scenario) (m : Running) (kept : IsKept s m) where
  -- an owner that holds a page goes on with its call
  holder_goes_on : (i : ℕ) (a : OwnerState) → slice_get m.owners i ≡ Some a → 0 < made_holding a → (owner_ended a ≡ false) × (¬ FindsTaken (next_action a) (found_at (setting s) m i a))
  holder_goes_on i a at some =
      goes_on a.owner a.cells a.place a.left (found_at (setting s) m i a) some

  holder_lowers : (i : ℕ) (a : OwnerState) → slice_get m.owners i ≡ Some a → 0 < made_holding a → all_actions_left (after_turn (setting s) m (Owner (suc i))) < all_actions_left m
  holder_lowers i a at some = let on = holder_goes_on i a at some in action_lowers s m kept i a at on.0 on.1

  module _ (ended : host_ended m.host ≡ true) (none : (i : ℕ) (a : OwnerState) → slice_get m.owners i ≡ Some a → made_holding a ≡ 0) where
    -- where the host has ended, and no owner has taken the page of its call, nobody holds a page
    all_let_go : AllLetGo m.world.snapshot.views
    all_let_go zero v at = driver_lets_go s m kept.host v at ended
    all_let_go (suc i) v at = dite (dec_lt i (length m.owners))
        (λ lt.
        let a : OwnerState = get_or m.owners i (owner_at_start 0 0 []) in
        let here : slice_get m.owners i ≡ Some a = slice_get-get_or m.owners i (owner_at_start 0 0 []) lt in
        let fits = (kept.seats.fits i a v here at).1 in
        held_none (opening s).cells a.left (seat_has a).page v.held (none i a here) fits.has.held)
        (λ past. (kept.seats.others (suc i) v at (omega (arith, kept.seats.owners))).rests.holds_none)

    nobody_holds : (page : ℕ) → holders page m.world.snapshot.views ≡ 0
    nobody_holds page = sum_by_none (λ v. holds_page page v.held) m.world.snapshot.views (λ i v at. ap (holds_page page) (all_let_go i v at))

    free_word : (page : ℕ) → page < (opening s).pages → taken_bit (entry_word_of m.world.snapshot.words page) ≡ 0
    free_word page lt = sym (kept.world.sound.turn.taken_by_one page lt) ∙ nobody_holds page

    finds_free : (i : ℕ) (a : OwnerState) (x : Action) → slice_get m.owners i ≡ Some a → owner_ended a ≡ false → next_action a ≡ x → ¬ FindsTaken x (found_by (setting s) (suc i) m.world x)
    finds_free i a (actions.Step (Take page)) at going is =
        let may = next_step_allowed s.geometry (opening s) m.world.snapshot.words m.world.snapshot.views (suc i) (owner_view m i) (script_of s.owners (suc i)) a (Take page) (owner_has s m kept i a at) kept.world.sound.pages (owner_fits s m kept i a at).1 going is tt in
        zero_not_one (taken_bit (entry_word_of m.world.snapshot.words page.0)) (free_word page.0 may.in_range)
    finds_free i a (actions.Step Draw) at going is = λ h. h
    finds_free i a (actions.Step (Load cell)) at going is = λ h. h
    finds_free i a (actions.Step (Store frame cell value)) at going is = λ h. h
    finds_free i a (actions.Step (Mark frame)) at going is = λ h. h
    finds_free i a (actions.Step (Release end)) at going is = λ h. h
    finds_free i a (actions.Move step) at going is = λ h. h
    finds_free i a (actions.Space call) at going is = λ h. h
    finds_free i a (actions.Block call) at going is = λ h. h
    finds_free i a (actions.Device call) at going is = λ h. h
    finds_free i a actions.Ended at going is = λ h. h

    free_lowers : (i : ℕ) (a : OwnerState) → slice_get m.owners i ≡ Some a → owner_ended a ≡ false → all_actions_left (after_turn (setting s) m (Owner (suc i))) < all_actions_left m
    free_lowers i a at going = action_lowers s m kept i a at going (finds_free i a (next_action a) at going refl)

  going_on : (i : ℕ) (a : OwnerState) → slice_get m.owners i ≡ Some a → 0 < actions_left a → owner_ended a ≡ false
  going_on i a at some =
      let fits = (owner_fits s m kept i a at).1 in
      false_from_ne_true (owner_ended a) (λ ended. let none = (none_left a fits.under_way).1 ended in omega arith)

-- ---- the turns of a round

module _ (s : Scenario) (run : IsRunnable s) (keep : TurnsKeep s) where
  -- a turn of an actor that lowers the actions left, and turns after it
  turn_then : (m : Running) (x actor : Actor) (xs : List Actor) → IsKept s m → x ≡ actor → all_actions_left (after_turn (setting s) m actor) < all_actions_left m
      → all_actions_left (after_turns (setting s) m (x ∷ xs)) < all_actions_left m
  turn_then m x actor xs kept is lower =
      let same = ap (λ (y : Actor). all_actions_left (after_turn (setting s) m y)) is in
      let rest = turns_never_raise s keep run (after_turn (setting s) m x) xs (keep m x kept) in
      omega arith

  -- turns, among them one of an owner that holds a page
  holder_round : (m : Running) (xs : List Actor) (i j : ℕ) (a : OwnerState) → IsKept s m → slice_get m.owners i ≡ Some a → 0 < made_holding a → slice_get xs j ≡ Some (Owner (suc i))
      → all_actions_left (after_turns (setting s) m xs) < all_actions_left m
  holder_round m [] i j a kept at some there = absurd (none-some (Owner (suc i)) there)
  holder_round m (x ∷ xs) i zero a kept at some there = turn_then m x (Owner (suc i)) xs kept (same_Some x (Owner (suc i)) there) (holder_lowers s m kept i a at some)
  holder_round m (x ∷ xs) i (suc j) a kept at some there =
      by_kind (turn_of (setting s) m x) (λ still. holder_round (after_turn (setting s) m x) xs i j a (keep m x kept) still some there) where
        by_kind : TurnOf (setting s) m x → (slice_get (after_turn (setting s) m x).owners i ≡ Some a → all_actions_left (after_turns (setting s) m (x ∷ xs)) < all_actions_left (after_turn (setting s) m x))
            → all_actions_left (after_turns (setting s) m (x ∷ xs)) < all_actions_left m
        by_kind (rests e) later =
            let lower = later (ap (λ (w : Running). slice_get w.owners i) e ∙ at) in
            let same = ap all_actions_left e in
            omega arith
        by_kind (acts k b is here going) later = dite (ℕ_discrete k i)
            (λ same. turn_then m x (Owner (suc i)) xs kept (is ∙ ap (λ (n : ℕ). Owner (suc n)) same) (holder_lowers s m kept i a at some))
            (λ apart.
            let still : slice_get (after_turn (setting s) m x).owners i ≡ Some a =
            ap (λ (y : Actor). slice_get (after_turn (setting s) m y).owners i) is
            ∙ ap (λ (l : List OwnerState). slice_get l i) (owners_after (setting s) m k b here going)
            ∙ set_else m.owners k i (owner_after b (heard_at (setting s) m k b)) (λ e. apart (sym e))
            ∙ at in
            let lower = later still in
            let less = turn_never_raises s m kept run x in
            omega arith)
        by_kind (host_acts is going) later = turn_then m x Host xs kept is (host_lowers s m kept run going)

  -- turns, among them one of an owner that hasn't ended, where the host has and nobody holds a page
  free_round : (m : Running) (xs : List Actor) (i j : ℕ) (a : OwnerState) → IsKept s m → host_ended m.host ≡ true → ((k : ℕ) (b : OwnerState) → slice_get m.owners k ≡ Some b → made_holding b ≡ 0)
      → slice_get m.owners i ≡ Some a → owner_ended a ≡ false → slice_get xs j ≡ Some (Owner (suc i)) → all_actions_left (after_turns (setting s) m xs) < all_actions_left m
  free_round m [] i j a kept ended none at going there = absurd (none-some (Owner (suc i)) there)
  free_round m (x ∷ xs) i zero a kept ended none at going there = turn_then m x (Owner (suc i)) xs kept (same_Some x (Owner (suc i)) there) (free_lowers s m kept ended none i a at going)
  free_round m (x ∷ xs) i (suc j) a kept ended none at going there = by_kind (turn_of (setting s) m x) (free_round m xs i j a kept ended none at going there) where
    by_kind : TurnOf (setting s) m x → all_actions_left (after_turns (setting s) m xs) < all_actions_left m → all_actions_left (after_turns (setting s) m (x ∷ xs)) < all_actions_left m
    by_kind (rests e) later = subst (λ (w : Running). all_actions_left (after_turns (setting s) w xs) < all_actions_left m) (sym e) later
    by_kind (acts k b is here goes) later = turn_then m x (Owner (suc k)) xs kept is (free_lowers s m kept ended none k b here goes)
    by_kind (host_acts is goes) later = turn_then m x Host xs kept is (host_lowers s m kept run goes)

  -- turns, among them one of the host, which hasn't ended
  host_round : (m : Running) (xs : List Actor) (j : ℕ) → IsKept s m → host_ended m.host ≡ false → slice_get xs j ≡ Some Host → all_actions_left (after_turns (setting s) m xs) < all_actions_left m
  host_round m [] j kept going there = absurd (none-some Host there)
  host_round m (x ∷ xs) zero kept going there = turn_then m x Host xs kept (same_Some x Host there) (host_lowers s m kept run going)
  host_round m (x ∷ xs) (suc j) kept going there =
      by_kind (turn_of (setting s) m x) (λ still. host_round (after_turn (setting s) m x) xs j (keep m x kept) (ap host_ended still ∙ going) there) where
        by_kind : TurnOf (setting s) m x → ((after_turn (setting s) m x).host ≡ m.host → all_actions_left (after_turns (setting s) m (x ∷ xs)) < all_actions_left (after_turn (setting s) m x))
            → all_actions_left (after_turns (setting s) m (x ∷ xs)) < all_actions_left m
        by_kind (rests e) later =
            let lower = later (ap (λ (w : Running). w.host) e) in
            let same = ap all_actions_left e in
            omega arith
        by_kind (acts k b is here goes) later =
            let lower = later (ap (λ (y : Actor). (after_turn (setting s) m y).host) is ∙ host_stays (setting s) m (suc k)) in
            let less = turn_never_raises s m kept run x in
            omega arith
        by_kind (host_acts is goes) later = turn_then m x Host xs kept is (host_lowers s m kept run goes)

-- each owner and the host have their turns in a round
owners_at : (first n i : ℕ) (rest : List Actor) → i < n → slice_get (map (λ k. Owner k) (range_with_len first n) ++ rest) i ≡ Some (Owner (first + i))
owners_at first zero i rest lt = absurd (omega arith)
owners_at first (suc n) zero rest lt = let e : first ≡ first + 0 = omega arith in ap (λ (k : ℕ). Some (Owner k)) e
owners_at first (suc n) (suc i) rest lt =
    let e : first + 1 + i ≡ first + suc i = omega arith in
    owners_at (first + 1) n i rest (omega arith) ∙ ap (λ (k : ℕ). Some (Owner k)) e

actors_at : (n i : ℕ) → i < n → slice_get (actors n) i ≡ Some (Owner (suc i))
actors_at n i lt = let e : 1 + i ≡ suc i = omega arith in owners_at 1 n i (Host ∷ Scanner ∷ []) lt ∙ ap (λ (k : ℕ). Some (Owner k)) e

host_behind : (first n : ℕ) → slice_get (map (λ k. Owner k) (range_with_len first n) ++ Host ∷ Scanner ∷ []) n ≡ Some Host
host_behind first zero = refl
host_behind first (suc n) = host_behind (first + 1) n

module _ (s : Scenario) (run : IsRunnable s) (keep : TurnsKeep s) where
  abbrev all_actors : List Actor
  all_actors = actors (length s.owners)

  there_at : (m : Running) (i : ℕ) (a : OwnerState) → IsKept s m → slice_get m.owners i ≡ Some a → slice_get all_actors i ≡ Some (Owner (suc i))
  there_at m i a kept at = actors_at (length s.owners) i (omega (arith, within m.owners i a at, kept.seats.owners))

  host_there : slice_get all_actors (length s.owners) ≡ Some Host
  host_there = host_behind 1 (length s.owners)

  owners_round : (m : Running) → IsKept s m → host_ended m.host ≡ true → 0 < owner_actions_left m.owners → all_actions_left (after_turns (setting s) m all_actors) < all_actions_left m
  owners_round m kept ended some = dite (ℕ_discrete (sum_by (λ a. made_holding a) m.owners) 0)
      (λ none.
      let p = sum_by_member actions_left m.owners some in
      let no_holder : (k : ℕ) (b : OwnerState) → slice_get m.owners k ≡ Some b → made_holding b ≡ 0 = λ k b at. (let few = member_le_sum_by (λ (x : OwnerState). made_holding x) m.owners k b at in omega arith) in
      free_round s run keep m all_actors p.0 p.0 p.1 kept ended no_holder p.2 (going_on s m kept p.0 p.1 p.2 p.3) (there_at m p.0 p.1 kept p.2))
      (λ more.
      let p = sum_by_member (λ (x : OwnerState). made_holding x) m.owners (omega arith) in
      holder_round s run keep m all_actors p.0 p.0 p.1 kept p.2 p.3 (there_at m p.0 p.1 kept p.2))

  round_lowers : (m : Running) → IsKept s m → 0 < all_actions_left m → all_actions_left (after_turns (setting s) m all_actors) < all_actions_left m
  round_lowers m kept some = by_host (host_ended m.host) refl where
    by_host : (b : Bool) → host_ended m.host ≡ b → all_actions_left (after_turns (setting s) m all_actors) < all_actions_left m
    by_host true ended = owners_round m kept ended (let none = (host_none_left s m kept).1 ended in omega arith)
    by_host false going = host_round s run keep m all_actors (length s.owners) kept going host_there

  -- no action is left after as many rounds as there were actions left
  pub rounds_end : (n : ℕ) (m : Running) → IsKept s m → all_actions_left m ≤ n → all_actions_left (after_turns (setting s) m (rounds all_actors n)) ≡ 0
  rounds_end zero m kept few = omega arith
  rounds_end (suc n) m kept few =
      let next : Running = after_turns (setting s) m all_actors in
      let fewer : all_actions_left next ≤ n = dite (ℕ_discrete (all_actions_left m) 0)
      (λ none. omega (arith, turns_never_raise s keep run m all_actors kept))
      (λ more. omega (arith, round_lowers m kept (omega arith))) in
      ap all_actions_left (after_turns-append (setting s) m all_actors (rounds all_actors n)) ∙ rounds_end n next (turns_keep s keep m all_actors kept) fewer
