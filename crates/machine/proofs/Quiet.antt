-- No seat but the driver's has the right to move a page: at the start, and behind each action. So no step of another seat
-- needs room for a notice.
use Rattle.std.proofs.Common.{◌≡◌, ◌≢◌, ⊎_elim, ℕ, zero, suc, ◌+◌, ◌-◌, ◌<◌, Bool, false, List, [], ◌∷◌, ◌++◌, length, get_or, set, refl, ap, sym, ◌∙◌, subst, arith, Some, None}
use Rattle.std.proofs.lemmas.Option.{same_Some, none-some}
use Rattle.evac_model.specs.declared.scenario.StartPage.{StartPage}
use Rattle.evac_model.specs.Geometry.{Sizes}
use Rattle.evac_words.specs.Word.{bit_of}
use Rattle.core_state.specs.declared.keeper.Keeper.{Keeper}
use Rattle.core_state.specs.declared.snapshot.Snapshot.{Snapshot}
use Rattle.core_state.specs.declared.step.MoveStep.{MoveStep}
use Rattle.core_state.specs.declared.step.MoveStep.TheVariants.{Moving, Remap, Map, Unmap}
use Rattle.core_state.specs.declared.step.Step.{Step}
use Rattle.core_state.specs.declared.step.Step.TheVariants.{Take, Draw, Load, Store, Mark, Release}
use Rattle.core_state.specs.declared.view.View.{View}
use Rattle.core_state.specs.CoreOpens.{opening_views, owner_views, owner_view, scanner_view, keeper_view, keeper_views, free_hand, unplugged_hand}
use Rattle.core_state.specs.CoreState.{notices_of}
use Rattle.core_state.specs.HandOvers.{hand_without, hand_with}
use Rattle.core_state.specs.MoveSteps.{view_after_move}
use Rattle.core_state.specs.Steps.{view_after}
use Rattle.core_state.specs.Views.{Has, view_of}
use Rattle.core_state.proofs.Lists.{at_set}
use Rattle.core_state.proofs.Rooms.{seat_has}
use Rattle.machine.specs.Consistent.{IsQuiet, IsConsistent}
use Rattle.machine.specs.Made.{handed_frames}
use Rattle.machine.specs.World.{Setting, World, IsOwnerSeat, IsActorSeat}

-- ---- no right to move

pub mover_kept : (k : Keeper) (v : View) (step : Step) (found : ℕ) → (view_after k v step found).mover ≡ v.mover
mover_kept k v (Take page) found = refl
mover_kept k v Draw found = refl
mover_kept k v (Load cell) found = refl
mover_kept k v (Store frame cell value) found = refl
mover_kept k v (Mark frame) found = refl
mover_kept k v (Release None) found = refl
mover_kept k v (Release (Some d)) found = refl

pub move_keeps_mover : (k : Keeper) (v : View) (step : MoveStep) → (view_after_move k v step).mover ≡ v.mover
move_keeps_mover k v Moving = refl
move_keeps_mover k v (Remap frame) = refl
move_keeps_mover k v (Map frame kind) = refl
move_keeps_mover k v Unmap = refl

-- a step of a view without it needs no room for a notice
no_notices : (v : View) (step : Step) → v.mover ≡ [] → notices_of v step ≡ 0
no_notices v (Take page) e = ap (λ (m : List Bool). bit_of (get_or m page.0 false)) e
no_notices v Draw e = refl
no_notices v (Load cell) e = refl
no_notices v (Store frame cell value) e = refl
no_notices v (Mark frame) e = refl
no_notices v (Release end) e = refl

-- ---- an action keeps them so

-- a view at its seat, which isn't the driver's
pub quiet_at : (views : List View) (seat : ℕ) → seat < length views → IsQuiet views → (i : ℕ) → seat ≡ suc i → (view_of views seat).mover ≡ []
quiet_at views seat lt quiet i e = quiet i (view_of views seat) (subst (λ (k : ℕ). Has views k (view_of views seat)) e (seat_has views seat lt))

pub quiet_set : (views : List View) (seat : ℕ) (w : View) → ((i : ℕ) → seat ≡ suc i → w.mover ≡ []) → IsQuiet views → IsQuiet (set views seat w)
quiet_set views seat w none quiet = λ i u at. ⊎_elim
    (λ p. sym (ap (λ (x : View). x.mover) p.1) ∙ none i (sym p.0))
    (λ p. quiet i u p.1)
    (at_set views seat (suc i) w u at)

-- frames that change hands change nobody's right
pub quiet_handed : (s : Snapshot) (from to first n : ℕ) → from < length s.views → to < length s.views → IsQuiet s.views → IsQuiet (handed_frames s from to first n).views
quiet_handed s from to first n giver receiver quiet =
    let v = view_of s.views from in
    let w = view_of s.views to in
    quiet_set (set s.views from (record v { hand = hand_without v.hand first n })) to (record w { hand = hand_with w.hand v.hand first n }) (quiet_at s.views to receiver quiet)
    (quiet_set s.views from (record v { hand = hand_without v.hand first n }) (quiet_at s.views from giver quiet) quiet)

-- ---- the seats of the driver and of the owners

module _ (c : Setting) (w : World) (seat : ℕ) (k : IsConsistent c w) (actor : IsActorSeat c seat) where
  pub actor_there : seat < length w.snapshot.views
  actor_there = let seats = k.seats in omega arith

  pub mover_at : (i : ℕ) → seat ≡ suc i → (view_of w.snapshot.views seat).mover ≡ []
  mover_at = quiet_at w.snapshot.views seat actor_there k.quiet

  pub needs_no_room : (step : Step) → seat ≢ 0 → notices_of (view_of w.snapshot.views seat) step ≡ 0
  needs_no_room step other = no_notices (view_of w.snapshot.views seat) step (mover_at (seat - 1) (omega arith))

pub owner_there : (c : Setting) (w : World) (seat : ℕ) → IsConsistent c w → IsOwnerSeat c seat → seat < length w.snapshot.views
owner_there c w seat k owner = actor_there c w seat k owner.1

-- ---- at the opening

still_owners : (s : Sizes) (k : ℕ) (ns : List ℕ) (others : List View) → ((i : ℕ) (v : View) → Has others i v → v.mover ≡ []) → (i : ℕ) (v : View) → Has (owner_views s k ns ++ others) i v → v.mover ≡ []
still_owners s k [] others still i v at = still i v at
still_owners s k (n ∷ ns) others still zero v at = sym (ap (λ (x : View). x.mover) (same_Some (owner_view s k n) v at))
still_owners s k (n ∷ ns) others still (suc i) v at = still_owners s (k + 1) ns others still i v at

still_others : (s : Sizes) (start : List StartPage) (i : ℕ) (v : View) → Has (scanner_view s ∷ keeper_views s start) i v → v.mover ≡ []
still_others s start zero v at = sym (ap (λ (x : View). x.mover) (same_Some (scanner_view s) v at))
still_others s start (suc zero) v at = sym (ap (λ (x : View). x.mover) (same_Some (keeper_view s (Some []) (free_hand s start)) v at))
still_others s start (suc (suc zero)) v at = sym (ap (λ (x : View). x.mover) (same_Some (keeper_view s None (unplugged_hand s)) v at))
still_others s start (suc (suc (suc i))) v at = absurd (none-some v at)

pub quiet_start : (s : Sizes) (start : List StartPage) (budgets : List ℕ) → IsQuiet (opening_views s start budgets)
quiet_start s start budgets = λ i v at. still_owners s 1 budgets (scanner_view s ∷ keeper_views s start) (still_others s start) i v at
