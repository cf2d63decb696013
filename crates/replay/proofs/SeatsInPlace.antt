-- What an action of one seat leaves of the others: the view of each other owner's seat, and all but the hands of those
-- behind the owners'.
use Rattle.std.proofs.Common.{◌≡◌, ◌≢◌, ⊎_elim, ℕ, zero, suc, ◌+◌, ◌-◌, ◌<◌, ◌≤◌, List, [], length, get_or, set, sym, ◌∙◌, subst, arith, Some}
use Rattle.std.specs.List.{slice_get}
use Rattle.std.proofs.lemmas.Bool.{cases_lt}
use Rattle.std.proofs.lemmas.Nat.{pow_pos}
use Rattle.std.proofs.lemmas.Option.{slice_get-get_or, get_or_from_slice_get}
use Rattle.evac_model.specs.declared.host.HostLine.{HostLine}
use Rattle.evac_model.specs.declared.scenario.Scenario.{Scenario}
use Rattle.evac_model.specs.Scenarios.{IsRunnable}
use Rattle.evac_model.specs.Scripts.{script_of}
use Rattle.core_state.specs.declared.view.View.{View}
use Rattle.core_state.specs.Views.{Has, view_of, spent}
use Rattle.core_state.proofs.Lists.{at_set, within}
use Rattle.core_state.proofs.Rooms.{seat_has}
use Rattle.machine.specs.declared.action.Action.{Action}
use Rattle.machine.specs.Consistent.{IsConsistent}
use Rattle.machine.specs.Made.{made}
use Rattle.machine.specs.MayMake.{MayMake}
use Rattle.machine.specs.World.{World}
use Rattle.machine.proofs.ActionsKept.{action_kept}
use Rattle.machine.proofs.Elsewhere.{other_owner, keeper_changes_hand}
use Rattle.core_actors.specs.Fits.{Fits}
use Rattle.core_actors.specs.Hosts.{HostState}
use Rattle.core_actors.specs.Owners.{OwnerState, owner_at_start}
use Rattle.replay.specs.Keeping.{HaveNumbers, IsInOrder, IsIdle, AreSeatsKept, IsKept}
use Rattle.replay.specs.Running.{Running}
use Rattle.replay.specs.Runs.{opening, setting}
use Rattle.replay.proofs.Acting.{setting_fits, owner_seat}
use Rattle.replay.proofs.IdleSeats.{IsButHand, idle_still}
use Rattle.replay.proofs.MovesInOrder.{hand_in_order}

-- what each owner's seat has
abbrev pub FitsAt : Scenario → ℕ → OwnerState → View → Type 0
FitsAt s j b w = (b.owner ≡ suc j) × Fits s.geometry (opening s) (script_of s.owners (suc j)) w b × HaveNumbers b.left

-- an owner's seat is as its script has it, and its tickets are in order
pub record IsOwnerKept (s : Scenario) (j : ℕ) (b : OwnerState) (w : View) : Type 0 where
  pub fits : FitsAt s j b w
  pub order : IsInOrder w

module _ (s : Scenario) (m : Running) (r : IsRunnable s) (kept : IsKept s m) (seat : ℕ) (x : Action) (may : MayMake (setting s) seat m.world x) where
  abbrev pub then : World
  then = (made (setting s) seat m.world x).world

  pub world_then : IsConsistent (setting s) then
  world_then = action_kept (setting s) seat m.world x (setting_fits s r) kept.world may

  -- ---- owners

  -- the seat of another owner has the view that it had
  pub owner_had : (j : ℕ) (u : View) → j < length m.owners → suc j ≢ seat → Has then.snapshot.views (suc j) u → Has m.world.snapshot.views (suc j) u
  owner_had j u below other has =
      let same = other_owner (setting s) seat m.world x (setting_fits s r) kept.world may (suc j) (owner_seat s m kept j below) other in
      subst (λ (v : View). Has m.world.snapshot.views (suc j) v) (sym same ∙ get_or_from_slice_get then.snapshot.views (suc j) u spent has)
      (seat_has m.world.snapshot.views (suc j) (let n = kept.seats.owners in let seats = kept.world.seats in omega arith))

  -- what holds of the owner that acted and of each other one, where that has its view still
  module _ (i : ℕ) (is : seat ≡ suc i) (b : OwnerState) (P : ℕ → OwnerState → View → Type 0) where
    pub each_owner : P i b (view_of then.snapshot.views (suc i)) → ((j : ℕ) (c : OwnerState) (u : View) → suc j ≢ seat → slice_get m.owners j ≡ Some c → Has m.world.snapshot.views (suc j) u → P j c u)
        → (j : ℕ) (c : OwnerState) (u : View) → slice_get (set m.owners (suc i - 1) b) j ≡ Some c → Has then.snapshot.views (suc j) u → P j c u
    each_owner own others j c u at has =
        let place : suc i - 1 ≡ i = omega arith in
        ⊎_elim
        (λ q. subst (λ (d : OwnerState). P j d u) q.1
        (subst (λ (w : View). P j b w) (get_or_from_slice_get then.snapshot.views (suc j) u spent has)
        (subst (λ (k : ℕ). P k b (view_of then.snapshot.views (suc k))) (sym q.0) own)))
        (λ q. let ne : suc j ≢ seat = λ e. q.0 (omega arith) in others j c u ne q.1 (owner_had j u (within m.owners j c q.1) ne has))
        (at_set m.owners i j b c (subst (λ (k : ℕ). slice_get (set m.owners k b) j ≡ Some c) place at))

  -- ---- the seats behind the owners'

  keeper_still : (j : ℕ) → length s.owners < j → j < length s.owners + 4 → IsButHand (view_of m.world.snapshot.views j) (view_of then.snapshot.views j)
  keeper_still j past there = record { same = keeper_changes_hand (setting s) seat m.world x (setting_fits s r) kept.world may j past there }

  -- such a seat has its view still but for the hand
  keeper_had : (j : ℕ) (u : View) → Has then.snapshot.views j u → length s.owners < j → (v : View) × Has m.world.snapshot.views j v × IsButHand v u
  keeper_had j u has past =
      let there : j < length s.owners + 4 = let a = within then.snapshot.views j u has in let n = world_then.seats in omega arith in (
        view_of m.world.snapshot.views j,
        seat_has m.world.snapshot.views j (let n = kept.world.seats in omega arith),
        subst (λ (w : View). IsButHand (view_of m.world.snapshot.views j) w) (get_or_from_slice_get then.snapshot.views j u spent has) (keeper_still j past there),
      )

  keeper_idle : (j : ℕ) (u : View) → Has then.snapshot.views j u → length s.owners < j → IsIdle (opening s) u
  keeper_idle j u has past =
      let had = keeper_had j u has past in
      let some : 1 ≤ s.geometry.cells = let q = r.limits.cells in let z = pow_pos q.0 in omega (arith, q.2, z) in
      idle_still (opening s) had.0 u some (kept.seats.others j had.0 had.1 past) had.2 (world_then.sound.seats.each j u has)

  keeper_in_order : (j : ℕ) (u : View) → Has then.snapshot.views j u → length s.owners < j → IsInOrder u
  keeper_in_order j u has past =
      let had = keeper_had j u has past in
      subst IsInOrder (sym had.2.same) (hand_in_order had.0 u.hand (kept.seats.in_order j had.0 had.1))

  -- the seats are kept, where those of the owners are, and the driver's tickets are in order
  module _ (l : List OwnerState) (host : HostState) (lines : List HostLine) (long : length l ≡ length m.owners) (driver : (u : View) → Has then.snapshot.views 0 u → IsInOrder u)
      (owners : (j : ℕ) (b : OwnerState) (u : View) → slice_get l j ≡ Some b → Has then.snapshot.views (suc j) u → IsOwnerKept s j b u) where
    in_order_then : (j : ℕ) (u : View) → Has then.snapshot.views j u → IsInOrder u
    in_order_then zero u has = driver u has
    in_order_then (suc k) u has = ⊎_elim
        (λ low. (owners k (get_or l k (owner_at_start 0 0 [])) u (slice_get-get_or l k (owner_at_start 0 0 []) (let n = kept.seats.owners in omega arith)) has).order)
        (λ high. keeper_in_order (suc k) u has (omega arith))
        (cases_lt k (length s.owners))

    pub seats_then : AreSeatsKept s (record { world = then; owners = l; host = host; lines = lines })
    seats_then = record {
      owners = long ∙ kept.seats.owners;
      fits = λ j b u at has. (owners j b u at has).fits;
      in_order = in_order_then;
      others = keeper_idle;
    }
