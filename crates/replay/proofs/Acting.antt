-- The next action of an owner, and that of the host, may be made in a kept run.
use Rattle.std.proofs.Common.{◌≡◌, ℕ, suc, ◌<◌, false, [], length, Some, subst, arith}
use Rattle.std.specs.List.{slice_get}
use Rattle.std.proofs.lemmas.Option.{slice_get-get_or}
use Rattle.evac_model.specs.declared.scenario.Scenario.{Scenario}
use Rattle.evac_model.specs.HostCommands.{host_runs}
use Rattle.evac_model.specs.ScenarioGrammar.{online_of}
use Rattle.evac_model.specs.Scenarios.{IsRunnable}
use Rattle.evac_model.specs.Scripts.{script_of}
use Rattle.core_state.specs.declared.view.View.{View}
use Rattle.core_state.specs.Views.{Has, view_of}
use Rattle.core_state.proofs.Lists.{within}
use Rattle.core_state.proofs.Rooms.{seat_has}
use Rattle.core_actors.specs.Fits.{Fits}
use Rattle.core_actors.specs.Hosts.{host_ended, host_action}
use Rattle.core_actors.specs.Owners.{OwnerState, owner_at_start, owner_ended, next_action}
use Rattle.core_actors.proofs.HostMay.{host_may_make}
use Rattle.core_actors.proofs.MayMake.{owner_may_make}
use Rattle.machine.specs.Consistent.{IsSetting}
use Rattle.machine.specs.MayMake.{MayMake}
use Rattle.machine.specs.World.{IsOwnerSeat}
use Rattle.machine.proofs.Opened.{opened_set}
use Rattle.replay.specs.Keeping.{HaveNumbers, IsKept}
use Rattle.replay.specs.Running.{Running, owner_of}
use Rattle.replay.specs.Runs.{opening, setting, budgets_of}
use Rattle.replay.proofs.Starts.{may_start, setting_is}
use Rattle.replay.proofs.Storable.{next_storable}

-- the parts of a scenario's setting go together
pub setting_fits : (s : Scenario) → IsRunnable s → IsSetting (setting s)
setting_fits s r = subst IsSetting (setting_is s) (opened_set s.geometry (online_of s) s.start (budgets_of s.owners) s.fails (may_start s r))

-- ---- the seats

abbrev pub owner_view : Running → ℕ → View
owner_view m i = view_of m.world.snapshot.views (suc i)

module _ (s : Scenario) (m : Running) (kept : IsKept s m) where
  -- an owner's seat has its number
  pub owner_seat : (i : ℕ) → i < length m.owners → IsOwnerSeat (setting s) (suc i)
  owner_seat i below = (omega arith, let same = kept.seats.owners in omega arith)

  module _ (i : ℕ) (a : OwnerState) (at : slice_get m.owners i ≡ Some a) where
    pub owner_below : i < length s.owners
    owner_below = let lt = within m.owners i a at in let same = kept.seats.owners in omega arith

    pub owner_has : Has m.world.snapshot.views (suc i) (owner_view m i)
    owner_has = seat_has m.world.snapshot.views (suc i) (let lt = owner_below in let seats = kept.world.seats in omega arith)

    pub owner_fits : (a.owner ≡ suc i) × Fits s.geometry (opening s) (script_of s.owners (suc i)) (owner_view m i) a × HaveNumbers a.left
    owner_fits = kept.seats.fits i a (owner_view m i) at owner_has

-- ---- the next actions

pub may_act : (s : Scenario) (m : Running) (i : ℕ) → IsRunnable s → IsKept s m → i < length m.owners → owner_ended (owner_of m.owners (suc i)) ≡ false
    → MayMake (setting s) (suc i) m.world (next_action (owner_of m.owners (suc i)))
may_act s m i r kept below going =
    let a : OwnerState = owner_of m.owners (suc i) in
    let at : slice_get m.owners i ≡ Some a = slice_get-get_or m.owners i (owner_at_start 0 0 []) below in
    let fits = owner_fits s m kept i a at in
    owner_may_make (setting s) (suc i) m.world (owner_view m i) (script_of s.owners (suc i)) a kept.world (owner_seat s m kept i below) (owner_has s m kept i a at) fits.1
    (next_storable a fits.2) (λ frame has. kept.frames i a frame at has) going

pub host_may_act : (s : Scenario) (m : Running) → IsRunnable s → IsKept s m → host_ended m.host ≡ false → MayMake (setting s) 0 m.world (host_action m.host)
host_may_act s m r kept going = host_may_make (setting s) m.world (host_runs s.host m.lines) m.host (setting_fits s r) kept.world kept.host.kept going
