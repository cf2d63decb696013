-- The parts of a run at its start.
use Rattle.std.specs.Prelude.{◌≡◌, List}
use Rattle.evac_model.specs.declared.scenario.Scenario.{Scenario}
use Rattle.evac_model.specs.DeviceAnswer.{device_at_start}
use Rattle.evac_model.specs.Scenarios.{IsRunnable}
use Rattle.core_actors.specs.HostInside.{HostView}
use Rattle.core_actors.specs.Hosts.{host_at_start}
use Rattle.core_actors.specs.Owners.{OwnerState}
use Rattle.machine.specs.World.{MachineState}
use Rattle.replay.specs.Runs.{setting, owners_from, running_at_start}

-- they are those of some scenario
pub record AreStartParts (machine : MachineState) (host : HostView) (owners : List OwnerState) : Type 0 where
  pub scenario : Scenario
  pub runnable : IsRunnable scenario
  pub set : machine.setting ≡ setting scenario
  pub world : machine.world ≡ (running_at_start scenario).world
  pub hosted : host.state ≡ host_at_start scenario.geometry (device_at_start scenario.geometry).plugged scenario.host
  pub owned : owners ≡ owners_from scenario.geometry.cells 1 scenario.owners
