-- How a run is kept.
use Rattle.std.specs.Prelude.{◌≡◌}
use Rattle.evac_model.specs.declared.scenario.Scenario.{Scenario}
use Rattle.evac_model.specs.Scenarios.{IsRunnable}
use Rattle.replay.specs.declared.running.Running.TheInside.{Inside}
use Rattle.replay.specs.Keeping.{IsKept}
use Rattle.replay.specs.Running.{Running, Run}
use Rattle.replay.specs.Runs.{setting}

abbrev pub running_of : Inside → Running
running_of a = record { world = a.machine.world; owners = a.owners; host = a.host.state; lines = a.lines.items }

abbrev pub run_of : Inside → Run
run_of a = record { setting = a.machine.setting; running = running_of a }

-- it is the run of some scenario
pub record IsRunning (a : Inside) : Type 0 where
  pub scenario : Scenario
  pub runnable : IsRunnable scenario
  pub set : a.machine.setting ≡ setting scenario
  pub kept : IsKept scenario (running_of a)
