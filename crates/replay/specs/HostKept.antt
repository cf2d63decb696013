-- How the host goes with its lines.
use Rattle.std.specs.Prelude.{◌≡◌, length, drop}
use Rattle.evac_model.specs.declared.scenario.Scenario.{Scenario}
use Rattle.evac_model.specs.HostCommands.{host_runs}
use Rattle.core_actors.specs.HostKept.{HostKept}
use Rattle.replay.specs.Running.{Running}
use Rattle.replay.specs.Runs.{setting}

-- The driver's seat, the frame space and the device are as the host's place has them, and the commands that have ended did
-- what their lines say. Those that haven't are the ones without a line.
pub record IsHostKept (s : Scenario) (m : Running) : Type 0 where
  pub kept : HostKept (setting s) m.world (host_runs s.host m.lines) m.host
  pub left : m.host.left ≡ drop (length m.lines) s.host
