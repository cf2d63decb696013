-- What contracts see of a replay.
use Rattle.std.specs.Prelude.{◌≡◌, ℕ, List, Option}
use Rattle.evac_model.specs.declared.host.HostCommand.{HostCommand}
use Rattle.evac_model.specs.declared.scenario.Drawn.{Drawn}
use Rattle.evac_model.specs.declared.scenario.Scenario.{Scenario}
use Rattle.evac_model.specs.declared.scenario.Turn.{Turn}
use Rattle.evac_model.specs.Geometry.{Sizes}
use Rattle.evac_model.specs.ScenarioGrammar.{call_count}
use Rattle.evac_model.specs.Scenarios.{IsRunnable}
use Rattle.replay.specs.declared.replay.Replay.TheInside.{Inside}
use Rattle.replay.specs.Running.{Run}
use Rattle.replay.specs.Runs.{setting, running_at_start}

-- the turns that are to be made, and the run at its start
pub record ReplayState : Type 0 where
  pub geometry : Sizes
  pub named : List Turn
  pub drawn : Option Drawn
  pub calls : ℕ
  pub commands : List HostCommand
  pub run : Run

-- the replay of a scenario
abbrev pub replay_of : Scenario → ReplayState
replay_of s = record {
  geometry = s.geometry;
  named = s.named;
  drawn = s.drawn;
  calls = call_count s.owners;
  commands = s.host;
  run = record { setting = setting s; running = running_at_start s };
}

abbrev pub state_of : Inside → ReplayState
state_of a = record { geometry = a.geometry; named = a.named; drawn = a.drawn; calls = a.calls; commands = a.commands; run = a.running }

-- it is that of some scenario
pub record IsReplay (a : Inside) : Type 0 where
  pub scenario : Scenario
  pub runnable : IsRunnable scenario
  pub is : state_of a ≡ replay_of scenario
