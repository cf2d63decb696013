-- What every scenario that is read has.
use Rattle.std.specs.Prelude.{◌≡◌, ◌^◌, ◌<◌, ◌≤◌, true, length, IfSome}
use Rattle.std.specs.List.{AllByRecursion}
use Rattle.evac_model.specs.declared.names.PageNo.{PageNo}
use Rattle.evac_model.specs.declared.call.Call.{Call}
use Rattle.evac_model.specs.declared.scenario.Scenario.{Scenario}
use Rattle.evac_model.specs.Geometry.{Sizes, IsWithinLimits}
use Rattle.evac_model.specs.Calls.{IsCallFor}
use Rattle.evac_model.specs.FreeRuns.{fits}
use Rattle.evac_model.specs.StartPages.{AreStartPages}
use Rattle.evac_model.specs.Turns.{IsTurn, turn_count, IsDraw}
use Rattle.evac_model.specs.ScenarioLines.{HasNumbers, HasBytes}
use Rattle.evac_model.specs.ScenarioGrammar.{online_of, call_count}

-- a call that an owner of the machine may make, with numbers of 64 bits
pub record IsOwnerCall (s : Sizes) (c : PageNo × Call) : Type 0 where
  pub page : c.0.0 < s.pages
  pub call : IsCallFor s c.1
  pub numbers : HasNumbers c.1

-- a scenario that can be run, whichever calls of the backing fail in it
pub record IsRunnable (s : Scenario) : Type 0 where
  pub limits : IsWithinLimits s.geometry
  pub start : AreStartPages s.geometry s.start
  pub kinds : AllByRecursion (λ p. fits s.geometry (online_of s) p.kind p.frame.0 ≡ true) s.start
  pub named : AllByRecursion IsTurn s.named
  pub turns : turn_count s.named ≤ 2 ^ 24
  pub drawn : IfSome s.drawn IsDraw
  pub owners : length s.owners ≤ 16
  pub calls : AllByRecursion (λ script. AllByRecursion (IsOwnerCall s.geometry) script) s.owners
  pub count : call_count s.owners ≤ 2 ^ 20
  pub commands : AllByRecursion HasBytes s.host
  pub few : length s.host ≤ 256
