use Rattle.std.proofs.Common.{◌≡◌, ◌+◌, drop}
use Rattle.evac_model.specs.ScenarioGrammar.{call_count}
use Rattle.replay.proofs.replay.calls_in.Given as goal

abbrev pub invariant-loop-script : goal.invariant-loop-script
invariant-loop-script l = l.calls + call_count (drop l.script-index l.scripts) ≡ call_count l.scripts
