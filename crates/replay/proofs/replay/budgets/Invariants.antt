use Rattle.std.proofs.Common.{◌≡◌, ◌++◌, drop}
use Rattle.replay.specs.Runs.{budgets_of}
use Rattle.replay.proofs.replay.budgets.Given as goal

abbrev pub invariant-loop-script : goal.invariant-loop-script
invariant-loop-script l = l.lengths.items ++ budgets_of (drop l.script-index l.scripts) ≡ budgets_of l.scripts
