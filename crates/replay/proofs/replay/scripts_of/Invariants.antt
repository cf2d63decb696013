use Rattle.std.proofs.Common.{◌≡◌, ◌++◌, drop}
use Rattle.replay.proofs.replay.scripts_of.Given as goal

abbrev pub invariant-loop-script : goal.invariant-loop-script
invariant-loop-script l = l.copies.items ++ drop l.script-index l.scripts ≡ l.scripts
