use Rattle.std.proofs.Common.{◌≡◌}
use Rattle.tests_run.proofs.plain.are_answered_alike.Given as goal

abbrev pub invariant-loop-e : goal.invariant-loop-e
invariant-loop-e g l = l.plain.sizes ≡ l.geometry
