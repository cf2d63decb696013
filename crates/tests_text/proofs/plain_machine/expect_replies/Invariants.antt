use Rattle.std.proofs.Common.{◌≡◌}
use Rattle.tests_text.proofs.plain_machine.expect_replies.Given as goal

abbrev pub invariant-loop-times : goal.invariant-loop-times
invariant-loop-times g l = l.plain.sizes ≡ l.geometry

abbrev pub invariant-loop-time : goal.invariant-loop-time
invariant-loop-time g l = l.plain.sizes ≡ l.geometry
