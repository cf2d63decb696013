use Rattle.std.proofs.Common.{ℕ, ◌<◌, ◌≤◌}
use Rattle.buddy.specs.FreeFrames.{IsNeither}
use Rattle.tests_space.proofs.runs.may_give.Given as goal

abbrev pub invariant-loop-k : goal.invariant-loop-k
invariant-loop-k l = (j : ℕ) → l.frame ≤ j → j < l.k → IsNeither l.runs j
