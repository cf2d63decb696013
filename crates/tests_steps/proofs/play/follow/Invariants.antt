use Rattle.core_state.specs.CoreState.{IsSound}
use Rattle.tests_steps.proofs.play.follow.Given as goal

abbrev pub invariant-loop-act : goal.invariant-loop-act
invariant-loop-act g l = IsSound l.core
