use Rattle.core_state.specs.CoreState.{IsSound}
use Rattle.tests_steps.proofs.holders.pinned.Given as goal

abbrev pub invariant-loop-pin : goal.invariant-loop-pin
invariant-loop-pin l = IsSound l.core
