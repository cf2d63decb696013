use Rattle.std.proofs.Common.{◌≡◌, ◌++◌}
use Rattle.core_state.specs.CoreOpens.{empty_places}
use Rattle.core_state.proofs.open_hands.push_empty.Given as goal

abbrev pub invariant-loop-place : goal.invariant-loop-place
invariant-loop-place l = l.hand.items ≡ l.fn.hand.items ++ empty_places l._place
