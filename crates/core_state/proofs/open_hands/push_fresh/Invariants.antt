use Rattle.std.proofs.Common.{◌≡◌, ◌++◌}
use Rattle.core_state.specs.CoreOpens.{fresh_places}
use Rattle.core_state.proofs.open_hands.push_fresh.Given as goal

abbrev pub invariant-loop-place : goal.invariant-loop-place
invariant-loop-place l = l.hand.items ≡ l.fn.hand.items ++ fresh_places l.cells l._place
