use Rattle.std.proofs.Common.{◌≡◌, length}
use Rattle.core_state.proofs.pool.nodes.Given as goal

abbrev pub invariant-loop-node : goal.invariant-loop-node
invariant-loop-node g l = length l.pool ≡ l._node
