use Rattle.std.proofs.Common.{◌≡◌, ◌+◌, ◌++◌, ◌==◌, not, take, drop, filter, length}
use Rattle.std.specs.List.{count_by}
use Rattle.core_state.proofs.pool.remove_into.Given as goal

abbrev pub invariant-loop-node : goal.invariant-loop-node
invariant-loop-node l = record {
  rest : l.list ≡ drop l._node l.fn.list ++ filter (λ x. not (x.0 == l.frame.0)) (take l._node l.fn.list);
  pool : length l.pool ≡ length l.fn.pool + count_by (λ x. x.0 == l.frame.0) (take l._node l.fn.list);
  nodes : length l.pool + length l.list ≡ length l.fn.pool + length l.fn.list;
}
