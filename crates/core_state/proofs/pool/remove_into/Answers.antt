use Rattle.std.proofs.Common.{eqb, arith}
use Rattle.evac_model.specs.declared.names.FrameNo.{FrameNo}
use Rattle.core_state.proofs.Unmarked.{passed_rest, passed_pool}
use Rattle.core_state.proofs.pool.remove_into.Goals as goal

pub loop-node-preserved : goal.loop-node-preserved
loop-node-preserved c = record {
  rest = passed_rest (λ (x : FrameNo). eqb x.0 c.args.frame.0) c.args.list.now c.loop-node._node (omega arith) c.loop-node.list c.loop-node.invariant.rest _ c.pass_first.ensures.rest;
  pool = passed_pool (λ (x : FrameNo). eqb x.0 c.args.frame.0) c.args.list.now c.loop-node._node (omega arith) c.loop-node.list c.loop-node.invariant.rest _ _ _ c.loop-node.invariant.pool c.pass_first.ensures.pool;
  nodes = omega arith;
}
