use Rattle.std.proofs.Common.{◌-◌, arith}
use Rattle.core_state.proofs.Starts.{start_frame_within}
use Rattle.core_state.proofs.open_room.open_spare.Goals as goal

pub index_mut-requires : goal.index_mut-requires
index_mut-requires c =
    start_frame_within c.args.g.now c.args.start.now (c.loop-left.left - 1) c.loop-left.left _ _ c.loop-left.spare.items c.cells-cells.ensures.within c.requires (omega arith) c.loop-left.invariant.spare (omega arith)
