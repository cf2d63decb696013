use Rattle.std.proofs.Common.{◌-◌, arith}
use Rattle.core_state.proofs.Starts.{start_page_within}
use Rattle.core_state.proofs.open.open_pages.Goals as goal

pub index_mut-requires : goal.index_mut-requires
index_mut-requires c =
    start_page_within c.args.g.now c.args.start.now (c.loop-left.left - 1) c.loop-left.left _ _ c.loop-left.pages.items c.requires (omega arith) c.loop-left.invariant.pages (omega arith)
