use Rattle.std.proofs.Common.{◌-◌, arith}
use Rattle.core_state.proofs.Starts.{start_page_small, start_frame_small}
use Rattle.core_state.proofs.open.map_pages.Goals as goal

pub start_word-requires : goal.start_word-requires
start_word-requires c = start_frame_small c.args.g.now c.args.start.now (c.loop-left.left - 1) _ c.requires.limits c.requires.start (omega arith)

pub entry_index-requires : goal.entry_index-requires
entry_index-requires c = start_page_small c.args.g.now c.args.start.now (c.loop-left.left - 1) _ c.requires.limits c.requires.start (omega arith)
