use Rattle.evac_model.specs.Notices.{told_blocks}
use Rattle.dma_listeners.specs.Drafts.{IsWritten}
use Rattle.dma_listeners.specs.Listening.{blocks_below}
use Rattle.dma_listeners.proofs.blocks.write_blocks.Given as goal

abbrev pub invariant-loop-b : goal.invariant-loop-b
invariant-loop-b l = IsWritten l.fn.notices l.notices (told_blocks l.key (blocks_below l.plugged.plugged l.b) l.told)
