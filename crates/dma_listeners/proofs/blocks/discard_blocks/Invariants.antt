use Rattle.dma_listeners.specs.Listening.{blocks_below, without_blocks, IsChanged}
use Rattle.dma_listeners.proofs.blocks.discard_blocks.Given as goal

abbrev pub invariant-loop-b : goal.invariant-loop-b
invariant-loop-b g l = IsChanged g.L.Listener.mapped g.L.Listener.refusals g.L.Listener.limit g.L.Listener.room (without_blocks (blocks_below l.plugged.plugged l.b)) l.fn.listener l.listener
