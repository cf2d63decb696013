use Rattle.dma_listeners.proofs.Steps.{next_mapped, next_fits}
use Rattle.dma_listeners.proofs.blocks.populate_blocks.Goals as goal

pub loop-b-preserved : goal.loop-b-preserved
loop-b-preserved g c = record {
  changed = next_mapped g.L.Listener.mapped g.L.Listener.refusals g.L.Listener.limit g.L.Listener.room c.args.plugged.now.plugged c.loop-b.b c.args.listener.now c.loop-b.listener c.populate_block.new.listener c.loop-b.invariant.changed c.in_default.ensures.mapped c.in_default.ensures.untold;
  fits = next_fits g.L.Listener.mapped g.L.Listener.refusals g.L.Listener.limit g.L.Listener.room c.args.plugged.now.plugged c.loop-b.b c.args.listener.now c.loop-b.listener c.loop-b.invariant.changed c.in_default.ensures.fits c.loop-b.invariant.fits;
}
