use Rattle.std.proofs.Common.{sym, ◌∙◌}
use Rattle.dma_listeners.specs.Listening.{without_blocks}
use Rattle.dma_listeners.proofs.Steps.{untold, block_skipped, block_discarded}
use Rattle.dma_listeners.proofs.blocks.discard_blocks.Goals as goal
use Rattle.dma_listeners.proofs.blocks.discard_blocks.Goals.{then-plugged, else-plugged}

pub loop-b-init : goal.loop-b-init
loop-b-init g c = untold g.L.Listener.mapped g.L.Listener.refusals g.L.Listener.limit g.L.Listener.room c.args.listener.now

pub loop-b-preserved : goal.loop-b-preserved
loop-b-preserved g c =
    elim c.if-plugged.branch [
      | then-plugged w ↦
          rw w.listener-is (block_discarded g.L.Listener.mapped g.L.Listener.refusals g.L.Listener.limit g.L.Listener.room c.args.plugged.now.plugged c.loop-b.b c.args.listener.now c.loop-b.listener w.discard.new.self (sym c.plugged.ensures ∙ w.if-plugged.true) c.loop-b.invariant w.discard.ensures.takes w.discard.ensures.counts w.discard.ensures.limit_kept w.discard.ensures.room_kept)
      | else-plugged w ↦
          rw w.listener-is (block_skipped g.L.Listener.mapped g.L.Listener.refusals g.L.Listener.limit g.L.Listener.room without_blocks c.args.plugged.now.plugged c.loop-b.b c.args.listener.now c.loop-b.listener (sym c.plugged.ensures ∙ w.if-plugged.false) c.loop-b.invariant)
    ]
