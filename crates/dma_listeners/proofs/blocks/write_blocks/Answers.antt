use Rattle.std.proofs.Common.{sym, ◌∙◌}
use Rattle.dma_listeners.proofs.Steps.{block_written, block_skipped_notices, block_room}
use Rattle.dma_listeners.proofs.blocks.write_blocks.Goals as goal
use Rattle.dma_listeners.proofs.blocks.write_blocks.Goals.{then-plugged, else-plugged}

pub push-requires : goal.push-requires
push-requires c =
    block_room c.args.key c.args.told c.args.plugged.now.plugged c.loop-b.b c.args.end c.args.notices.now c.loop-b.notices (sym c.plugged.ensures ∙ c.if-plugged.true) c.loop-b-test.true c.requires c.loop-b.invariant

pub loop-b-preserved : goal.loop-b-preserved
loop-b-preserved c =
    elim c.if-plugged.branch [
      | then-plugged w ↦
          rw w.notices-is (block_written c.args.key c.args.told c.args.plugged.now.plugged c.loop-b.b c.args.notices.now c.loop-b.notices w.push.new.self (sym c.plugged.ensures ∙ w.if-plugged.true) c.loop-b.invariant w.push.ensures)
      | else-plugged w ↦
          rw w.notices-is (block_skipped_notices c.args.key c.args.told c.args.plugged.now.plugged c.loop-b.b c.args.notices.now c.loop-b.notices (sym c.plugged.ensures ∙ w.if-plugged.false) c.loop-b.invariant)
    ]
