use Rattle.std.proofs.Common.{arith}
use Rattle.dma_listeners.specs.Listening.{without_blocks}
use Rattle.dma_listeners.proofs.EachListener.{changed_more, blocks_room, blocks_written}
use Rattle.dma_listeners.proofs.each.discard_blocks_each.Goals as goal

pub discard_blocks_one-requires-clause-room : goal.discard_blocks_one-requires-clause-room
discard_blocks_one-requires-clause-room g c =
    blocks_room c.args.plugged.now.plugged c.args.listeners.now.slots c.loop-key.listeners.slots c.loop-key.key c.args.end c.args.notices.now c.loop-key.notices (c.loop-key.invariant.changed.above c.loop-key.key (omega arith)) c.loop-key-test.true c.requires.room c.loop-key.invariant.told

pub loop-key-preserved : goal.loop-key-preserved
loop-key-preserved g c =
    let old = c.args.listeners.now.slots in
    let mid = c.loop-key.listeners.slots in
    let key = c.loop-key.key in
    record {
      changed = changed_more g.L.Listener.mapped g.L.Listener.refusals g.L.Listener.limit g.L.Listener.room (without_blocks c.args.plugged.now.plugged) key old mid c.discard_blocks_one.new.listeners.slots c.loop-key.invariant.changed c.discard_blocks_one.ensures.changed c.discard_blocks_one.ensures.others c.discard_blocks_one.ensures.size;
      told = blocks_written c.args.plugged.now.plugged old mid key c.args.notices.now c.loop-key.notices c.discard_blocks_one.new.notices (c.loop-key.invariant.changed.above key (omega arith)) c.loop-key.invariant.told c.discard_blocks_one.ensures.told;
    }
