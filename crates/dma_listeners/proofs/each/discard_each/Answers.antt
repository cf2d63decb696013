use Rattle.std.proofs.Common.{arith}
use Rattle.evac_model.specs.declared.device_journal.Told.TheVariants.{Discard}
use Rattle.evac_model.specs.Numbers.{without_range}
use Rattle.dma_listeners.proofs.EachListener.{each_room, each_written, changed_more}
use Rattle.dma_listeners.proofs.each.discard_each.Goals as goal

pub discard_one-requires-clause-room : goal.discard_one-requires-clause-room
discard_one-requires-clause-room g c =
    each_room c.args.first.0 c.args.n Discard c.args.listeners.now.slots c.loop-key.listeners.slots c.loop-key.key c.args.end c.args.notices.now c.loop-key.notices (c.loop-key.invariant.changed.above c.loop-key.key (omega arith)) c.loop-key-test.true c.requires.room c.loop-key.invariant.told

pub loop-key-preserved : goal.loop-key-preserved
loop-key-preserved g c =
    let old = c.args.listeners.now.slots in
    let mid = c.loop-key.listeners.slots in
    let key = c.loop-key.key in
    record {
      changed = changed_more g.L.Listener.mapped g.L.Listener.refusals g.L.Listener.limit g.L.Listener.room (without_range c.args.first.0 c.args.n) key old mid c.discard_one.new.listeners.slots c.loop-key.invariant.changed c.discard_one.ensures.changed c.discard_one.ensures.others c.discard_one.ensures.size;
      told = each_written c.args.first.0 c.args.n Discard old mid key c.args.notices.now c.loop-key.notices c.discard_one.new.notices (c.loop-key.invariant.changed.above key (omega arith)) c.loop-key.invariant.told c.discard_one.ensures.told;
    }
