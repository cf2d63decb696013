use Rattle.std.proofs.Common.{arith}
use Rattle.evac_model.specs.declared.device_journal.Told.TheVariants.{PopulateOk}
use Rattle.evac_model.specs.Numbers.{with_range}
use Rattle.dma_listeners.proofs.EachListener.{each_room, each_written, changed_more, fit_more}
use Rattle.dma_listeners.proofs.each.populate_each.Goals as goal

pub populate_one-requires-clause-room : goal.populate_one-requires-clause-room
populate_one-requires-clause-room g c =
    each_room c.args.first.0 c.args.n PopulateOk c.args.listeners.now.slots c.loop-key.listeners.slots c.loop-key.key c.args.end c.args.notices.now c.loop-key.notices (c.loop-key.invariant.changed.above c.loop-key.key (omega arith)) c.loop-key-test.true c.requires.room c.loop-key.invariant.told

pub loop-key-preserved : goal.loop-key-preserved
loop-key-preserved g c =
    let old = c.args.listeners.now.slots in
    let mid = c.loop-key.listeners.slots in
    let key = c.loop-key.key in
    let same = c.loop-key.invariant.changed.above key (omega arith) in
    record {
      changed = changed_more g.L.Listener.mapped g.L.Listener.refusals g.L.Listener.limit g.L.Listener.room (with_range c.args.first.0 c.args.n) key old mid c.populate_one.new.listeners.slots c.loop-key.invariant.changed c.in_default.ensures.mapped c.populate_one.ensures.others c.populate_one.ensures.size;
      told = each_written c.args.first.0 c.args.n PopulateOk old mid key c.args.notices.now c.loop-key.notices c.populate_one.new.notices same c.loop-key.invariant.told c.in_default.ensures.told;
      fit = fit_more g.L.Listener.mapped g.L.Listener.refusals g.L.Listener.limit g.L.Listener.room c.args.n key old mid same c.loop-key.invariant.fit c.in_default.ensures.fits;
    }
