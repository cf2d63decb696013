use Rattle.evac_model.specs.declared.device_journal.Told.TheVariants.{PopulateOk}
use Rattle.evac_model.specs.Numbers.{with_range}
use Rattle.evac_model.specs.Notices.{told_each}
use Rattle.dma_listeners.specs.Drafts.{IsWritten}
use Rattle.dma_listeners.specs.Registries.{keys_below, AreChangedBelow, FitBelow}
use Rattle.dma_listeners.proofs.each.populate_each.Given as goal

abbrev pub invariant-loop-key : goal.invariant-loop-key
invariant-loop-key g l = record {
  changed : AreChangedBelow g.L.Listener.mapped g.L.Listener.refusals g.L.Listener.limit g.L.Listener.room (with_range l.first.0 l.n) l.key l.fn.listeners.slots l.listeners.slots;
  told : IsWritten l.fn.notices l.notices (told_each (keys_below l.fn.listeners.slots l.key) l.first.0 l.n PopulateOk);
  fit : FitBelow g.L.Listener.mapped g.L.Listener.refusals g.L.Listener.limit g.L.Listener.room l.n l.key l.fn.listeners.slots;
}
