use Rattle.evac_model.specs.Notices.{unplug_all_notices}
use Rattle.dma_listeners.specs.Drafts.{IsWritten}
use Rattle.dma_listeners.specs.Listening.{without_blocks}
use Rattle.dma_listeners.specs.Registries.{keys_below, AreChangedBelow}
use Rattle.dma_listeners.proofs.each.discard_blocks_each.Given as goal

abbrev pub invariant-loop-key : goal.invariant-loop-key
invariant-loop-key g l = record {
  changed : AreChangedBelow g.L.Listener.mapped g.L.Listener.refusals g.L.Listener.limit g.L.Listener.room (without_blocks l.plugged.plugged) l.key l.fn.listeners.slots l.listeners.slots;
  told : IsWritten l.fn.notices l.notices (unplug_all_notices (keys_below l.fn.listeners.slots l.key) l.plugged.plugged);
}
