use Rattle.std.proofs.Common.{◌≤◌, length}
use Rattle.evac_model.specs.Counts.{WhereTold}
use Rattle.dma_listeners.specs.Listening.{blocks_below, exactly, IsChanged}
use Rattle.dma_listeners.proofs.blocks.populate_blocks.Given as goal

abbrev pub invariant-loop-b : goal.invariant-loop-b
invariant-loop-b g l = record {
  changed : IsChanged g.L.Listener.mapped g.L.Listener.refusals g.L.Listener.limit g.L.Listener.room (exactly (blocks_below l.plugged.plugged l.b)) l.fn.listener l.listener;
  fits : WhereTold (g.L.Listener.limit l.fn.listener) (λ most. length (blocks_below l.plugged.plugged l.b) ≤ most);
}
