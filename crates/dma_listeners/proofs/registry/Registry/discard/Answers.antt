use Rattle.std.proofs.Common.{◌∙◌, ◌≤◌, sym, ap, subst, length, List, ℕ}
use Rattle.evac_model.specs.Numbers.{without_range}
use Rattle.evac_model.specs.Notices.{unplug_notices}
use Rattle.dma_listeners.specs.Drafts.{IsWritten}
use Rattle.dma_listeners.specs.Registries.{live_keys}
use Rattle.dma_listeners.proofs.Whole.{keys_at_end, changed_all, room_changed}
use Rattle.dma_listeners.proofs.registry.Registry.discard.Goals as goal

pub discard_each-requires-clause-room : goal.discard_each-requires-clause-room
discard_each-requires-clause-room g c =
    let room : length (live_keys c.self.inside.listeners.slots) ≤ c.args.notices.now.room = rw (sym c.self.view_is) at c.requires.room in
    rw (keys_at_end c.self.inside.listeners.slots c.capacity-end.result c.capacity-end.ensures.slots) room

pub returns-clause-told : goal.returns-clause-told
returns-clause-told g c =
    let keys = keys_at_end c.self.inside.listeners.slots c.capacity-end.result c.capacity-end.ensures.slots ∙ ap (λ r. live_keys r) c.self.view_is in
    subst (λ (ks : List ℕ). IsWritten c.args.notices.now c.discard_each.new.notices (unplug_notices ks c.args.first.0 c.args.n)) keys c.discard_each.ensures.told

pub returns-clause-discarded : goal.returns-clause-discarded
returns-clause-discarded g c =
    rw (sym c.self.view_is)
    (changed_all g.L.Listener.mapped g.L.Listener.refusals g.L.Listener.limit g.L.Listener.room (without_range c.args.first.0 c.args.n) c.capacity-end.result c.self.inside.listeners.slots c.discard_each.new.listeners.slots c.capacity-end.ensures.slots c.discard_each.ensures.changed)

pub returns-clause-room_kept : goal.returns-clause-room_kept
returns-clause-room_kept g c = room_changed g.L.Listener.mapped g.L.Listener.refusals g.L.Listener.limit g.L.Listener.room (without_range c.args.first.0 c.args.n) c.args.self.now c.discard_each.new.listeners.slots (returns-clause-discarded g c)
