use Rattle.std.proofs.Common.{◌∙◌, ◌≤◌, ◌*◌, sym, ap, subst, length, List, ℕ}
use Rattle.evac_model.specs.Notices.{unplug_all_notices}
use Rattle.dma_listeners.specs.Drafts.{IsWritten}
use Rattle.dma_listeners.specs.Listening.{without_blocks}
use Rattle.dma_listeners.specs.Registries.{live_keys, MapExactly}
use Rattle.dma_listeners.proofs.Ends.{without_self}
use Rattle.dma_listeners.proofs.Whole.{keys_at_end, changed_all, room_changed, exactly_changed}
use Rattle.dma_listeners.proofs.registry.Registry.discard_all.Goals as goal

pub discard_blocks_each-requires-clause-room : goal.discard_blocks_each-requires-clause-room
discard_blocks_each-requires-clause-room g c =
    let room : length (live_keys c.self.inside.listeners.slots) * length c.args.plugged.now.plugged ≤ c.args.notices.now.room = rw (sym c.self.view_is) at c.requires.room in
    rw (keys_at_end c.self.inside.listeners.slots c.capacity-end.result c.capacity-end.ensures.slots) room

pub returns-clause-told : goal.returns-clause-told
returns-clause-told g c =
    let keys = keys_at_end c.self.inside.listeners.slots c.capacity-end.result c.capacity-end.ensures.slots ∙ ap (λ r. live_keys r) c.self.view_is in
    subst (λ (ks : List ℕ). IsWritten c.args.notices.now c.discard_blocks_each.new.notices (unplug_all_notices ks c.args.plugged.now.plugged)) keys c.discard_blocks_each.ensures.told

pub returns-clause-discarded : goal.returns-clause-discarded
returns-clause-discarded g c =
    rw (sym c.self.view_is)
    (changed_all g.L.Listener.mapped g.L.Listener.refusals g.L.Listener.limit g.L.Listener.room (without_blocks c.args.plugged.now.plugged) c.capacity-end.result c.self.inside.listeners.slots c.discard_blocks_each.new.listeners.slots c.capacity-end.ensures.slots c.discard_blocks_each.ensures.changed)

pub returns-clause-exactly : goal.returns-clause-exactly
returns-clause-exactly g c exactly =
    subst (λ (xs : List ℕ). MapExactly g.L.Listener.mapped xs c.discard_blocks_each.new.listeners.slots) (without_self c.args.plugged.now.plugged)
    (exactly_changed g.L.Listener.mapped g.L.Listener.refusals g.L.Listener.limit g.L.Listener.room (without_blocks c.args.plugged.now.plugged) c.args.self.now c.discard_blocks_each.new.listeners.slots c.args.plugged.now.plugged (returns-clause-discarded g c) exactly)

pub returns-clause-room_kept : goal.returns-clause-room_kept
returns-clause-room_kept g c = room_changed g.L.Listener.mapped g.L.Listener.refusals g.L.Listener.limit g.L.Listener.room (without_blocks c.args.plugged.now.plugged) c.args.self.now c.discard_blocks_each.new.listeners.slots (returns-clause-discarded g c)
