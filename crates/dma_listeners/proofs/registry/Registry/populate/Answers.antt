use Rattle.std.proofs.Common.{◌∙◌, ◌≤◌, ◌*◌, sym, ap, subst, length, arith, List, ℕ}
use Rattle.evac_model.specs.declared.device_journal.Told.TheVariants.{PopulateOk}
use Rattle.evac_model.specs.Numbers.{with_range}
use Rattle.evac_model.specs.Notices.{told_each}
use Rattle.dma_listeners.specs.Drafts.{IsWritten}
use Rattle.dma_listeners.specs.Registries.{live_keys}
use Rattle.dma_listeners.proofs.Whole.{keys_at_end, changed_all, stopped_keys, refused_was, refused_written, back_room, rolled_back, exactly_still, room_changed, room_rolled_back}
use Rattle.dma_listeners.proofs.registry.Registry.populate.Goals as goal

pub populate_each-requires-clause-room : goal.populate_each-requires-clause-room
populate_each-requires-clause-room g c =
    let keys = keys_at_end c.self.inside.listeners.slots c.capacity-end.result c.capacity-end.ensures.slots in
    let room : 2 * length (live_keys c.self.inside.listeners.slots) ≤ c.args.notices.now.room = rw (sym c.self.view_is) at c.requires.room in
    rw keys (omega (arith, room))

pub returns-in_default-clause-told : goal.returns-in_default-clause-told
returns-in_default-clause-told g c =
    let keys = keys_at_end c.self.inside.listeners.slots c.capacity-end.result c.capacity-end.ensures.slots ∙ ap (λ r. live_keys r) c.self.view_is in
    subst (λ (ks : List ℕ). IsWritten c.args.notices.now c.populate_each.new.notices (told_each ks c.args.first.0 c.args.n PopulateOk)) keys c.in_default.ensures.told

pub returns-in_default-clause-mapped : goal.returns-in_default-clause-mapped
returns-in_default-clause-mapped g c =
    rw (sym c.self.view_is)
    (changed_all g.L.Listener.mapped g.L.Listener.refusals g.L.Listener.limit g.L.Listener.room (with_range c.args.first.0 c.args.n) c.capacity-end.result c.self.inside.listeners.slots c.populate_each.new.listeners.slots c.capacity-end.ensures.slots c.in_default.ensures.all)

pub discard_each-requires-clause-room : goal.discard_each-requires-clause-room
discard_each-requires-clause-room g c =
    let old = c.self.inside.listeners.slots in
    let p = c.in-Err.ensures.some.1 in
    back_room c.args.first.0 c.args.n c.in-Err.key old c.populate_each.new.listeners.slots c.args.notices.now c.populate_each.new.notices
    (refused_was g.L.Listener.mapped g.L.Listener.refusals g.L.Listener.limit g.L.Listener.room _ _ p.here)
    (stopped_keys g.L.Listener.mapped g.L.Listener.refusals g.L.Listener.limit g.L.Listener.room (with_range c.args.first.0 c.args.n) c.in-Err.key old c.populate_each.new.listeners.slots p)
    (rw (sym c.self.view_is) at c.requires.room)
    c.in-Err.ensures.told_some

pub returns-clause-told : goal.returns-clause-told
returns-clause-told g c =
    let old = c.self.inside.listeners.slots in
    let p = c.in-Err.ensures.some.1 in
    rw (sym c.self.view_is)
    (refused_written c.args.first.0 c.args.n c.in-Err.key old c.populate_each.new.listeners.slots c.args.notices.now c.populate_each.new.notices c.discard_each.new.notices
    (refused_was g.L.Listener.mapped g.L.Listener.refusals g.L.Listener.limit g.L.Listener.room _ _ p.here)
    (stopped_keys g.L.Listener.mapped g.L.Listener.refusals g.L.Listener.limit g.L.Listener.room (with_range c.args.first.0 c.args.n) c.in-Err.key old c.populate_each.new.listeners.slots p)
    c.in-Err.ensures.told_some c.discard_each.ensures.told)

pub returns-clause-rolled_back : goal.returns-clause-rolled_back
returns-clause-rolled_back g c =
    rw (sym c.self.view_is)
    (rolled_back g.L.Listener.mapped g.L.Listener.refusals g.L.Listener.limit g.L.Listener.room c.args.first.0 c.args.n c.in-Err.key c.self.inside.listeners.slots c.populate_each.new.listeners.slots c.discard_each.new.listeners.slots c.in-Err.ensures.some.1 c.discard_each.ensures.changed)

pub returns-clause-exactly_still : goal.returns-clause-exactly_still
returns-clause-exactly_still g c region plugged rising inside unplugged exactly =
    exactly_still g.L.Listener.mapped g.L.Listener.refusals g.L.Listener.limit g.L.Listener.room c.args.first.0 c.args.n c.in-Err.key c.args.self.now c.discard_each.new.listeners.slots region plugged (returns-clause-rolled_back g c) rising inside unplugged exactly

pub returns-in_default-clause-room_kept : goal.returns-in_default-clause-room_kept
returns-in_default-clause-room_kept g c = room_changed g.L.Listener.mapped g.L.Listener.refusals g.L.Listener.limit g.L.Listener.room (with_range c.args.first.0 c.args.n) c.args.self.now c.populate_each.new.listeners.slots (returns-in_default-clause-mapped g c)

pub returns-clause-room_kept : goal.returns-clause-room_kept
returns-clause-room_kept g c = room_rolled_back g.L.Listener.mapped g.L.Listener.refusals g.L.Listener.limit g.L.Listener.room c.args.first.0 c.args.n c.in-Err.key c.args.self.now c.discard_each.new.listeners.slots (returns-clause-rolled_back g c)
