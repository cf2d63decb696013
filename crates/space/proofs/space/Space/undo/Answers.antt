use Rattle.std.proofs.Common.{arith, vec_len, vec_capacity}
use Rattle.evac_model.specs.declared.space.SpaceAction.TheVariants.{Undo}
use Rattle.space.proofs.Journals.{undo_owed}
use Rattle.space.proofs.JournalsKept.{left_opened, left_next}
use Rattle.space.proofs.space.Space.undo.Goals as goal

pub overflow_sub-self : goal.overflow_sub-self
overflow_sub-self c =
    let k = c.self.inside.kept in
    let v = c.args.self.now in
    let start = c.self.inside.start.items in
    let journal = c.self.inside.journal.items in
    let used = vec_len c.self.inside.journal in
    let owed = c.self.inside.owed in
    let room = vec_capacity c.self.inside.journal in
    let h = left_opened k start journal used owed room v c.self.view_is c.self.invariant in
    let next = c.undo.new.self in
    let more = undo_owed v k used owed room c.args.b next h h.space c.requires.isolated c.requires.there c.undo.ensures in
    omega (arith, more.0)

pub push_reserved-requires : goal.push_reserved-requires
push_reserved-requires c =
    let k = c.self.inside.kept in
    let v = c.args.self.now in
    let start = c.self.inside.start.items in
    let journal = c.self.inside.journal.items in
    let used = vec_len c.self.inside.journal in
    let owed = c.self.inside.owed in
    let room = vec_capacity c.self.inside.journal in
    let h = left_opened k start journal used owed room v c.self.view_is c.self.invariant in
    let next = c.undo.new.self in
    let more = undo_owed v k used owed room c.args.b next h h.space c.requires.isolated c.requires.there c.undo.ensures in
    omega (arith, more.0, h.enough)

pub invariant_of-self : goal.invariant_of-self
invariant_of-self c =
    let k = c.self.inside.kept in
    let v = c.args.self.now in
    let start = c.self.inside.start.items in
    let journal = c.self.inside.journal.items in
    let used = vec_len c.self.inside.journal in
    let owed = c.self.inside.owed in
    let room = vec_capacity c.self.inside.journal in
    let h = left_opened k start journal used owed room v c.self.view_is c.self.invariant in
    let next = c.undo.new.self in
    let more = undo_owed v k used owed room c.args.b next h h.space c.requires.isolated c.requires.there c.undo.ensures in
    left_next k next start journal c.push_reserved.new.self.items used owed room _ _ _ (Undo c.args.b) v c.self.view_is h c.undo.ensures c.push_reserved.ensures.items (c.requires.isolated, c.requires.there) more.1 (omega (arith, more.0, h.enough, c.push_reserved.ensures.len, c.push_reserved.ensures.capacity))
