use Rattle.std.proofs.Common.{◌∙◌, ◌++◌, ◌∷◌, [], List, ap, arith, vec_len, vec_capacity, sym}
use Rattle.evac_model.specs.declared.space.SpaceAction.{SpaceAction}
use Rattle.evac_model.specs.declared.space.SpaceAction.TheVariants.{Isolate}
use Rattle.evac_model.specs.SpaceJournal.{IsPossible}
use Rattle.space.specs.JournaledSpace.{space_state}
use Rattle.space.proofs.Journals.{promised, isolate_owed}
use Rattle.space.proofs.JournalsKept.{left_opened, left_next}
use Rattle.space.proofs.Refused.{movable_ok}
use Rattle.space.proofs.space.Space.isolate.Goals as goal

pub invariant_of-self-2 : goal.invariant_of-self-2
invariant_of-self-2 c =
    let k = c.self.inside.kept in
    let v = c.args.self.now in
    let start = c.self.inside.start.items in
    let journal = c.self.inside.journal.items in
    let used = vec_len c.self.inside.journal in
    let owed = c.self.inside.owed in
    let room = vec_capacity c.self.inside.journal in
    let h = left_opened k start journal used owed room v c.self.view_is c.self.invariant in
    let next = c.isolate.new.self in
    let possible : IsPossible v.sizes v.online (space_state v) (Isolate c.args.b) = (c.requires.managed, c.requires.there, movable_ok v k used owed room c.args.b.0 h c.in_default.ensures.refused) in
    left_next k next start journal c.push_reserved.new.self.items used owed room _ _ _ (Isolate c.args.b) v c.self.view_is h c.in_default.ensures.ok (c.push_reserved.ensures.items ∙ ap (λ (xs : List SpaceAction). xs ++ Isolate c.args.b ∷ []) c.reserve.ensures.items) possible
    (isolate_owed v k used owed room c.args.b next h h.space c.requires.managed c.requires.there c.in_default.ensures.ok)
    (omega (arith, c.push_reserved.ensures.len, c.push_reserved.ensures.capacity, c.reserve.ensures.len, promised c.reserve.result _ (sym c.is_err.ensures.value ∙ c.if-is_err.false) c.reserve.ensures.ok, h.enough))

pub returns-clause-possible : goal.returns-clause-possible
returns-clause-possible c =
    let k = c.self.inside.kept in
    let v = c.args.self.now in
    let start = c.self.inside.start.items in
    let journal = c.self.inside.journal.items in
    let used = vec_len c.self.inside.journal in
    let owed = c.self.inside.owed in
    let room = vec_capacity c.self.inside.journal in
    let h = left_opened k start journal used owed room v c.self.view_is c.self.invariant in
    (c.requires.managed, c.requires.there, movable_ok v k used owed room c.args.b.0 h c.in_default.ensures.refused)
