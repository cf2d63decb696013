use Rattle.std.proofs.Common.{◌∙◌, ◌++◌, ◌∷◌, [], List, ap, sym, arith, vec_len, vec_capacity}
use Rattle.evac_model.specs.declared.space.SpaceAction.{SpaceAction}
use Rattle.evac_model.specs.declared.space.SpaceAction.TheVariants.{Lease}
use Rattle.evac_model.specs.SpaceJournal.{IsPossible}
use Rattle.space.specs.JournaledSpace.{space_state}
use Rattle.space.proofs.Journals.{promised}
use Rattle.space.proofs.JournalsKept.{left_opened, left_next}
use Rattle.space.proofs.LeasesKept.{lease_owed, chosen_left, free_left, none_left}
use Rattle.space.proofs.space.Space.lease.Goals as goal

pub invariant_of-self-in-Some : goal.invariant_of-self-in-Some
invariant_of-self-in-Some c =
    let k = c.self.inside.kept in
    let v = c.args.self.now in
    let start = c.self.inside.start.items in
    let journal = c.self.inside.journal.items in
    let used = vec_len c.self.inside.journal in
    let owed = c.self.inside.owed in
    let room = vec_capacity c.self.inside.journal in
    let h = left_opened k start journal used owed room v c.self.view_is c.self.invariant in
    let next = c.lease.new.self in
    let a : SpaceAction = Lease c.args.who c.in-Some.frame c.args.page c.args.kind in
    let possible : IsPossible v.sizes v.online (space_state v) a =
    (c.requires.caller, c.requires.page, chosen_left v k used owed room c.args.who c.args.kind c.in-Some.frame.0 h c.in-Some.ensures.chosen) in
    left_next k next start journal c.push_reserved.new.self.items used owed room _ _ _ a v c.self.view_is h c.in-Some.ensures.leased
    (c.push_reserved.ensures.items ∙ ap (λ (xs : List SpaceAction). xs ++ a ∷ []) c.reserve.ensures.items) possible
    (lease_owed k owed c.args.who c.in-Some.frame c.args.page c.args.kind next h.within h.space h.owed_for c.in-Some.ensures.chosen c.in-Some.ensures.leased)
    (omega (arith, c.push_reserved.ensures.len, c.push_reserved.ensures.capacity, c.reserve.ensures.len, promised c.reserve.result _ (sym c.is_err.ensures.value ∙ c.if-is_err.false) c.reserve.ensures.ok, h.enough))

pub returns-in-None-clause-none_free : goal.returns-in-None-clause-none_free
returns-in-None-clause-none_free c at frame e =
    let k = c.self.inside.kept in
    let v = c.args.self.now in
    let start = c.self.inside.start.items in
    let journal = c.self.inside.journal.items in
    let used = vec_len c.self.inside.journal in
    let owed = c.self.inside.owed in
    let room = vec_capacity c.self.inside.journal in
    let h = left_opened k start journal used owed room v c.self.view_is c.self.invariant in
    none_left v k used owed room c.args.who c.args.kind h h.within h.space c.in-None.ensures.refused frame

pub returns-in-Some-clause-free : goal.returns-in-Some-clause-free
returns-in-Some-clause-free c =
    let k = c.self.inside.kept in
    let v = c.args.self.now in
    let start = c.self.inside.start.items in
    let journal = c.self.inside.journal.items in
    let used = vec_len c.self.inside.journal in
    let owed = c.self.inside.owed in
    let room = vec_capacity c.self.inside.journal in
    let h = left_opened k start journal used owed room v c.self.view_is c.self.invariant in
    free_left v k used owed room c.args.who c.args.kind c.in-Some.frame.0 h h.within h.space c.in-Some.ensures.chosen
