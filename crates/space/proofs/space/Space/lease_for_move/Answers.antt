use Rattle.std.proofs.Common.{◌≡◌, ◌∙◌, ◌++◌, ◌∷◌, [], List, ap, sym, subst, arith, vec_len, vec_capacity}
use Rattle.evac_model.specs.declared.evacuation.MoveLease.{MoveLease}
use Rattle.evac_model.specs.declared.names.Kind.TheVariants.{Movable}
use Rattle.evac_model.specs.declared.space.SpaceAction.{SpaceAction}
use Rattle.evac_model.specs.declared.space.SpaceAction.TheVariants.{MoveLease as Moving}
use Rattle.evac_model.specs.SpaceJournal.{IsPossible}
use Rattle.space.specs.JournaledSpace.{space_state, IsLeasableFor}
use Rattle.space.specs.KeptJournal.{journaled}
use Rattle.space.proofs.Journals.{promised}
use Rattle.space.proofs.JournalsKept.{left_opened, left_next, left_same}
use Rattle.space.proofs.LeasesKept.{lease_owed, free_left, none_left}
use Rattle.space.proofs.MoveLeases.{managed_left, move_possible}
use Rattle.space.proofs.space.Space.lease_for_move.Goals as goal

pub out_after-requires : goal.out_after-requires
out_after-requires c =
    let k = c.self.inside.kept in
    let v = c.args.self.now in
    let start = c.self.inside.start.items in
    let journal = c.self.inside.journal.items in
    let used = vec_len c.self.inside.journal in
    let owed = c.self.inside.owed in
    let room = vec_capacity c.self.inside.journal in
    let h = left_opened k start journal used owed room v c.self.view_is c.self.invariant in
    managed_left v k used owed room c.args.b.0 h c.requires

pub invariant_of-self-in-None : goal.invariant_of-self-in-None
invariant_of-self-in-None c =
    let k = c.self.inside.kept in
    let start = c.self.inside.start.items in
    let h = c.self.invariant in
    left_same k c.lease.new.self start c.self.inside.journal.items c.reserve.new.self.items _ c.self.inside.owed _ _ _ h c.in-None.ensures.same c.reserve.ensures.items
    (omega (arith, c.reserve.ensures.len, promised c.reserve.result _ (sym c.is_err.ensures.value ∙ c.if-is_err.false) c.reserve.ensures.ok, h.enough))

pub push_reserved-requires : goal.push_reserved-requires
push_reserved-requires c =
    let h = c.self.invariant in
    omega (arith, c.reserve.ensures.len, promised c.reserve.result _ (sym c.is_err.ensures.value ∙ c.if-is_err.false) c.reserve.ensures.ok, h.enough)

pub invariant_of-self-in-Some-lease : goal.invariant_of-self-in-Some-lease
invariant_of-self-in-Some-lease c =
    let k = c.self.inside.kept in
    let v = c.args.self.now in
    let start = c.self.inside.start.items in
    let journal = c.self.inside.journal.items in
    let used = vec_len c.self.inside.journal in
    let owed = c.self.inside.owed in
    let room = vec_capacity c.self.inside.journal in
    let h = left_opened k start journal used owed room v c.self.view_is c.self.invariant in
    let next = c.lease.new.self in
    let target = c.in-Some-lease.target in
    let a : SpaceAction = Moving target c.in-Some.page in
    let possible : IsPossible v.sizes v.online (space_state v) a =
    move_possible v k used owed room c.args.b.0 c.args.after c.in-Some.from c.in-Some.page target h c.requires c.in-Some.ensures c.in-Some-lease.ensures.chosen in
    left_next k next start journal c.push_reserved.new.self.items used owed room _ _ _ a v c.self.view_is h c.in-Some-lease.ensures.leased
    (c.push_reserved.ensures.items ∙ ap (λ (xs : List SpaceAction). xs ++ a ∷ []) c.reserve.ensures.items) possible
    (lease_owed k owed 0 target c.in-Some.page Movable next h.within h.space h.owed_for c.in-Some-lease.ensures.chosen c.in-Some-lease.ensures.leased)
    (omega (arith, c.push_reserved.ensures.len, c.push_reserved.ensures.capacity, c.reserve.ensures.len, promised c.reserve.result _ (sym c.is_err.ensures.value ∙ c.if-is_err.false) c.reserve.ensures.ok, h.enough))

pub returns-in-None-clause-possible : goal.returns-in-None-clause-possible
returns-in-None-clause-possible c lease e = absurd (cc e)

pub returns-in-None-clause-none_free : goal.returns-in-None-clause-none_free
returns-in-None-clause-none_free c from page at frame e =
    let k = c.self.inside.kept in
    let v = c.args.self.now in
    let start = c.self.inside.start.items in
    let journal = c.self.inside.journal.items in
    let used = vec_len c.self.inside.journal in
    let owed = c.self.inside.owed in
    let room = vec_capacity c.self.inside.journal in
    let h = left_opened k start journal used owed room v c.self.view_is c.self.invariant in
    none_left v k used owed room 0 Movable h h.within h.space c.in-None.ensures.refused frame

pub returns-in-None-clause-err : goal.returns-in-None-clause-err
returns-in-None-clause-err c =
    (λ i. journaled (c.in-None.ensures.same i) c.self.inside.start.items (c.reserve.ensures.items i)) ∙ c.self.view_is

pub returns-in-Some-lease-clause-possible : goal.returns-in-Some-lease-clause-possible
returns-in-Some-lease-clause-possible c lease e =
    let k = c.self.inside.kept in
    let v = c.args.self.now in
    let start = c.self.inside.start.items in
    let journal = c.self.inside.journal.items in
    let used = vec_len c.self.inside.journal in
    let owed = c.self.inside.owed in
    let room = vec_capacity c.self.inside.journal in
    let h = left_opened k start journal used owed room v c.self.view_is c.self.invariant in
    let target = c.in-Some-lease.target in
    let given : MoveLease = record { from = c.in-Some.from; page = c.in-Some.page; target = target } in
    let same : given ≡ lease = cc e in
    subst (λ (x : MoveLease). IsPossible v.sizes v.online (space_state v) (Moving x.target x.page)) same
    (move_possible v k used owed room c.args.b.0 c.args.after c.in-Some.from c.in-Some.page target h c.requires c.in-Some.ensures c.in-Some-lease.ensures.chosen)

pub returns-in-Some-lease-clause-free : goal.returns-in-Some-lease-clause-free
returns-in-Some-lease-clause-free c lease e =
    let k = c.self.inside.kept in
    let v = c.args.self.now in
    let start = c.self.inside.start.items in
    let journal = c.self.inside.journal.items in
    let used = vec_len c.self.inside.journal in
    let owed = c.self.inside.owed in
    let room = vec_capacity c.self.inside.journal in
    let h = left_opened k start journal used owed room v c.self.view_is c.self.invariant in
    let target = c.in-Some-lease.target in
    let given : MoveLease = record { from = c.in-Some.from; page = c.in-Some.page; target = target } in
    let same : given ≡ lease = cc e in
    subst (λ (x : MoveLease). IsLeasableFor v Movable x.target.0) same
    (free_left v k used owed room 0 Movable target.0 h h.within h.space c.in-Some-lease.ensures.chosen)
