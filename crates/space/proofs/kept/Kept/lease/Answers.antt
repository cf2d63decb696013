use Rattle.std.proofs.Common.{◌∙◌, refl, ap}
use Rattle.evac_model.specs.declared.space.SpaceAction.TheVariants.{Lease}
use Rattle.space.specs.KeptSpace.{space_of, behind}
use Rattle.space.proofs.KeptSpaces.{are_of_space_of, space_of-is, drainable_kept}
use Rattle.space.proofs.LeasesKept.{lease_kept, leased_in_count, refusal_kept}
use Rattle.space.proofs.kept.Kept.lease.Goals as goal

pub choose-requires-clause-drainable : goal.choose-requires-clause-drainable
choose-requires-clause-drainable c =
    let i = c.self.inside in
    drainable_kept (space_of i.runs i.marks i.caches i.offline.items) i.runs i.marks i.caches i.offline.items c.self.invariant

pub invariant_of-self : goal.invariant_of-self
invariant_of-self c =
    let i = c.self.inside in
    let k = space_of i.runs i.marks i.caches i.offline.items in
    let h = c.self.invariant in
    are_of_space_of _ _ _ _ _
    (refusal_kept k i.runs i.marks i.caches i.offline.items c.args.who c.args.kind.now c.choose.new.runs c.choose.new.caches h
    (c.in_err-frame.ensures.chosen k.state h.space h.runs refl) (c.choose.ensures.none k.state h.space h.runs refl))

pub set_out-requires : goal.set_out-requires
set_out-requires c =
    let i = c.self.inside in
    let k = space_of i.runs i.marks i.caches i.offline.items in
    let h = c.self.invariant in
    leased_in_count k i.runs i.marks i.caches i.offline.items c.args.who c.in_ok-frame.frame c.args.kind.now h (c.in_ok-frame.ensures.chosen k.state h.space h.runs refl)

pub invariant_of-self-2 : goal.invariant_of-self-2
invariant_of-self-2 c =
    let i = c.self.inside in
    let k = space_of i.runs i.marks i.caches i.offline.items in
    let h = c.self.invariant in
    are_of_space_of _ _ _ _ _
    (lease_kept k i.runs i.marks i.caches i.offline.items c.args.who c.in_ok-frame.frame c.args.page c.args.kind.now c.choose.new.runs c.set_out.new.self c.choose.new.caches h
    (c.in_ok-frame.ensures.chosen k.state h.space h.runs refl) (λ l. c.choose.ensures.taken k.state l h.space h.runs refl) c.set_out.ensures)

pub returns-clause-leased : goal.returns-clause-leased
returns-clause-leased c =
    let i = c.self.inside in
    let k = space_of i.runs i.marks i.caches i.offline.items in
    let h = c.self.invariant in
    space_of-is _ _ _ _ _
    (lease_kept k i.runs i.marks i.caches i.offline.items c.args.who c.in_ok-frame.frame c.args.page c.args.kind.now c.choose.new.runs c.set_out.new.self c.choose.new.caches h
    (c.in_ok-frame.ensures.chosen k.state h.space h.runs refl) (λ l. c.choose.ensures.taken k.state l h.space h.runs refl) c.set_out.ensures)
    ∙ ap (behind (Lease c.args.who c.in_ok-frame.frame c.args.page c.args.kind.now)) c.self.view_is
