use Rattle.std.proofs.Common.{◌<◌, length, ap, sym, subst, ◌∙◌, arith}
use Rattle.evac_model.proofs.Slots.{answer_of_slot, state_after}
use Rattle.evac_model.specs.State.{page_at}
use Rattle.evac_model.proofs.Refusals.{no_frame_replied}
use Rattle.evac_model.proofs.plain.Plain.apply.Goals as goal

pub returns-clause-reply : goal.returns-clause-reply
returns-clause-reply c =
    let lt : c.args.page.0 < length c.self.inside.slots.items =
    omega (arith, c.self.invariant.count, subst (λ m. c.args.page.0 < m.sizes.pages) (sym c.self.view_is) c.requires.page) in
    c.answer.ensures.reply
    ∙ ap (λ p. p.0)
    (answer_of_slot c.args.self.now c.self.inside.geometry c.self.inside.slots.items c.args.page.0 c.index_mut-slot.result.now c.args.call.now c.args.no_frame c.self.view_is c.self.invariant.each lt c.index_mut-slot.ensures.value)

pub returns-clause-state : goal.returns-clause-state
returns-clause-state c =
    let lt : c.args.page.0 < length c.self.inside.slots.items =
    omega (arith, c.self.invariant.count, subst (λ m. c.args.page.0 < m.sizes.pages) (sym c.self.view_is) c.requires.page) in
    state_after c.args.self.now c.self.inside.geometry c.self.inside.slots.items c.args.page.0 c.answer.new.self _ c.self.view_is lt
    (c.answer.ensures.page
    ∙ ap (λ p. p.1)
    (answer_of_slot c.args.self.now c.self.inside.geometry c.self.inside.slots.items c.args.page.0 c.index_mut-slot.result.now c.args.call.now c.args.no_frame c.self.view_is c.self.invariant.each lt c.index_mut-slot.ensures.value))

pub returns-clause-no_frame : goal.returns-clause-no_frame
returns-clause-no_frame c at =
    no_frame_replied c.args.self.now.sizes.cells (page_at c.args.self.now.state c.args.page.0) c.args.call.now c.args.no_frame c.answer.result at (returns-clause-reply c)
