use Rattle.std.proofs.Common.{◌≡◌, ◌∙◌, sym, true, false}
use Rattle.evac_model.specs.SpaceJournal.{is_frame_in}
use Rattle.space.proofs.KeptSpaces.{opened, are_of_space_of, givable_out, cleared_isolated, give_back_isolated, give_back_quiet, give_back_pushed, pushed_givable}
use Rattle.space.proofs.kept.Kept.give_back.Goals as goal

pub give_frame-requires : goal.give_frame-requires
give_frame-requires c =
    let k = c.args.self.now in
    let h = opened c.args.self.now c.self.inside.runs c.self.inside.marks c.self.inside.caches c.self.inside.offline.items c.self.view_is c.self.invariant in
    givable_out k c.self.inside.runs c.self.inside.marks c.self.inside.caches c.self.inside.offline.items c.args.frame.0 h c.requires.out

pub invariant_of-self : goal.invariant_of-self
invariant_of-self c =
    let k = c.args.self.now in
    let h = opened c.args.self.now c.self.inside.runs c.self.inside.marks c.self.inside.caches c.self.inside.offline.items c.self.view_is c.self.invariant in
    let iso : is_frame_in k.sizes k.state.isolated c.args.frame.0 ≡ true =
    sym (cleared_isolated k c.self.inside.runs c.self.inside.marks c.self.inside.caches c.self.inside.offline.items c.args.frame.0 c.clear_out.new.self h c.clear_out.ensures) ∙ sym c.is_isolated_frame.ensures ∙ c.if-is_isolated_frame.true in
    are_of_space_of _ _ _ _ _ (give_back_isolated k c.self.inside.runs c.self.inside.marks c.self.inside.caches c.self.inside.offline.items c.args.who c.args.frame c.give_frame.new.runs c.clear_out.new.self h c.requires.out iso c.clear_out.ensures c.give_frame.ensures)

pub give_frame-requires-in-Some : goal.give_frame-requires-in-Some
give_frame-requires-in-Some c =
    let k = c.args.self.now in
    let h = opened c.args.self.now c.self.inside.runs c.self.inside.marks c.self.inside.caches c.self.inside.offline.items c.self.view_is c.self.invariant in
    pushed_givable k c.self.inside.runs c.self.inside.marks c.self.inside.caches c.self.inside.offline.items c.args.who c.in-Some.pushed_out h c.in-Some.ensures.pushed_out

pub invariant_of-self-in-Some : goal.invariant_of-self-in-Some
invariant_of-self-in-Some c =
    let k = c.args.self.now in
    let h = opened c.args.self.now c.self.inside.runs c.self.inside.marks c.self.inside.caches c.self.inside.offline.items c.self.view_is c.self.invariant in
    let iso : is_frame_in k.sizes k.state.isolated c.args.frame.0 ≡ false =
    sym (cleared_isolated k c.self.inside.runs c.self.inside.marks c.self.inside.caches c.self.inside.offline.items c.args.frame.0 c.clear_out.new.self h c.clear_out.ensures) ∙ sym c.is_isolated_frame.ensures ∙ c.if-is_isolated_frame.false in
    are_of_space_of _ _ _ _ _ (give_back_pushed k c.self.inside.runs c.self.inside.marks c.self.inside.caches c.self.inside.offline.items c.args.who c.args.frame c.in-Some.pushed_out c.give_frame-in-Some.new.runs c.clear_out.new.self c.put.new.self h c.requires.caller c.requires.out iso c.clear_out.ensures c.put.ensures.caches c.in-Some.ensures.pushed_out c.give_frame-in-Some.ensures)

pub invariant_of-self-in_default : goal.invariant_of-self-in_default
invariant_of-self-in_default c =
    let k = c.args.self.now in
    let h = opened c.args.self.now c.self.inside.runs c.self.inside.marks c.self.inside.caches c.self.inside.offline.items c.self.view_is c.self.invariant in
    let iso : is_frame_in k.sizes k.state.isolated c.args.frame.0 ≡ false =
    sym (cleared_isolated k c.self.inside.runs c.self.inside.marks c.self.inside.caches c.self.inside.offline.items c.args.frame.0 c.clear_out.new.self h c.clear_out.ensures) ∙ sym c.is_isolated_frame.ensures ∙ c.if-is_isolated_frame.false in
    are_of_space_of _ _ _ _ _ (give_back_quiet k c.self.inside.runs c.self.inside.marks c.self.inside.caches c.self.inside.offline.items c.args.who c.args.frame c.clear_out.new.self c.put.new.self h c.requires.caller c.requires.out iso c.clear_out.ensures c.put.ensures.caches c.in_default.ensures.pushed_out)
