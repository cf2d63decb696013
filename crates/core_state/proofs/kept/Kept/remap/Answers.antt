use Rattle.std.proofs.Common.{subst, ap, set, ◌∙◌, arith, Some}
use Rattle.evac_words.specs.Word.{frame_of}
use Rattle.core_state.specs.declared.keeper.Keeper.TheVariants.{OneOwner}
use Rattle.core_state.specs.declared.room.Room.{Room}
use Rattle.core_state.specs.declared.step.MoveStep.TheVariants.{Remap}
use Rattle.core_state.specs.declared.view.View.{View}
use Rattle.core_state.specs.Steps.{held_word}
use Rattle.core_state.specs.MoveSteps.{AllowedMove}
use Rattle.core_state.specs.Views.{view_of}
use Rattle.core_state.proofs.Rooms.{seat_has, lent_has, lent_is}
use Rattle.core_state.proofs.RoomMoves.{room-remap}
use Rattle.core_state.proofs.MovePlaces.{remap_on_frame, remap_place, old_frame_low, old_frame_has, old_frame_spare}
use Rattle.core_state.proofs.kept.Kept.remap.Goals as goal

pub take_spare-old_spare-requires-clause-frame : goal.take_spare-old_spare-requires-clause-frame
take_spare-old_spare-requires-clause-frame c =
    let at = seat_has c.args.self.now.snapshot.views c.args.seat c.requires.seat in
    let a = old_frame_low _ _ _ c.requires.sound c.args.seat _ at (remap_on_frame _ _ _ c.requires.sound c.args.seat _ at c.args.frame c.requires.may) in
    let b = c.requires.room.spares in
    let e = c.held_frame.ensures in omega arith

pub take_spare-old_spare-requires-clause-some : goal.take_spare-old_spare-requires-clause-some
take_spare-old_spare-requires-clause-some c =
    let at = seat_has c.args.self.now.snapshot.views c.args.seat c.requires.seat in
    old_frame_has _ _ _ c.requires.sound c.args.seat _ at c.args.self.now.room c.held_frame.result c.requires.room (remap_on_frame _ _ _ c.requires.sound c.args.seat _ at c.args.frame c.requires.may) c.held_frame.ensures

pub remap-spare-requires-clause-old_place : goal.remap-spare-requires-clause-old_place
remap-spare-requires-clause-old_place c =
    let views = c.args.self.now.snapshot.views in
    let x = c.item_mut.result.now in
    let at = seat_has views c.args.seat c.requires.seat in
    let may = subst (λ (v : View). AllowedMove OneOwner c.args.self.now.opening v (Remap c.args.frame)) (lent_is views c.args.seat x c.requires.seat c.item_mut.ensures.value) c.requires.may in
    let a = old_frame_low _ _ _ c.requires.sound c.args.seat _ at (remap_on_frame _ _ _ c.requires.sound c.args.seat _ at c.args.frame c.requires.may) in
    let b = may.0.hand in
    let e = c.held_frame.ensures in omega arith

pub remap-spare-requires-clause-spare : goal.remap-spare-requires-clause-spare
remap-spare-requires-clause-spare c =
    let views = c.args.self.now.snapshot.views in
    let x = c.item_mut.result.now in
    let at = seat_has views c.args.seat c.requires.seat in
    let may = subst (λ (v : View). AllowedMove OneOwner c.args.self.now.opening v (Remap c.args.frame)) (lent_is views c.args.seat x c.requires.seat c.item_mut.ensures.value) c.requires.may in
    old_frame_spare _ _ _ c.requires.sound c.args.seat _ at c.args.self.now.room c.held_frame.result x.cells c.take_spare-old_spare.result c.requires.room
    (remap_on_frame _ _ _ c.requires.sound c.args.seat _ at c.args.frame c.requires.may) c.held_frame.ensures may.0.cells c.take_spare-old_spare.ensures.spare

pub remap-spare-requires-clause-hand : goal.remap-spare-requires-clause-hand
remap-spare-requires-clause-hand c =
    let views = c.args.self.now.snapshot.views in
    let x = c.item_mut.result.now in
    remap_place c.args.self.now.opening x c.args.frame
    (subst (λ (v : View). AllowedMove OneOwner c.args.self.now.opening v (Remap c.args.frame)) (lent_is views c.args.seat x c.requires.seat c.item_mut.ensures.value) c.requires.may)

pub returns-clause-room : goal.returns-clause-room
returns-clause-room c =
    let views = c.args.self.now.snapshot.views in
    let x = c.item_mut.result.now in
    let at = seat_has views c.args.seat c.requires.seat in
    let same = lent_is views c.args.seat x c.requires.seat c.item_mut.ensures.value in
    let may = subst (λ (v : View). AllowedMove OneOwner c.args.self.now.opening v (Remap c.args.frame)) same c.requires.may in
    room-remap c.args.self.now.opening views c.args.seat x c.args.self.now.room
    (lent_has views c.args.seat x c.requires.seat c.item_mut.ensures.value) c.requires.room c.args.frame c.held_frame.result _ c.remap-spare.result _ c.requires.sound.seats
    (let a = old_frame_low _ _ _ c.requires.sound c.args.seat _ at (remap_on_frame _ _ _ c.requires.sound c.args.seat _ at c.args.frame c.requires.may) in let b = may.0.hand in let e = c.held_frame.ensures in omega arith)
    may
    (c.held_frame.ensures ∙ ap (λ (v : View). frame_of (held_word v.held)) same)
    c.remap-spare.ensures.view c.remap-spare.ensures.spare
    (c.keep_spare.ensures ∙ ap (λ (r : Room). record r { spare = set r.spare c.args.frame.0 (Some c.remap-spare.result) }) c.take_spare-old_spare.ensures.room)

pub remap-spare-requires-clause-fits : goal.remap-spare-requires-clause-fits
remap-spare-requires-clause-fits c =
    let low = remap_place c.args.self.now.opening (view_of c.args.self.now.snapshot.views c.args.seat) c.args.frame c.requires.may in
    let hand = c.requires.may.0.hand in
    let small = c.requires.room.small.frames in omega arith
