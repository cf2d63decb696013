use Rattle.std.proofs.Common.{subst, ap, ◌∙◌, arith}
use Rattle.evac_words.specs.Word.{frame_of}
use Rattle.core_state.specs.declared.keeper.Keeper.TheVariants.{OneOwner}
use Rattle.core_state.specs.declared.step.MoveStep.TheVariants.{Unmap}
use Rattle.core_state.specs.declared.view.View.{View}
use Rattle.core_state.specs.Steps.{held_word}
use Rattle.core_state.specs.MoveSteps.{MayUnmap, AllowedMove}
use Rattle.core_state.proofs.Rooms.{seat_has, lent_has, lent_is}
use Rattle.core_state.proofs.RoomMoves.{room-unmap}
use Rattle.core_state.proofs.MovePlaces.{unmap_on_frame, old_frame_low, old_frame_has, old_frame_spare, held_has_room}
use Rattle.core_state.proofs.kept.Kept.unmap.Goals as goal

pub take_spare-spare-requires-clause-frame : goal.take_spare-spare-requires-clause-frame
take_spare-spare-requires-clause-frame c =
    let at = seat_has c.args.self.now.snapshot.views c.args.seat c.requires.seat in
    let a = old_frame_low _ _ _ c.requires.sound c.args.seat _ at (unmap_on_frame _ _ _ c.requires.sound c.args.seat _ at c.requires.may) in
    let b = c.requires.room.spares in
    let e = c.held_frame.ensures in omega arith

pub take_spare-spare-requires-clause-some : goal.take_spare-spare-requires-clause-some
take_spare-spare-requires-clause-some c =
    let at = seat_has c.args.self.now.snapshot.views c.args.seat c.requires.seat in
    old_frame_has _ _ _ c.requires.sound c.args.seat _ at c.args.self.now.room c.held_frame.result c.requires.room (unmap_on_frame _ _ _ c.requires.sound c.args.seat _ at c.requires.may) c.held_frame.ensures

pub unmap-requires-clause-held : goal.unmap-requires-clause-held
unmap-requires-clause-held c =
    let views = c.args.self.now.snapshot.views in
    let x = c.item_mut.result.now in
    let may = subst (λ (v : View). AllowedMove OneOwner c.args.self.now.opening v Unmap) (lent_is views c.args.seat x c.requires.seat c.item_mut.ensures.value) c.requires.may in
    held_has_room c.args.self.now.opening views c.args.seat x (lent_has views c.args.seat x c.requires.seat c.item_mut.ensures.value) c.requires.sound.seats may.0 MayUnmap may.1

pub unmap-requires-clause-hand : goal.unmap-requires-clause-hand
unmap-requires-clause-hand c =
    let views = c.args.self.now.snapshot.views in
    let x = c.item_mut.result.now in
    let at = seat_has views c.args.seat c.requires.seat in
    let may = subst (λ (v : View). AllowedMove OneOwner c.args.self.now.opening v Unmap) (lent_is views c.args.seat x c.requires.seat c.item_mut.ensures.value) c.requires.may in
    let a = old_frame_low _ _ _ c.requires.sound c.args.seat _ at (unmap_on_frame _ _ _ c.requires.sound c.args.seat _ at c.requires.may) in
    let b = may.0.hand in
    let e = c.held_frame.ensures in omega arith

pub unmap-requires-clause-spare : goal.unmap-requires-clause-spare
unmap-requires-clause-spare c =
    let views = c.args.self.now.snapshot.views in
    let x = c.item_mut.result.now in
    let at = seat_has views c.args.seat c.requires.seat in
    let may = subst (λ (v : View). AllowedMove OneOwner c.args.self.now.opening v Unmap) (lent_is views c.args.seat x c.requires.seat c.item_mut.ensures.value) c.requires.may in
    old_frame_spare _ _ _ c.requires.sound c.args.seat _ at c.args.self.now.room c.held_frame.result x.cells c.take_spare-spare.result c.requires.room
    (unmap_on_frame _ _ _ c.requires.sound c.args.seat _ at c.requires.may) c.held_frame.ensures may.0.cells c.take_spare-spare.ensures.spare

pub returns-clause-room : goal.returns-clause-room
returns-clause-room c =
    let views = c.args.self.now.snapshot.views in
    let x = c.item_mut.result.now in
    let at = seat_has views c.args.seat c.requires.seat in
    let same = lent_is views c.args.seat x c.requires.seat c.item_mut.ensures.value in
    let may = subst (λ (v : View). AllowedMove OneOwner c.args.self.now.opening v Unmap) same c.requires.may in
    room-unmap c.args.self.now.opening views c.args.seat x c.args.self.now.room
    (lent_has views c.args.seat x c.requires.seat c.item_mut.ensures.value) c.requires.room c.held_frame.result _ _
    (let a = old_frame_low _ _ _ c.requires.sound c.args.seat _ at (unmap_on_frame _ _ _ c.requires.sound c.args.seat _ at c.requires.may) in let b = may.0.hand in let e = c.held_frame.ensures in omega arith)
    may
    (c.held_frame.ensures ∙ ap (λ (v : View). frame_of (held_word v.held)) same)
    c.unmap.ensures c.take_spare-spare.ensures.room
