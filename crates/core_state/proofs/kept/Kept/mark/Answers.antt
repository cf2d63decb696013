use Rattle.std.proofs.Common.{◌<◌, length, subst, sym, arith}
use Rattle.core_state.proofs.Rooms.{lent_has, seat_has, marks_short, room-mark}
use Rattle.core_state.proofs.StepPlaces.{owned_frame}
use Rattle.core_state.proofs.ImageSteps.{dirty_within}
use Rattle.core_state.proofs.kept.Kept.mark.Goals as goal

pub dirty_index-index-requires-clause-frame_fits : goal.dirty_index-index-requires-clause-frame_fits
dirty_index-index-requires-clause-frame_fits c =
    let a = owned_frame _ _ _ c.requires.sound c.args.seat _ (seat_has c.args.self.now.snapshot.views c.args.seat c.requires.seat) _ c.requires.may in
    let b = c.requires.room.small.frames in omega arith

pub write_word-requires : goal.write_word-requires
write_word-requires c =
    subst (λ n. n < length c.args.self.now.snapshot.words) (sym c.dirty_index-index.ensures)
    (dirty_within c.args.self.now.opening _ _ c.requires.sound.shaped
    (owned_frame _ _ _ c.requires.sound c.args.seat _ (seat_has c.args.self.now.snapshot.views c.args.seat c.requires.seat) _ c.requires.may))

pub item_mut-pool-requires : goal.item_mut-pool-requires
item_mut-pool-requires c =
    let a = owned_frame _ _ _ c.requires.sound c.args.seat _ (seat_has c.args.self.now.snapshot.views c.args.seat c.requires.seat) _ c.requires.may in
    let b = c.requires.room.frames in omega arith

pub mark-requires : goal.mark-requires
mark-requires c =
    let views = c.args.self.now.snapshot.views in
    let x = c.item_mut-view.result.now in
    record {
      short = marks_short c.args.self.now.opening views c.args.seat x c.args.self.now.room (lent_has views c.args.seat x c.requires.seat c.item_mut-view.ensures.value) c.requires.room
          c.args.frame.0 c.item_mut-pool.result.now
          (let a = owned_frame _ _ _ c.requires.sound c.args.seat _ (seat_has c.args.self.now.snapshot.views c.args.seat c.requires.seat) _ c.requires.may in let b = c.requires.room.frames in omega arith) c.item_mut-pool.ensures.value;
    }

pub returns-clause-room : goal.returns-clause-room
returns-clause-room c =
    let views = c.args.self.now.snapshot.views in
    let x = c.item_mut-view.result.now in
    room-mark c.args.self.now.opening views c.args.seat x c.args.self.now.room
    (lent_has views c.args.seat x c.requires.seat c.item_mut-view.ensures.value) c.requires.room
    c.args.frame c.item_mut-pool.result.now _ _
    (owned_frame _ _ _ c.requires.sound c.args.seat _ (seat_has views c.args.seat c.requires.seat) _ c.requires.may) c.item_mut-pool.ensures.value
    c.mark.ensures.view c.mark.ensures.pool c.mark.ensures.nodes
