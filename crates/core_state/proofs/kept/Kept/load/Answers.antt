use Rattle.std.proofs.Common.{◌<◌, length, subst, sym, set}
use Rattle.core_state.specs.declared.view.View.{View}
use Rattle.core_state.specs.Room.{HasRoom}
use Rattle.core_state.proofs.Rooms.{lent_has, seat_has, room-load}
use Rattle.core_state.proofs.StepPlaces.{cell_within, loaded_frame}
use Rattle.core_state.proofs.kept.Kept.load.Goals as goal

pub cell_index-index-requires-clause-frame_fits : goal.cell_index-index-requires-clause-frame_fits
cell_index-index-requires-clause-frame_fits c =
    let views = c.args.self.now.snapshot.views in
    subst (λ n. n < c.args.self.now.opening.frames) (sym c.held_frame-frame.ensures)
    (loaded_frame _ _ _ c.requires.sound c.args.seat _ (seat_has views c.args.seat c.requires.seat) _ c.requires.may)

pub word_at-found-requires : goal.word_at-found-requires
word_at-found-requires c =
    subst (λ n. n < length c.args.self.now.snapshot.words) (sym c.cell_index-index.ensures)
    (cell_within _ _ _ c.requires.sound _ _ (subst (λ n. n < c.args.self.now.opening.frames) (sym c.held_frame-frame.ensures)
    (loaded_frame _ _ _ c.requires.sound c.args.seat _ (seat_has c.args.self.now.snapshot.views c.args.seat c.requires.seat) _ c.requires.may)) c.requires.may.in_range)

pub returns-clause-room : goal.returns-clause-room
returns-clause-room c =
    let o = c.args.self.now.opening in
    let views = c.args.self.now.snapshot.views in
    let r = c.args.self.now.room in
    let x = c.item_mut.result.now in
    subst (λ (w : View). HasRoom o (set views c.args.seat w) r) (sym c.load.ensures)
    (room-load o views c.args.seat x r (lent_has views c.args.seat x c.requires.seat c.item_mut.ensures.value) c.requires.room c.args.cell c.word_at-found.result)
