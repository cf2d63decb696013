use Rattle.std.proofs.Common.{◌<◌, length, subst, sym}
use Rattle.core_state.specs.declared.view.View.{View}
use Rattle.core_state.specs.Steps.{MayRelease}
use Rattle.core_state.proofs.Rooms.{lent_has, lent_is, seat_has, room-release}
use Rattle.core_state.proofs.StepPlaces.{released_within}
use Rattle.core_state.proofs.kept.Kept.release.Goals as goal

pub write_word-requires : goal.write_word-requires
write_word-requires c =
    subst (λ n. n < length c.args.self.now.snapshot.words) (sym c.word_released-index.ensures.index)
    (released_within _ _ _ c.requires.sound c.args.seat _ (seat_has c.args.self.now.snapshot.views c.args.seat c.requires.seat) c.args.done.now c.requires.may)

pub returns-clause-room : goal.returns-clause-room
returns-clause-room c =
    let views = c.args.self.now.snapshot.views in
    let x = c.item_mut-view.result.now in
    room-release c.args.self.now.opening views c.args.seat x c.args.self.now.room
    (lent_has views c.args.seat x c.requires.seat c.item_mut-view.ensures.value) c.requires.room
    c.args.done.now _ _ _ c.requires.sound.seats
    (subst (λ (v : View). MayRelease c.args.self.now.opening v c.args.done.now) (lent_is views c.args.seat x c.requires.seat c.item_mut-view.ensures.value) c.requires.may)
    c.release.ensures.view c.release.ensures.entries c.release.ensures.cells
