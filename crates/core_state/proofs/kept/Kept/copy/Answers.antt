use Rattle.std.proofs.Common.{◌<◌, length, set, subst, sym}
use Rattle.core_state.specs.declared.step.ScanStep.TheVariants.{Copy}
use Rattle.core_state.specs.declared.view.View.{View}
use Rattle.core_state.specs.Room.{HasRoom}
use Rattle.core_state.specs.ScanSteps.{AllowedScan}
use Rattle.core_state.proofs.Rooms.{seat_has, lent_has, lent_is}
use Rattle.core_state.proofs.RoomMoves.{place_for_copy, copied_within, room-copy}
use Rattle.core_state.proofs.kept.Kept.copy.Goals as goal

pub word_at-found-requires : goal.word_at-found-requires
word_at-found-requires c =
    let views = c.args.self.now.snapshot.views in
    subst (λ n. n < length c.args.self.now.snapshot.words) (sym c.next_cell-index.ensures)
    (copied_within c.args.self.now.opening _ views c.requires.sound c.args.seat _ (seat_has views c.args.seat c.requires.seat) c.args.self.now.room c.requires.room c.requires.may)

pub copy-requires : goal.copy-requires
copy-requires c =
    let o = c.args.self.now.opening in
    let views = c.args.self.now.snapshot.views in
    let x = c.item_mut.result.now in
    place_for_copy o _ views c.requires.sound c.args.seat x (lent_has views c.args.seat x c.requires.seat c.item_mut.ensures.value) c.args.self.now.room c.requires.room
    (subst (λ (v : View). AllowedScan o v Copy) (lent_is views c.args.seat x c.requires.seat c.item_mut.ensures.value) c.requires.may)

pub returns-clause-room : goal.returns-clause-room
returns-clause-room c =
    let o = c.args.self.now.opening in
    let views = c.args.self.now.snapshot.views in
    let r = c.args.self.now.room in
    let x = c.item_mut.result.now in
    subst (λ (w : View). HasRoom o (set views c.args.seat w) r) (sym c.copy.ensures)
    (room-copy o _ views c.requires.sound c.args.seat x (lent_has views c.args.seat x c.requires.seat c.item_mut.ensures.value) r c.requires.room
    (subst (λ (v : View). AllowedScan o v Copy) (lent_is views c.args.seat x c.requires.seat c.item_mut.ensures.value) c.requires.may) c.word_at-found.result)
