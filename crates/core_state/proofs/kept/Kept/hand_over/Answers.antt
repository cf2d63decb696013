use Rattle.core_state.proofs.Rooms.{seat_has}
use Rattle.core_state.proofs.RoomMoves.{room-hand_over}
use Rattle.core_state.proofs.kept.Kept.hand_over.Goals as goal

pub returns-clause-room : goal.returns-clause-room
returns-clause-room c =
    let views = c.args.self.now.snapshot.views in
    room-hand_over c.args.self.now.opening views c.args.from c.args.to _ _ c.args.first.0 c.args.n c.args.self.now.room
    (seat_has views c.args.from c.requires.from) (seat_has views c.args.to c.requires.to) c.requires.apart c.requires.room c.requires.may _ c.pass_frames.ensures
