use Rattle.std.proofs.Common.{arith}
use Rattle.core_state.proofs.Rooms.{seat_has, read_held}
use Rattle.core_state.proofs.TurnSteps.{holds_mine}
use Rattle.core_state.proofs.StepPlaces.{ticket_small}
use Rattle.core_state.proofs.kept.Kept.word_released.Goals as goal

pub entry_index-index-requires : goal.entry_index-index-requires
entry_index-index-requires c =
    let views = c.args.self.now.snapshot.views in
    let a = holds_mine _ _ _ c.args.seat _ c.requires.sound.turn (seat_has views c.args.seat c.requires.seat) c.in-Some.held (read_held views _ c.args.seat _ _ c.requires.seat c.as_slice.ensures c.in-Some.is) in
    let b = c.requires.small in
    omega arith

pub word_after-requires-clause-ticket : goal.word_after-requires-clause-ticket
word_after-requires-clause-ticket c =
    let views = c.args.self.now.snapshot.views in
    ticket_small _ _ _ c.requires.sound c.args.seat _ (seat_has views c.args.seat c.requires.seat) c.in-Some.held (read_held views _ c.args.seat _ _ c.requires.seat c.as_slice.ensures c.in-Some.is)
