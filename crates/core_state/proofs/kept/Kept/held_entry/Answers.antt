use Rattle.std.proofs.Common.{◌<◌, length, subst, sym, arith}
use Rattle.core_state.proofs.Rooms.{seat_has, read_held}
use Rattle.core_state.proofs.TurnSteps.{holds_mine}
use Rattle.core_state.proofs.StepPlaces.{entry_within}
use Rattle.core_state.proofs.kept.Kept.held_entry.Goals as goal

pub entry_index-requires : goal.entry_index-requires
entry_index-requires c =
    let views = c.args.self.now.snapshot.views in
    let a = holds_mine _ _ _ c.args.seat _ c.requires.sound.turn (seat_has views c.args.seat c.requires.seat) c.in-Some.held (read_held views _ c.args.seat _ _ c.requires.seat c.as_slice.ensures c.in-Some.is) in
    let b = c.requires.small in
    omega arith

pub returns-clause-within : goal.returns-clause-within
returns-clause-within c =
    let views = c.args.self.now.snapshot.views in
    subst (λ n. n < length c.args.self.now.snapshot.words) (sym c.entry_index.ensures)
    (entry_within _ _ _ c.requires.sound _
    (holds_mine _ _ _ c.args.seat _ c.requires.sound.turn (seat_has views c.args.seat c.requires.seat) c.in-Some.held (read_held views _ c.args.seat _ _ c.requires.seat c.as_slice.ensures c.in-Some.is)))
