use Rattle.core_moves.proofs.CoreMoves.{move_stays_sound}
use Rattle.core_moves.proofs.on_core.step_move.Goals as goal

pub returns-clause-sound : goal.returns-clause-sound
returns-clause-sound c =
    move_stays_sound c.args.core.now.opening _ c.args.core.now.snapshot _ c.args.seat c.args.step c.opening-opening.ensures.small
    c.requires.seat c.requires.sound c.requires.may c.make_move.ensures.snapshot c.make_move.ensures.opening
