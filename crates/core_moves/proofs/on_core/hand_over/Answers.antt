use Rattle.core_moves.proofs.CoreMoves.{hand_over_stays_sound}
use Rattle.core_moves.proofs.on_core.hand_over.Goals as goal

pub returns-clause-sound : goal.returns-clause-sound
returns-clause-sound c =
    hand_over_stays_sound c.args.core.now.opening _ c.args.core.now.snapshot _ c.args.from c.args.to c.args.first.0 c.args.n
    c.requires.from c.requires.to c.requires.apart c.requires.sound c.requires.may c.make_hand_over.ensures.snapshot c.make_hand_over.ensures.opening
