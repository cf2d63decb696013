use Rattle.core_moves.proofs.HandOvers.{hand_overs_keep_sound}
use Rattle.core_moves.proofs.laws.hand_overs_keep_sound.Goals as goal

pub returns : goal.returns
returns c = hand_overs_keep_sound
