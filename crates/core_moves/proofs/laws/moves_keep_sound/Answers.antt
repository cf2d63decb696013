use Rattle.core_moves.proofs.SoundMoves.{moves_keep_sound}
use Rattle.core_moves.proofs.laws.moves_keep_sound.Goals as goal

pub returns : goal.returns
returns c = moves_keep_sound
