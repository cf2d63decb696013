use Rattle.core_moves.proofs.FrameMoves.{moves_keep_frames}
use Rattle.core_moves.proofs.laws.moves_keep_frames.Goals as goal

pub returns : goal.returns
returns c = moves_keep_frames
