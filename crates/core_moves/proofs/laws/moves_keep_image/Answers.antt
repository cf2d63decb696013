use Rattle.core_moves.proofs.ImageMoves.{moves_keep_image}
use Rattle.core_moves.proofs.laws.moves_keep_image.Goals as goal

pub returns : goal.returns
returns c = moves_keep_image
