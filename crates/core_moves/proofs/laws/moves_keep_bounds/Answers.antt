use Rattle.core_moves.proofs.BoundMoves.{moves_keep_bounds}
use Rattle.core_moves.proofs.laws.moves_keep_bounds.Goals as goal

pub returns : goal.returns
returns c = moves_keep_bounds
