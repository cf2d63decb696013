use Rattle.core_moves.proofs.TurnMoves.{moves_keep_turn}
use Rattle.core_moves.proofs.laws.moves_keep_turn.Goals as goal

pub returns : goal.returns
returns c = moves_keep_turn
