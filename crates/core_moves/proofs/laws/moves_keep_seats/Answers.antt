use Rattle.core_moves.proofs.SeatMoves.{moves_keep_seats}
use Rattle.core_moves.proofs.laws.moves_keep_seats.Goals as goal

pub returns : goal.returns
returns c = moves_keep_seats
