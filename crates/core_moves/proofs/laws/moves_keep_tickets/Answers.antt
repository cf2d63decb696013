use Rattle.core_moves.proofs.TicketMoves.{moves_keep_tickets}
use Rattle.core_moves.proofs.laws.moves_keep_tickets.Goals as goal

pub returns : goal.returns
returns c = moves_keep_tickets
