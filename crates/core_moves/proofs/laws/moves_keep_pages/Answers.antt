use Rattle.core_moves.proofs.PageMoves.{moves_keep_pages}
use Rattle.core_moves.proofs.laws.moves_keep_pages.Goals as goal

pub returns : goal.returns
returns c = moves_keep_pages
