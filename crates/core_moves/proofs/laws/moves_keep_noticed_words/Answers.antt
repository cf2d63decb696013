use Rattle.core_moves.proofs.NoticedMoves.{moves_keep_noticed_words}
use Rattle.core_moves.proofs.laws.moves_keep_noticed_words.Goals as goal

pub returns : goal.returns
returns c = moves_keep_noticed_words
