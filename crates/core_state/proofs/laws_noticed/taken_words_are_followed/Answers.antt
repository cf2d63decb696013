use Rattle.core_state.proofs.NoticedHistory.{taken_words_are_followed}
use Rattle.core_state.proofs.laws_noticed.taken_words_are_followed.Goals as goal

pub returns : goal.returns
returns c = taken_words_are_followed
