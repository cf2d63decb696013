use Rattle.core_state.proofs.NoticedHistory.{noticed_words_tell_the_history}
use Rattle.core_state.proofs.laws_noticed.noticed_words_tell_the_history.Goals as goal

pub returns : goal.returns
returns c = noticed_words_tell_the_history
