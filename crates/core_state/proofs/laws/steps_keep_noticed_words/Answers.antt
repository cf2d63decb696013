use Rattle.core_state.proofs.NoticedKept.{steps_keep_noticed_words}
use Rattle.core_state.proofs.laws.steps_keep_noticed_words.Goals as goal

pub returns : goal.returns
returns c = steps_keep_noticed_words
