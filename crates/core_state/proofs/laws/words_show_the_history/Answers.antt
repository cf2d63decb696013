use Rattle.core_state.proofs.Histories.{words_show_the_history}
use Rattle.core_state.proofs.laws.words_show_the_history.Goals as goal

pub returns : goal.returns
returns c = words_show_the_history
