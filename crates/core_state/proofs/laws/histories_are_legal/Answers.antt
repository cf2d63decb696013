use Rattle.core_state.proofs.Histories.{histories_are_legal}
use Rattle.core_state.proofs.laws.histories_are_legal.Goals as goal

pub returns : goal.returns
returns c = histories_are_legal
