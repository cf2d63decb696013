use Rattle.core_state.proofs.TurnSteps.{steps_keep_turn}
use Rattle.core_state.proofs.laws.steps_keep_turn.Goals as goal

pub returns : goal.returns
returns c = steps_keep_turn
