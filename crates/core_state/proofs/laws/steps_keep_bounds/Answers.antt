use Rattle.core_state.proofs.BoundSteps.{steps_keep_bounds}
use Rattle.core_state.proofs.laws.steps_keep_bounds.Goals as goal

pub returns : goal.returns
returns c = steps_keep_bounds
