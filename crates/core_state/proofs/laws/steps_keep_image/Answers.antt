use Rattle.core_state.proofs.ImageSteps.{steps_keep_image}
use Rattle.core_state.proofs.laws.steps_keep_image.Goals as goal

pub returns : goal.returns
returns c = steps_keep_image
