use Rattle.core_state.proofs.SoundSteps.{steps_keep_sound}
use Rattle.core_state.proofs.laws.steps_keep_sound.Goals as goal

pub returns : goal.returns
returns c = steps_keep_sound
