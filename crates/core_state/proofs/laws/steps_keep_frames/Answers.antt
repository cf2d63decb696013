use Rattle.core_state.proofs.FrameSteps.{steps_keep_frames}
use Rattle.core_state.proofs.laws.steps_keep_frames.Goals as goal

pub returns : goal.returns
returns c = steps_keep_frames
