use Rattle.space.proofs.Opens.{space_at_start_is_space}
use Rattle.space.proofs.laws.openings_are_spaces.Goals as goal

pub returns : goal.returns
returns c = λ s online start within h. space_at_start_is_space s online start within.plugged h
