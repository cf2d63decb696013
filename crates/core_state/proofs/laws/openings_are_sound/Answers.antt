use Rattle.core_state.proofs.Opened.{openings_are_sound}
use Rattle.core_state.proofs.laws.openings_are_sound.Goals as goal

pub returns : goal.returns
returns c = openings_are_sound
