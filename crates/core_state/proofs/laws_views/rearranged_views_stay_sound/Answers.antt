use Rattle.core_state.proofs.Rearranged.{rearranged_stays_sound}
use Rattle.core_state.proofs.laws_views.rearranged_views_stay_sound.Goals as goal

pub returns : goal.returns
returns c = rearranged_stays_sound
