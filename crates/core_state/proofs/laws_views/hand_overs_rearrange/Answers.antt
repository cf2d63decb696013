use Rattle.core_state.proofs.HandedOver.{handed_over}
use Rattle.core_state.proofs.laws_views.hand_overs_rearrange.Goals as goal

pub returns : goal.returns
returns c = handed_over
