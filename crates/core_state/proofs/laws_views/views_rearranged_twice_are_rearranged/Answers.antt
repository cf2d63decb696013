use Rattle.core_state.proofs.Rearranging.{rearranged_twice}
use Rattle.core_state.proofs.laws_views.views_rearranged_twice_are_rearranged.Goals as goal

pub returns : goal.returns
returns c = rearranged_twice
