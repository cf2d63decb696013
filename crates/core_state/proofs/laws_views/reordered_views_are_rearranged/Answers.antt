use Rattle.core_state.proofs.Reordered.{reordered}
use Rattle.core_state.proofs.laws_views.reordered_views_are_rearranged.Goals as goal

pub returns : goal.returns
returns c = reordered
