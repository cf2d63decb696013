use Rattle.core_state.proofs.SplitJoined.{split}
use Rattle.core_state.proofs.laws_views.splits_rearrange.Goals as goal

pub returns : goal.returns
returns c = split
