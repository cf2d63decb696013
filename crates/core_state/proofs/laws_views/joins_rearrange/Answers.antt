use Rattle.core_state.proofs.SplitJoined.{joined}
use Rattle.core_state.proofs.laws_views.joins_rearrange.Goals as goal

pub returns : goal.returns
returns c = joined
