use Rattle.core_state.proofs.AllowedReplies.{untouched_is_left_same}
use Rattle.core_state.proofs.laws_allowed.untouched_is_left_same.Goals as goal

pub returns : goal.returns
returns c = untouched_is_left_same
