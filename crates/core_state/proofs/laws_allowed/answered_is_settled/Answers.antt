use Rattle.core_state.proofs.AllowedReplies.{answered_is_settled}
use Rattle.core_state.proofs.laws_allowed.answered_is_settled.Goals as goal

pub returns : goal.returns
returns c = answered_is_settled
