use Rattle.core_state.proofs.SeatParts.{seats_can_be_joined}
use Rattle.core_state.proofs.laws_views.seats_can_be_joined.Goals as goal

pub returns : goal.returns
returns c = seats_can_be_joined
