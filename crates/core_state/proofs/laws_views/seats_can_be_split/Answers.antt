use Rattle.core_state.proofs.SeatParts.{seats_can_be_split}
use Rattle.core_state.proofs.laws_views.seats_can_be_split.Goals as goal

pub returns : goal.returns
returns c = seats_can_be_split
