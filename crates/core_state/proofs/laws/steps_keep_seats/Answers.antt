use Rattle.core_state.proofs.SeatSteps.{steps_keep_seats}
use Rattle.core_state.proofs.laws.steps_keep_seats.Goals as goal

pub returns : goal.returns
returns c = steps_keep_seats
