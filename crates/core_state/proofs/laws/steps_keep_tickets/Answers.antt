use Rattle.core_state.proofs.TicketSteps.{steps_keep_tickets}
use Rattle.core_state.proofs.laws.steps_keep_tickets.Goals as goal

pub returns : goal.returns
returns c = steps_keep_tickets
