use Rattle.evac_model.proofs.Histories.{legal_tickets}
use Rattle.evac_model.proofs.laws.legal_tickets.Goals as goal

pub returns : goal.returns
returns c = legal_tickets
