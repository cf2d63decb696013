use Rattle.evac_model.proofs.Histories.{legal_push}
use Rattle.evac_model.proofs.laws.legal_push.Goals as goal

pub returns : goal.returns
returns c = legal_push
