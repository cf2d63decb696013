use Rattle.evac_model.proofs.Members.{is_in-contains}
use Rattle.evac_model.proofs.laws.is_in_contains.Goals as goal

pub returns : goal.returns
returns c = is_in-contains
