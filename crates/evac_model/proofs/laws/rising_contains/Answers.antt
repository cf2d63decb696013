use Rattle.evac_model.proofs.Rising.{rising_contains}
use Rattle.evac_model.proofs.laws.rising_contains.Goals as goal

pub returns : goal.returns
returns c = rising_contains
