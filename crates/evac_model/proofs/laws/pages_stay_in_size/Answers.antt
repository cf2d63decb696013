use Rattle.evac_model.proofs.PageSizes.{after_start_size}
use Rattle.evac_model.proofs.laws.pages_stay_in_size.Goals as goal

pub returns : goal.returns
returns c = after_start_size
