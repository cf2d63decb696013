use Rattle.evac_model.proofs.Bounds.{is_power_tested}
use Rattle.evac_model.proofs.geometry.is_power_to_512.Goals as goal

pub returns : goal.returns
returns c = is_power_tested c.args.n c.contains.result c.contains.ensures.value
