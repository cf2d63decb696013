use Rattle.machine.proofs.SpaceNow.{mapped_is_plugged}
use Rattle.machine.proofs.laws.mapped_pages_are_plugged.Goals as goal

pub returns : goal.returns
returns c = mapped_is_plugged
