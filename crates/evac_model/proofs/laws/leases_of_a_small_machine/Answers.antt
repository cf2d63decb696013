use Rattle.std.proofs.Common.{refl}
use Rattle.evac_model.proofs.laws.leases_of_a_small_machine.Goals as goal

pub returns : goal.returns
returns c = record { caches = refl; free = refl; isolated = refl }
