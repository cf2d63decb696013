use Rattle.host_work.proofs.TruthRows.{evacuations_of_small}
use Rattle.host_work.proofs.laws.evacuations_of_a_small_machine.Goals as goal

pub returns : goal.returns
returns c = evacuations_of_small
