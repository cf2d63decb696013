use Rattle.std.proofs.Common.{refl}
use Rattle.evac_model.proofs.laws.runs_of_a_small_machine.Goals as goal

pub returns : goal.returns
returns c = record { alone = refl; pairs = refl; blocks = refl; smallest = refl; lowest_pair = refl; whole_block = refl; boot_alone = refl; kernel_block = refl }
