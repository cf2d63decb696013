use Rattle.machine.proofs.CellsKept.{cells_at_start, cells_kept}
use Rattle.machine.proofs.laws.cells_have_64_bits.Goals as goal

pub returns-clause-start : goal.returns-clause-start
returns-clause-start c = cells_at_start

pub returns-clause-action : goal.returns-clause-action
returns-clause-action c = cells_kept
