use Rattle.std.proofs.Common.{◌≡◌, take}
use Rattle.evac_model.proofs.cells.Cells.from_slice.Given as goal

abbrev pub invariant-loop-value : goal.invariant-loop-value
invariant-loop-value l = l.cells ≡ take l.value-index l.values
