use Rattle.std.proofs.Common.{◌≡◌, ◌++◌, drop}
use Rattle.std.specs.List.{flat_map}
use Rattle.migrate_image.specs.Fields.{le64}
use Rattle.migrate_image.proofs.cells.put_cells.Given as goal

abbrev pub invariant-loop-cell : goal.invariant-loop-cell
invariant-loop-cell l = l.out.items ++ flat_map le64 (drop l.cell-index l.cells) ≡ l.fn.out.items ++ flat_map le64 l.cells
