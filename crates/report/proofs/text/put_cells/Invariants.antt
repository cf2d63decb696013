use Rattle.std.proofs.Common.{◌≡◌, ◌++◌, drop}
use Rattle.std.specs.List.{flat_map}
use Rattle.report.specs.ReportText.{behind_space, cell_words}
use Rattle.report.proofs.text.put_cells.Given as goal

abbrev pub invariant-loop-value : goal.invariant-loop-value
invariant-loop-value l = record {
  place : l.cell ≡ l.value-index;
  whole : l.out.items ++ flat_map behind_space (cell_words l.value-index (drop l.value-index l.cells)) ≡ l.fn.out.items ++ flat_map behind_space (cell_words 0 l.cells);
}
