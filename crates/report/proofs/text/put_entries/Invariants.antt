use Rattle.std.proofs.Common.{◌≡◌, ◌++◌}
use Rattle.std.specs.List.{flat_map}
use Rattle.report.specs.ReportText.{entry_text}
use Rattle.report.proofs.text.put_entries.Given as goal

abbrev pub invariant-loop-e : goal.invariant-loop-e
invariant-loop-e l = l.out.items ++ flat_map entry_text l.e-iterator ≡ l.fn.out.items ++ flat_map entry_text l.entries
