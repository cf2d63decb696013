use Rattle.std.proofs.Common.{◌≡◌, ◌++◌, drop}
use Rattle.std.specs.List.{AllByRecursion, flat_map}
use Rattle.report.specs.ReportText.{HasResultState}
use Rattle.report.specs.Sections.{run_text}
use Rattle.report.proofs.host_text.put_runs.Given as goal

abbrev pub invariant-loop-run : goal.invariant-loop-run
invariant-loop-run l = record {
  states : AllByRecursion (λ x. HasResultState x.line.result) (drop l.run-index l.runs);
  whole : l.out.items ++ flat_map run_text (drop l.run-index l.runs) ≡ l.fn.out.items ++ flat_map run_text l.runs;
}
