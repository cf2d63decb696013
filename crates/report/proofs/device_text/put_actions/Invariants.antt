use Rattle.std.proofs.Common.{◌≡◌, ◌++◌, drop}
use Rattle.std.specs.List.{AllByRecursion}
use Rattle.report.specs.ReportText.{HasActState}
use Rattle.report.specs.Sections.{device_text}
use Rattle.report.proofs.device_text.put_actions.Given as goal

abbrev pub invariant-loop-number : goal.invariant-loop-number
invariant-loop-number l = record {
  states : AllByRecursion (λ a. HasActState a.act) (drop l.number l.actions);
  whole : l.out.items ++ device_text l.number (drop l.number l.actions) ≡ l.fn.out.items ++ device_text 0 l.actions;
}
