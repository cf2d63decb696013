use Rattle.std.proofs.Common.{◌≡◌, ◌++◌, drop}
use Rattle.report.specs.Sections.{space_text}
use Rattle.report.proofs.space_text.put_actions.Given as goal

abbrev pub invariant-loop-number : goal.invariant-loop-number
invariant-loop-number l = l.out.items ++ space_text l.number (drop l.number l.actions) ≡ l.fn.out.items ++ space_text 0 l.actions
