use Rattle.std.proofs.Common.{◌≡◌, ◌++◌, drop}
use Rattle.std.specs.List.{flat_map}
use Rattle.report.specs.ReportText.{page_text}
use Rattle.report.proofs.text.put_pages.Given as goal

abbrev pub invariant-loop-p : goal.invariant-loop-p
invariant-loop-p l = l.out.items ++ flat_map page_text (drop l.p-index l.pages) ≡ l.fn.out.items ++ flat_map page_text l.pages
