use Rattle.std.proofs.Common.{◌≡◌, ◌++◌, drop}
use Rattle.std.specs.List.{flat_map}
use Rattle.report.specs.ReportText.{tried_text}
use Rattle.report.proofs.tried_text.put_blocks.Given as goal

abbrev pub invariant-loop-tried : goal.invariant-loop-tried
invariant-loop-tried l = l.out.items ++ flat_map tried_text (drop l.tried-index l.blocks) ≡ l.fn.out.items ++ flat_map tried_text l.blocks
