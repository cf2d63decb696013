use Rattle.std.proofs.Common.{◌≡◌, ◌++◌, map, drop, codes}
use Rattle.std.specs.List.{flat_map}
use Rattle.std.specs.Fmt.{decimal}
use Rattle.report.specs.ReportText.{behind_space}
use Rattle.report.proofs.text.put_plugged.Given as goal

abbrev pub invariant-loop-b : goal.invariant-loop-b
invariant-loop-b l = l.out.items ++ flat_map behind_space (map (λ b. decimal b.0) (drop l.b-index l.blocks)) ≡ (l.fn.out.items ++ codes "plugged") ++ flat_map behind_space (map (λ b. decimal b.0) l.blocks)
