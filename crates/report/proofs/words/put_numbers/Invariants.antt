use Rattle.std.proofs.Common.{◌≡◌, ◌++◌, map, drop}
use Rattle.std.specs.List.{flat_map}
use Rattle.std.specs.Fmt.{decimal}
use Rattle.report.specs.ReportText.{behind_space}
use Rattle.report.proofs.words.put_numbers.Given as goal

-- what is written and what is left to write are the whole
abbrev pub invariant-loop-n : goal.invariant-loop-n
invariant-loop-n l = l.out.items ++ flat_map behind_space (map decimal (drop l.n-index l.numbers)) ≡ l.fn.out.items ++ flat_map behind_space (map decimal l.numbers)
