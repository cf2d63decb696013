use Rattle.std.proofs.Common.{◌≡◌}
use Rattle.evac_model.specs.Numbers.{is_in, numbers_where}
use Rattle.report.specs.ReportOf.{block_list}
use Rattle.replay.proofs.pages.plugged_blocks.Given as goal

-- the plugged blocks below the number so far
abbrev pub invariant-loop-b : goal.invariant-loop-b
invariant-loop-b l = l.blocks.items ≡ block_list (numbers_where (λ b. is_in b l.map.plugged) l.b)
