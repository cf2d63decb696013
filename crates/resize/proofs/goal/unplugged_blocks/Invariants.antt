use Rattle.std.proofs.Common.{◌≡◌, not}
use Rattle.evac_model.specs.Numbers.{is_in, numbers_where}
use Rattle.resize.proofs.goal.unplugged_blocks.Given as goal

abbrev pub invariant-loop-b : goal.invariant-loop-b
invariant-loop-b l = l.blocks.items ≡ numbers_where (λ b. not (is_in b l.map.plugged)) l.b
