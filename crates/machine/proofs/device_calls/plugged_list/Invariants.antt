use Rattle.std.proofs.Common.{◌≡◌}
use Rattle.evac_model.specs.Numbers.{is_in, numbers_where}
use Rattle.machine.proofs.device_calls.plugged_list.Given as goal

-- the plugged ones of the blocks so far
abbrev pub invariant-loop-block : goal.invariant-loop-block
invariant-loop-block l = l.blocks.items ≡ numbers_where (λ b. is_in b l.map.plugged) l.block
