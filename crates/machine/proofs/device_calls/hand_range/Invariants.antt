use Rattle.std.proofs.Common.{◌+◌, ◌-◌}
use Rattle.std.specs.List.{range_with_len}
use Rattle.machine.proofs.HandedBlocks.{IsHanding}
use Rattle.machine.proofs.device_calls.hand_range.Given as goal

abbrev pub invariant-loop-block : goal.invariant-loop-block
invariant-loop-block l =
    IsHanding l.g l.from l.to l.initial.core l.core (range_with_len l.fn.first.0 l.fn.count) (range_with_len l.block (l.fn.first.0 + l.fn.count - l.block))
