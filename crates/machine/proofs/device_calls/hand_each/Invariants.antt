use Rattle.std.proofs.Common.{drop}
use Rattle.machine.proofs.HandedBlocks.{IsHanding}
use Rattle.machine.proofs.device_calls.hand_each.Given as goal

abbrev pub invariant-loop-block : goal.invariant-loop-block
invariant-loop-block l = IsHanding l.g l.from l.to l.initial.core l.core l.blocks (drop l.block-index l.blocks)
