use Rattle.std.proofs.Common.{◌≡◌, ◌-◌, ◌≤◌, vec_capacity}
use Rattle.std.specs.List.{range_with_len}
use Rattle.core_actors.proofs.host_blocks.put_range.Given as goal

abbrev pub invariant-loop-block : goal.invariant-loop-block
invariant-loop-block l = record {
  above : l.first ≤ l.block;
  items : l.blocks.items ≡ range_with_len l.first (l.block - l.first);
  capacity : vec_capacity l.blocks ≡ vec_capacity l.fn.blocks;
}
