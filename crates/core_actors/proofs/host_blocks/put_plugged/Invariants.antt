use Rattle.std.proofs.Common.{◌≡◌, vec_capacity}
use Rattle.evac_model.specs.Numbers.{is_in, numbers_where}
use Rattle.core_actors.proofs.host_blocks.put_plugged.Given as goal

abbrev pub invariant-loop-block : goal.invariant-loop-block
invariant-loop-block l = record {
  items : l.blocks.items ≡ numbers_where (λ b. is_in b l.fn.map.plugged) l.block;
  capacity : vec_capacity l.blocks ≡ vec_capacity l.fn.blocks;
}
