use Rattle.std.proofs.Common.{◌≡◌, ◌++◌, drop}
use Rattle.std.specs.List.{flat_map}
use Rattle.migrate_image.specs.Images.{block_bytes}
use Rattle.migrate_image.proofs.blocks.put_blocks.Given as goal

abbrev pub invariant-loop-b : goal.invariant-loop-b
invariant-loop-b l = l.out.items ++ flat_map block_bytes (drop l.b-index l.blocks) ≡ l.fn.out.items ++ flat_map block_bytes l.blocks
