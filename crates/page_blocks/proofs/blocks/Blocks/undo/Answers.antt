use Rattle.std.proofs.Common.{ap, arith}
use Rattle.page_blocks.specs.Marks.{Marks}
use Rattle.page_blocks.proofs.BlockMarks.{isolated_without}
use Rattle.page_blocks.proofs.blocks.Blocks.undo.Goals as goal

pub returns : goal.returns
returns c = isolated_without c.self.inside.geometry c.self.inside.marks.items c.self.inside.out.items c.args.self.now c.self.view_is c.args.b.0 (omega (arith, c.self.invariant.each_block, ap (λ (v : Marks). v.sizes.managed) c.self.view_is))
