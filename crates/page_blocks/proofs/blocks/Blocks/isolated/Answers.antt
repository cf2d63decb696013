use Rattle.std.proofs.Common.{◌∙◌, false, sym, arith}
use Rattle.std.proofs.lemmas.Bool.{le-ltb}
use Rattle.std.proofs.lemmas.List.{get_or_default}
use Rattle.page_blocks.proofs.BlockMarks.{is_in-isolated, is_in-isolated_past}
use Rattle.page_blocks.proofs.blocks.Blocks.isolated.Goals as goal

pub returns-then-b-managed : goal.returns-then-b-managed
returns-then-b-managed c =
    c.index.ensures
    ∙ get_or_default c.self.inside.marks.items c.args.b.0 c.index.result.now false (omega (arith, c.self.invariant.each_block))
    ∙ sym (is_in-isolated c.self.inside.geometry c.self.inside.marks.items c.self.inside.out.items c.args.self.now c.self.view_is c.args.b.0 (omega arith))

pub returns-else-b-managed : goal.returns-else-b-managed
returns-else-b-managed c =
    le-ltb c.args.b.0 c.managed.result (omega arith)
    ∙ sym (is_in-isolated_past c.self.inside.geometry c.self.inside.marks.items c.self.inside.out.items c.args.self.now c.self.view_is c.args.b.0 (omega arith))
