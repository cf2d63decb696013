use Rattle.page_blocks.proofs.BlockMarks.{marked_none}
use Rattle.page_blocks.proofs.blocks.Blocks.new.Goals as goal

pub returns-clause-isolated : goal.returns-clause-isolated
returns-clause-isolated c = marked_none c.in_ok-marks.marks.items c.managed.result c.args.g.managed (c.in_ok-marks.ensures.items_if_clones_equal (λ y e. e))
