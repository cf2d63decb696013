use Rattle.page_blocks.proofs.BlockMarks.{isolated_rising}
use Rattle.page_blocks.proofs.blocks.Blocks.geometry.Goals as goal

pub returns-clause-rising : goal.returns-clause-rising
returns-clause-rising c = isolated_rising c.self.inside.geometry c.self.inside.marks.items c.self.inside.out.items c.args.self.now c.self.view_is
