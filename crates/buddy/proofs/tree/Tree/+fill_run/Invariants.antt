use Rattle.buddy.proofs.tree.Tree.+fill_run.Given as goal

abbrev pub decreases-fill_run : goal.decreases-fill_run
decreases-fill_run l = l.self.now.order
