use Rattle.buddy.proofs.tree.Tree.+set_run.Given as goal

abbrev pub decreases-set_run : goal.decreases-set_run
decreases-set_run l = l.self.now.order
