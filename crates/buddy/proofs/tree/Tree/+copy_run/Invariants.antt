use Rattle.buddy.proofs.tree.Tree.+copy_run.Given as goal

abbrev pub decreases-copy_run : goal.decreases-copy_run
decreases-copy_run l = l.self.now.order
