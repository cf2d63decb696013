use Rattle.buddy.proofs.tree.Tree.+new.Given as goal

abbrev pub decreases-new : goal.decreases-new
decreases-new l = l.order
