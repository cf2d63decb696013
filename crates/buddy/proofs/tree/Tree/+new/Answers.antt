use Rattle.std.proofs.Common.{◌∙◌}
use Rattle.buddy.proofs.Changes.{empty_node}
use Rattle.buddy.proofs.tree.Tree.+new.Goals as goal

pub invariant_of-result-2 : goal.invariant_of-result-2
invariant_of-result-2 t c =
    empty_node c.args.top c.args.order c.in_ok-low.low c.in_ok-high.high c.requires c.if-order-eq0.false (c.in_ok-low.ensures.ok ∙ c.in_ok-new.ensures) (c.in_ok-high.ensures.ok ∙ c.in_ok-new-2.ensures)
