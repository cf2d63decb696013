use Rattle.std.proofs.Common.{◌∙◌, ◌≤◌, ℕ, ap, sym, subst, arith}
use Rattle.buddy.specs.Parts.{Part}
use Rattle.buddy.specs.TreeNode.{IsNode}
use Rattle.buddy.proofs.Nodes.{node_none, node_all, shift_one}
use Rattle.buddy.proofs.tree.Tree.set_all.Goals as goal
use Rattle.buddy.proofs.tree.Tree.set_all.Goals.{then-free, else-free}

pub invariant_of-self : goal.invariant_of-self
invariant_of-self c =
    elim c.if-free.branch [
      | then-free w ↦
          let within : c.self.inside.order ≤ c.self.inside.top = omega (arith, ap (λ (p : Part). p.order) c.self.view_is, ap (λ (p : Part). p.top) c.self.view_is, c.requires w.if-free.true) in
          subst (λ (n : ℕ). IsNode c.self.inside.top c.self.inside.order n c.self.inside.halves) (sym (w.self-is ∙ shift_one c.self.inside.order c.self.invariant.small))
          (node_all c.self.inside.top c.self.inside.order c.self.inside.orders c.self.inside.halves within c.self.invariant)
      | else-free w ↦
          subst (λ (n : ℕ). IsNode c.self.inside.top c.self.inside.order n c.self.inside.halves) (sym w.self-is)
          (node_none c.self.inside.top c.self.inside.order c.self.inside.orders c.self.inside.halves c.self.invariant)
    ]
