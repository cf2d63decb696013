-- Each half of a node has a lower order than the node.
use Rattle.std.specs.Prelude.{ℕ, ◌≤◌, max}
use Rattle.std.proofs.Common.{arith}
use Rattle.buddy.specs.declared.tree.Halves.{Halves}
use Rattle.buddy.specs.declared.tree.Halves.TheVariants.{Frame, Two}
use Rattle.buddy.specs.declared.tree.Tree.TheDeep.{deep-Halves}
use Rattle.buddy.specs.TreeNode.{IsNode}

pub depth_le-order : (top order orders : ℕ) (halves : Halves) → IsNode top order orders halves → max (deep-Halves halves) 0 ≤ order
depth_le-order top order orders Frame h = omega arith
depth_le-order top order orders (Two low high) h = omega (arith, h.in_halves.0.order_below, h.in_halves.1.order_below)
