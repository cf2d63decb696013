use Rattle.std.proofs.Common.{◌-◌, ◌∙◌, sym, arith}
use Rattle.buddy.proofs.Nodes.{join_whole, join_split, shift_one}
use Rattle.buddy.proofs.tree.joined.Goals as goal
use Rattle.buddy.proofs.tree.joined.Goals.{else-order-top-via-then-order-top+then-low-half+else-high-half, else-order-top-via-then-order-top+else-low-half, else-order-top-via-else-order-top}

pub returns-then-high-half : goal.returns-then-high-half
returns-then-high-half c =
    let half = shift_one (c.args.order - 1) (omega arith) in
    shift_one c.args.order c.requires.small
    ∙ join_whole c.args.top c.args.order c.args.low.now c.args.high.now c.orders-low.result c.orders-high.result c.requires.low c.requires.high c.if-order-top.true c.orders-low.ensures c.orders-high.ensures (c.if-low-half.true ∙ half) (c.if-high-half.true ∙ half)

pub returns-else-order-top : goal.returns-else-order-top
returns-else-order-top c =
    let half = shift_one (c.args.order - 1) (omega arith) in
    join_split c.args.top c.args.order c.args.low.now c.args.high.now c.orders-low.result c.orders-high.result c.requires.low c.requires.high c.orders-low.ensures c.orders-high.ensures
    (λ within a b. elim c.else-order-top.branch [
      | else-order-top-via-then-order-top+then-low-half+else-high-half w ↦ w.if-high-half.false (b ∙ sym half)
      | else-order-top-via-then-order-top+else-low-half w ↦ w.if-low-half.false (a ∙ sym half)
      | else-order-top-via-else-order-top w ↦ omega (arith, w.if-order-top.false, within)
    ])
