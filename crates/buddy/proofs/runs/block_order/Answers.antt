use Rattle.std.proofs.Common.{◌≡◌, ℕ, ◌^◌, ◌∙◌, sym, ap, arith}
use Rattle.buddy.proofs.Places.{pow_between}
use Rattle.buddy.proofs.runs.block_order.Goals as goal
use Rattle.buddy.proofs.runs.block_order.Goals.{After-ilog2}

order : (c : After-ilog2) → c.ilog2.result ≡ c.block.ensures.within.block.0
order c =
    pow_between c.ilog2.result c.block.ensures.within.block.0 c.block.result (c.block.ensures.size ∙ c.block.ensures.within.block.2) c.ilog2.ensures.power_le c.ilog2.ensures.next_power_gt

pub returns-clause-block : goal.returns-clause-block
returns-clause-block c = c.block.ensures.within.block.2 ∙ sym (ap (λ (k : ℕ). 2 ^ k) (order c))

pub returns-clause-small : goal.returns-clause-small
returns-clause-small c = omega (arith, order c, c.block.ensures.within.block.1)
