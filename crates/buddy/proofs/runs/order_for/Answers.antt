use Rattle.std.proofs.Common.{◌≡◌, ℕ, ◌^◌, ap, arith}
use Rattle.buddy.proofs.Places.{pow_between, power_small}
use Rattle.buddy.proofs.runs.order_for.Goals as goal
use Rattle.buddy.proofs.runs.order_for.Goals.{After-ilog2}

order : (c : After-ilog2) → c.ilog2.result ≡ c.next_power_of_two.ensures.power.0
order c =
    pow_between c.ilog2.result c.next_power_of_two.ensures.power.0 c.next_power_of_two.result c.next_power_of_two.ensures.power.1 c.ilog2.ensures.power_le c.ilog2.ensures.next_power_gt

pub returns-clause-small : goal.returns-clause-small
returns-clause-small c = power_small c.next_power_of_two.result c.ilog2.result (omega (arith, c.next_power_of_two.ensures.upper_bound)) c.ilog2.ensures.power_le

pub returns-clause-room : goal.returns-clause-room
returns-clause-room c = omega (arith, c.next_power_of_two.ensures.power.1, ap (λ (k : ℕ). 2 ^ k) (order c), c.next_power_of_two.ensures.lower_bound)
