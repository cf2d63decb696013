use Rattle.std.proofs.Common.{◌∙◌, sym, arith}
use Rattle.buddy.proofs.Powers.{pow_le}
use Rattle.buddy.proofs.Lowest.{lowest_run-place}
use Rattle.buddy.proofs.runs.lowest.Goals as goal

pub overflow_add-result : goal.overflow_add-result
overflow_add-result c =
    let place = lowest_run-place c.args.managed.now.top c.args.managed.now.order c.args.managed.now.free c.args.wanted c.in_ok-place.place (sym c.lowest-2.ensures ∙ c.in_ok-place.was) in
    omega (arith, place.within, pow_le c.args.managed.now.order 16 c.requires.small, c.requires.few)
