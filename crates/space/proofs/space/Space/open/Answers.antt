use Rattle.std.proofs.Common.{◌≡◌, ◌+◌, ◌-◌, subst, arith, vec_len, vec_capacity}
use Rattle.space.specs.SpaceInside.{IsOwed}
use Rattle.space.proofs.JournalsKept.{left_at_start}
use Rattle.space.proofs.Opens.{owed_at_start}
use Rattle.space.proofs.space.Space.open.Goals as goal

pub invariant_of-result : goal.invariant_of-result
invariant_of-result c =
    let s = c.args.g in
    let k = c.in_ok-kept.kept in
    let owed = c.count_out.result + (c.managed.result - c.plugged.result) in
    let same : c.count_out.result + (s.managed - s.plugged) ≡ owed = omega (arith, c.managed.ensures.size, c.plugged.ensures.size) in
    left_at_start k s c.args.online c.args.start.now c.in_ok-start.start.items c.in_ok-journal.journal.items (vec_len c.in_ok-journal.journal) owed (vec_capacity c.in_ok-journal.journal)
    c.managed.ensures.within c.requires c.in_ok-kept.ensures (c.in_ok-start.ensures.items_if_clones_equal (λ x y e. e)) c.in_ok-journal.ensures.items c.in_ok-journal.ensures.len
    (subst (IsOwed k.state) same (owed_at_start s c.args.online c.args.start.now k c.count_out.result c.in_ok-kept.ensures c.count_out.ensures))
    (omega (arith, c.in_ok-journal.ensures.capacity))
