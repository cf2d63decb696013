use Rattle.std.proofs.Common.{◌≡◌, ◌<◌, false, length, subst, arith}
use Rattle.core_actors.specs.Owners.{OwnerState, are_none}
use Rattle.core_actors.proofs.Kept.{some_before_end}
use Rattle.core_actors.proofs.owner.Owner.action.Goals as goal

pub call_action-requires-clause-going : goal.call_action-requires-clause-going
call_action-requires-clause-going c =
    let lt : c.self.inside.at < length c.self.inside.calls = let place = c.self.invariant.place in omega arith in
    subst (λ (x : OwnerState). are_none x.left ≡ false) c.self.view_is (some_before_end c.self.inside.calls c.self.inside.at lt)
