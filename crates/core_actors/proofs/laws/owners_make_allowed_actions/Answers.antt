use Rattle.core_actors.proofs.Allowed.{next_step_allowed, next_move_allowed, lease_allowed, return_allowed}
use Rattle.core_actors.proofs.MayMake.{owner_may_make}
use Rattle.core_actors.proofs.laws.owners_make_allowed_actions.Goals as goal

pub returns-clause-steps : goal.returns-clause-steps
returns-clause-steps c = next_step_allowed

pub returns-clause-moves : goal.returns-clause-moves
returns-clause-moves c s o words views seat v script a m has pages h going is = next_move_allowed s o v script a m h going is

pub returns-clause-leases : goal.returns-clause-leases
returns-clause-leases c s o v script a page kind h going is = lease_allowed s o v script a h page kind is

pub returns-clause-returns : goal.returns-clause-returns
returns-clause-returns c s o v script a frame h going is = return_allowed s o v script a h frame is

pub returns-clause-made : goal.returns-clause-made
returns-clause-made c = owner_may_make
