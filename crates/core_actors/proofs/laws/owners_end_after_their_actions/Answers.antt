use Rattle.core_actors.proofs.Asks.{ended_told}
use Rattle.core_actors.proofs.Left.{few_at_start, actions_fewer, none_left, again}
use Rattle.core_actors.proofs.laws.owners_end_after_their_actions.Goals as goal

pub returns-clause-most : goal.returns-clause-most
returns-clause-most c = few_at_start

pub returns-clause-fewer : goal.returns-clause-fewer
returns-clause-fewer c s a heard same calls way going free = actions_fewer a heard way going free

pub returns-clause-again : goal.returns-clause-again
returns-clause-again c = again

pub returns-clause-ended : goal.returns-clause-ended
returns-clause-ended c s a same calls way = none_left a way

pub returns-clause-told : goal.returns-clause-told
returns-clause-told c = ended_told
