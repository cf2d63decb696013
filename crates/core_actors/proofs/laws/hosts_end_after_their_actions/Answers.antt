use Rattle.core_actors.proofs.HostCounts.{host_fewer, host_most, none_left, command_cost}
use Rattle.core_actors.proofs.HostMay.{host_may_make}
use Rattle.core_actors.proofs.laws.hosts_end_after_their_actions.Goals as goal

pub returns-clause-most : goal.returns-clause-most
returns-clause-most c = host_most

pub returns-clause-command : goal.returns-clause-command
returns-clause-command c = command_cost

pub returns-clause-fewer : goal.returns-clause-fewer
returns-clause-fewer c = λ s w runs h set kept k going. host_fewer s w runs h set kept k going (host_may_make s w runs h set kept k going)

pub returns-clause-ended : goal.returns-clause-ended
returns-clause-ended c = λ s w runs h k. none_left s w h k.tale k.space
