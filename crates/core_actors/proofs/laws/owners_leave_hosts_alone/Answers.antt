use Rattle.core_actors.proofs.HostElsewhere.{host_stays}
use Rattle.core_actors.proofs.laws.owners_leave_hosts_alone.Goals as goal

pub returns : goal.returns
returns c = λ s w runs h seat action set kept owner may k. host_stays s w runs h seat action set kept owner may k
