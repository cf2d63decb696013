use Rattle.core_actors.proofs.HostMay.{host_may_make}
use Rattle.core_actors.proofs.laws.hosts_make_allowed_actions.Goals as goal

pub returns : goal.returns
returns c = host_may_make
