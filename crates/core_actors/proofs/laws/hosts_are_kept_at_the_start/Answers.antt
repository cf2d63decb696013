use Rattle.core_actors.proofs.HostStarts.{host_kept_at_start}
use Rattle.core_actors.proofs.laws.hosts_are_kept_at_the_start.Goals as goal

pub returns : goal.returns
returns c = host_kept_at_start
