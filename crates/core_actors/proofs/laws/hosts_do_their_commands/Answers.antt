use Rattle.core_actors.proofs.HostKept.{hosts_go_on}
use Rattle.core_actors.proofs.laws.hosts_do_their_commands.Goals as goal

pub returns : goal.returns
returns c = hosts_go_on
