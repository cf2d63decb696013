use Rattle.core_actors.proofs.HostEnds.{ended_did, ended_hands}
use Rattle.core_actors.proofs.laws.ended_hosts_did_their_commands.Goals as goal

pub returns-clause-did : goal.returns-clause-did
returns-clause-did c = ended_did

pub returns-clause-hands : goal.returns-clause-hands
returns-clause-hands c = λ s w runs h frame k ended. ended_hands s w runs h k ended frame
