use Rattle.core_actors.proofs.UnderWay.{stays_under_way}
use Rattle.core_actors.proofs.laws.owners_stay_under_way.Goals as goal

pub returns-clause-action : goal.returns-clause-action
returns-clause-action c = stays_under_way
