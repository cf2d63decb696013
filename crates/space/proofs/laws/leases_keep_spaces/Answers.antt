use Rattle.space.proofs.Leases.{lease_good}
use Rattle.space.proofs.laws.leases_keep_spaces.Goals as goal

pub returns : goal.returns
returns c = λ s online st who page kind l w h e. (lease_good s online st who kind l w h e).kept page
