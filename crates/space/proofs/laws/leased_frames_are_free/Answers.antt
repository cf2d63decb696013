use Rattle.space.proofs.Leases.{leased_free}
use Rattle.space.proofs.laws.leased_frames_are_free.Goals as goal

pub returns : goal.returns
returns c = leased_free
