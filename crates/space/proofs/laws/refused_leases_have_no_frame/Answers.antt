use Rattle.space.proofs.Leases.{refused_none}
use Rattle.space.proofs.laws.refused_leases_have_no_frame.Goals as goal

pub returns : goal.returns
returns c = refused_none
