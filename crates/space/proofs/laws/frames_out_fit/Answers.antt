use Rattle.space.proofs.SpaceLaws.{out_fits}
use Rattle.space.proofs.laws.frames_out_fit.Goals as goal

pub returns : goal.returns
returns c = out_fits
