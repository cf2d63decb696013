use Rattle.space.proofs.SpaceLaws.{out_not_offline}
use Rattle.space.proofs.laws.no_frame_out_is_offline.Goals as goal

pub returns : goal.returns
returns c = out_not_offline
