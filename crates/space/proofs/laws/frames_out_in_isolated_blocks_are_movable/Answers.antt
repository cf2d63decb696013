use Rattle.space.proofs.SpaceLaws.{isolated_movable}
use Rattle.space.proofs.laws.frames_out_in_isolated_blocks_are_movable.Goals as goal

pub returns : goal.returns
returns c = isolated_movable
