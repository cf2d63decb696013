use Rattle.replay.proofs.MachineKept.{starts_are_kept}
use Rattle.replay.proofs.laws.starts_are_kept.Goals as goal

pub returns : goal.returns
returns c = starts_are_kept
