use Rattle.replay.proofs.MachineKept.{turns_are_kept}
use Rattle.replay.proofs.laws.turns_are_kept.Goals as goal

pub returns : goal.returns
returns c = turns_are_kept
