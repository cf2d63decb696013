use Rattle.replay.proofs.MachineKept.{starts_are_kept, turns_are_kept}
use Rattle.replay.proofs.Ends.{runs_end_if_kept}
use Rattle.replay.proofs.laws.runs_end_within_their_bound.Goals as goal

pub returns : goal.returns
returns c = runs_end_if_kept starts_are_kept turns_are_kept
