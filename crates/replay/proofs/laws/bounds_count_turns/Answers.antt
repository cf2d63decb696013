use Rattle.replay.proofs.Lengths.{bounds_count_turns}
use Rattle.replay.proofs.laws.bounds_count_turns.Goals as goal

pub returns : goal.returns
returns c = bounds_count_turns
