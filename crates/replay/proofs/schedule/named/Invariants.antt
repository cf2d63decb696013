use Rattle.std.proofs.Common.{◌≡◌, drop}
use Rattle.replay.specs.Running.{run_after}
use Rattle.replay.specs.Schedule.{named_turns}
use Rattle.replay.proofs.schedule.named.Given as goal

abbrev pub invariant-loop-turn : goal.invariant-loop-turn
invariant-loop-turn l = run_after l.run (named_turns (drop l.turn-index l.turns)) ≡ run_after l.fn.run (named_turns l.turns)
