use Rattle.std.proofs.Common.{◌≡◌, ◌-◌}
use Rattle.replay.specs.Running.{run_after}
use Rattle.replay.specs.Schedule.{actors, rounds}
use Rattle.replay.proofs.schedule.rounds.Given as goal

abbrev pub invariant-loop-round : goal.invariant-loop-round
invariant-loop-round l = run_after l.run (rounds (actors l.owners) (l.count - l._round)) ≡ run_after l.fn.run (rounds (actors l.owners) l.count)
