use Rattle.std.proofs.Common.{◌≡◌, ◌-◌}
use Rattle.replay.specs.Running.{run_after}
use Rattle.replay.specs.Schedule.{actors, turns_from}
use Rattle.replay.proofs.schedule.turns_drawn.Given as goal

abbrev pub invariant-loop-turn : goal.invariant-loop-turn
invariant-loop-turn l = run_after l.run (turns_from (actors l.owners) l.generator (l.count - l._turn)) ≡ run_after l.fn.run (turns_from (actors l.owners) l.fn.generator l.count)
