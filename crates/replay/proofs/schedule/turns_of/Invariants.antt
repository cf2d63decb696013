use Rattle.std.proofs.Common.{◌≡◌, ◌-◌}
use Rattle.std.specs.Prelude.{replicate}
use Rattle.replay.specs.Running.{run_after}
use Rattle.replay.proofs.schedule.turns_of.Given as goal

abbrev pub invariant-loop-turn : goal.invariant-loop-turn
invariant-loop-turn l = run_after l.run (replicate (l.turn.count - l._turn) l.turn.actor) ≡ run_after l.fn.run (replicate l.turn.count l.turn.actor)
