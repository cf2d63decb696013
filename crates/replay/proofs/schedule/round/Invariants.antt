use Rattle.std.proofs.Common.{◌≡◌, ◌+◌, ◌-◌}
use Rattle.replay.specs.Running.{run_after}
use Rattle.replay.specs.Schedule.{actors}
use Rattle.replay.proofs.Schedules.{actors_from}
use Rattle.replay.proofs.schedule.round.Given as goal

abbrev pub invariant-loop-owner : goal.invariant-loop-owner
invariant-loop-owner l = run_after l.run (actors_from (l.owner + 1) (l.owners - l.owner)) ≡ run_after l.fn.run (actors l.owners)
