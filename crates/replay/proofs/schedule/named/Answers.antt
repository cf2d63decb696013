use Rattle.std.proofs.Common.{◌+◌, ◌∙◌, drop, arith}
use Rattle.replay.specs.Schedule.{named_turns}
use Rattle.replay.proofs.Schedules.{after_some, named_first}
use Rattle.replay.proofs.schedule.named.Goals as goal

pub loop-turn-preserved : goal.loop-turn-preserved
loop-turn-preserved c =
    after_some c.loop-turn.run c.turns_of.new.run _ (named_turns (drop (c.loop-turn.turn-index + 1) c.args.turns.now)) (named_turns (drop c.loop-turn.turn-index c.args.turns.now)) c.in_ok-turns_of.ensures (named_first c.args.turns.now c.loop-turn.turn-index _ (omega arith))
    ∙ c.loop-turn.invariant
