use Rattle.std.proofs.Common.{◌-◌, ◌+◌, ◌∙◌, replicate, arith}
use Rattle.replay.proofs.Schedules.{after_first, replicate_first}
use Rattle.replay.proofs.schedule.turns_of.Goals as goal

pub loop-turn-preserved : goal.loop-turn-preserved
loop-turn-preserved c =
    let turn = c.args.turn.now in
    after_first c.loop-turn.run c.turn.new.self turn.actor (replicate (turn.count - (c.loop-turn._turn + 1)) turn.actor) (replicate (turn.count - c.loop-turn._turn) turn.actor) c.in_ok-turn.ensures.turned (replicate_first turn.actor turn.count c.loop-turn._turn (omega arith))
    ∙ c.loop-turn.invariant
