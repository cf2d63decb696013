use Rattle.std.proofs.Common.{◌-◌, ◌+◌, ◌∙◌, sym, arith}
use Rattle.replay.specs.Schedule.{actors, rounds}
use Rattle.replay.proofs.Schedules.{after_some, rounds_first, ended_turns}
use Rattle.replay.proofs.schedule.rounds.Goals as goal

pub returns-then-have_all_ended : goal.returns-then-have_all_ended
returns-then-have_all_ended c =
    sym (ended_turns c.loop-round.run (rounds (actors c.args.owners) (c.args.count - c.loop-round._round)) (c.have_all_ended.ensures c.if-have_all_ended.true))
    ∙ c.loop-round.invariant

pub loop-round-preserved : goal.loop-round-preserved
loop-round-preserved c =
    let all = actors c.args.owners in
    after_some c.loop-round.run c.round.new.run all (rounds all (c.args.count - (c.loop-round._round + 1))) (rounds all (c.args.count - c.loop-round._round)) c.in_ok-round.ensures (rounds_first all c.args.count c.loop-round._round (omega arith))
    ∙ c.loop-round.invariant
