use Rattle.std.proofs.Common.{◌-◌, ◌+◌, ◌∙◌, arith}
use Rattle.evac_model.specs.declared.scenario.Actor.TheVariants.{Owner}
use Rattle.replay.proofs.Schedules.{actors_from, after_first, actors_first}
use Rattle.replay.proofs.schedule.round.Goals as goal

pub loop-owner-preserved : goal.loop-owner-preserved
loop-owner-preserved c =
    let i = c.loop-owner.owner in
    let n = c.args.owners in
    after_first c.loop-owner.run c.turn.new.self (Owner (i + 1)) (actors_from (i + 1 + 1) (n - (i + 1))) (actors_from (i + 1) (n - i)) c.in_ok-turn.ensures.turned (actors_first n i (omega arith))
    ∙ c.loop-owner.invariant
