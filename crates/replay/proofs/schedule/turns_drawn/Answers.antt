use Rattle.std.proofs.Common.{◌≡◌, ◌-◌, ◌+◌, ◌∙◌, ℕ, ap, arith, [], ◌∷◌}
use Rattle.rand_pcg.specs.Lcg.{Lcg}
use Rattle.rand_pcg.specs.Pcg.{pcg32}
use Rattle.evac_model.specs.declared.scenario.Actor.{Actor}
use Rattle.replay.specs.Running.{run_after}
use Rattle.replay.specs.Schedule.{actors, actor_for, turns_from}
use Rattle.replay.proofs.Schedules.{after_first, drawn_first, actor_is}
use Rattle.replay.proofs.schedule.turns_drawn.Goals as goal

pub loop-turn-preserved : goal.loop-turn-preserved
loop-turn-preserved c =
    let all = actors c.args.owners in
    let word : c.next_word-word.result ≡ (pcg32 c.loop-turn.generator).0 = ap (λ (p : ℕ × Lcg). p.0) c.next_word-word.ensures in
    let generator : c.next_word-word.new.self ≡ (pcg32 c.loop-turn.generator).1 = ap (λ (p : ℕ × Lcg). p.1) c.next_word-word.ensures in
    let actor : c.actor_at.result ≡ actor_for all (pcg32 c.loop-turn.generator).0 = c.actor_at.ensures ∙ actor_is c.args.owners c.next_word-word.result ∙ ap (λ (w : ℕ). actor_for all w) word in
    ap (λ (g : Lcg). run_after c.turn.new.self (turns_from all g (c.args.count - (c.loop-turn._turn + 1)))) generator
    ∙ after_first c.loop-turn.run c.turn.new.self (actor_for all (pcg32 c.loop-turn.generator).0) (turns_from all (pcg32 c.loop-turn.generator).1 (c.args.count - (c.loop-turn._turn + 1))) (turns_from all c.loop-turn.generator (c.args.count - c.loop-turn._turn))
    (c.in_ok-turn.ensures.turned ∙ ap (λ (x : Actor). run_after c.loop-turn.run (x ∷ [])) actor)
    (drawn_first all c.loop-turn.generator c.args.count c.loop-turn._turn (omega arith))
    ∙ c.loop-turn.invariant
