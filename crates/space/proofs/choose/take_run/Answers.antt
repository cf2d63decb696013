use Rattle.std.proofs.Common.{refl, arith}
use Rattle.evac_model.specs.declared.names.Kind.TheVariants.{Movable}
use Rattle.space.proofs.Choices.{IsChosenRun, chosen, some_frame, no_frame, run_leased, none_taken, shifted, few_frames}
use Rattle.space.proofs.choose.take_run.Goals as goal

pub returns-in_err-first-clause-leased : goal.returns-in_err-first-clause-leased
returns-in_err-first-clause-leased c = λ st h.
    none_taken c.args.runs.now _ c.args.caches.now _ st c.args.who c.args.order _ h (no_frame _ c.take.result c.take.ensures.found c.in_err-first.was) c.from_residual.ensures c.take.ensures.taken refl

pub cache_rest-requires-clause-machine : goal.cache_rest-requires-clause-machine
cache_rest-requires-clause-machine c =
    let run : IsChosenRun c.args.runs.now.sizes c.args.runs.now.online Movable c.args.runs.now.free c.args.order c.in_ok-first.first.0 = chosen _ _ _ _ _ _ c.requires.limits (some_frame _ c.in_ok-first.first c.take.result c.take.ensures.found c.in_ok-first.was) in
    omega (arith, run.below, c.requires.limits.frames)

pub cache_rest-requires-clause-few : goal.cache_rest-requires-clause-few
cache_rest-requires-clause-few c = omega (arith, shifted c.args.order c.requires.small, few_frames c.args.order c.requires.small)

pub returns-clause-leased : goal.returns-clause-leased
returns-clause-leased c = λ st h.
    run_leased c.args.runs.now _ c.args.caches.now _ st c.args.who c.args.order _ c.in_ok-first.first c.requires.limits h c.requires.caller c.requires.empty (some_frame _ c.in_ok-first.first c.take.result c.take.ensures.found c.in_ok-first.was) c.take.ensures.taken c.cache_rest.ensures (shifted c.args.order c.requires.small)
