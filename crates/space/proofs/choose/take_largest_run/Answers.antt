use Rattle.std.proofs.Common.{refl, ◌∙◌}
use Rattle.std.specs.Prelude.{Some}
use Rattle.space.proofs.Choices.{lease_from_run, run_tried, run_missed, first_found, next_tried}
use Rattle.space.proofs.choose.take_largest_run.Goals as goal

pub returns-in-Some-clause-leased : goal.returns-in-Some-clause-leased
returns-in-Some-clause-leased c = λ st h.
    first_found _ _ st _ _ _ c.in-Some.frame (Some c.in-Some.frame) _ _ (c.in-Some.ensures.leased st h) refl

pub returns-in-Some-take_run-clause-leased : goal.returns-in-Some-take_run-clause-leased
returns-in-Some-take_run-clause-leased c = λ st h.
    let r = c.args.runs.now in
    let first = c.take_run.ensures.none c.in_default.is in
    next_tried r.sizes r.online st _ (lease_from_run r st c.args.who 2) _ _ _ _
    (run_missed r r _ c.args.caches.now c.args.caches.now _ c.args.who 2 c.take_run.result refl refl c.take_run.ensures.leased c.in_default.is st h)
    (first_found _ _ st _ (lease_from_run r st c.args.who 1) _ c.in-Some-take_run.frame (Some c.in-Some-take_run.frame) _ _
    (run_tried r c.take_run.new.runs _ c.args.caches.now c.take_run.new.caches _ c.args.who 1 (Some c.in-Some-take_run.frame) first.0 first.1 c.in-Some-take_run.ensures.leased st h) refl)

pub returns-clause-leased : goal.returns-clause-leased
returns-clause-leased c = λ st h.
    let r = c.args.runs.now in
    let first = c.take_run.ensures.none c.in_default.is in
    let second = c.take_run-2.ensures.none c.in_default-take_run.is in
    next_tried r.sizes r.online st _ (lease_from_run r st c.args.who 2) _ _ _ _
    (run_missed r r _ c.args.caches.now c.args.caches.now _ c.args.who 2 c.take_run.result refl refl c.take_run.ensures.leased c.in_default.is st h)
    (next_tried r.sizes r.online st _ (lease_from_run r st c.args.who 1) _ _ _ _
    (run_missed r c.take_run.new.runs _ c.args.caches.now c.take_run.new.caches _ c.args.who 1 c.take_run-2.result first.0 first.1 c.take_run-2.ensures.leased c.in_default-take_run.is st h)
    (run_tried r c.take_run-2.new.runs _ c.args.caches.now c.take_run-2.new.caches _ c.args.who 0 c.take_run-3.result (second.0 ∙ first.0) (second.1 ∙ first.1) c.take_run-3.ensures.leased st h))
