use Rattle.std.proofs.Common.{[], get_or, refl, ◌∙◌}
use Rattle.std.specs.Prelude.{Some}
use Rattle.evac_model.specs.declared.names.Kind.TheVariants.{Movable}
use Rattle.evac_model.specs.SpaceJournal.{from_cache, from_runs}
use Rattle.space.proofs.Choices.{no_lease, first_found, next_tried, same_space, drained_tried, cache_leased, cache_empty, none_cached}
use Rattle.space.proofs.choose.choose_movable.Goals as goal

pub returns-in-Some : goal.returns-in-Some
returns-in-Some c = λ st h.
    first_found _ _ st _ _ _ c.in-Some.frame (Some c.in-Some.frame) _ _
    (cache_leased c.args.runs.now c.args.caches.now c.take.new.self st c.args.who (Some c.in-Some.frame) c.in-Some.frame h c.in-Some.ensures.frame c.take.ensures.caches refl) refl

pub returns-in-Some-take_largest_run : goal.returns-in-Some-take_largest_run
returns-in-Some-take_largest_run c = λ st h.
    let r = c.args.runs.now in
    let cs = c.args.caches.now in
    let empty = c.take.ensures.none.0 c.in_default.is in
    let same = cache_empty cs c.take.new.self c.args.who empty c.take.ensures.caches in
    next_tried r.sizes r.online st Movable (from_cache st.caches c.args.who (get_or st.caches c.args.who [])) _ _ _ _ (none_cached r cs st c.args.who h empty)
    (first_found _ _ st _ (from_runs r.sizes r.online st c.args.who) _ c.in-Some-take_largest_run.frame (Some c.in-Some-take_largest_run.frame) _ _
    (c.in-Some-take_largest_run.ensures.leased st (same_space st r r cs c.take.new.self refl same h)) refl)

pub returns : goal.returns
returns c = λ st h.
    let r = c.args.runs.now in
    let cs = c.args.caches.now in
    let empty = c.take.ensures.none.0 c.in_default.is in
    let same = cache_empty cs c.take.new.self c.args.who empty c.take.ensures.caches in
    let none = c.take_largest_run.ensures.none c.in_default-take_largest_run.is in
    next_tried r.sizes r.online st Movable (from_cache st.caches c.args.who (get_or st.caches c.args.who [])) _ _ _ _ (none_cached r cs st c.args.who h empty)
    (next_tried r.sizes r.online st Movable (from_runs r.sizes r.online st c.args.who) _ _ _ _
    (no_lease _ c.take_largest_run.result (c.take_largest_run.ensures.leased st (same_space st r r cs c.take.new.self refl same h)).leased c.in_default-take_largest_run.is)
    (drained_tried (λ s online x. from_runs s online x c.args.who) Movable r c.take_largest_run.new.runs c.drain_all.new.runs c.take_largest_run-2.new.runs cs c.take_largest_run.new.caches c.drain_all.new.self c.take_largest_run-2.new.caches c.take_largest_run-2.result none.0 (none.1 ∙ same) c.drain_all.ensures.caches c.drain_all.ensures.runs c.take_largest_run-2.ensures.leased
    (λ e first fit. c.take_largest_run-2.ensures.nothing e first) st h))
