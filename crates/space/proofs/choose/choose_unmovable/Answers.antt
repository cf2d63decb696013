use Rattle.std.proofs.Common.{◌≡◌, refl, sym, subst}
use Rattle.std.specs.Prelude.{Some}
use Rattle.evac_model.specs.declared.names.Kind.TheVariants.{Unmovable}
use Rattle.evac_model.specs.SpaceJournal.{kernel_run}
use Rattle.frame_cache.specs.Drains.{IsDrainable}
use Rattle.space.proofs.Choices.{no_frame, no_lease, first_found, next_tried, drained_tried, kernel_leased, missed, limits_kept}
use Rattle.space.proofs.choose.choose_unmovable.Goals as goal

pub returns-in-Some : goal.returns-in-Some
returns-in-Some c = λ st who h.
    first_found _ _ st _ _ _ c.in-Some.frame (Some c.in-Some.frame) _ _
    (kernel_leased c.args.runs.now c.take.new.self c.args.caches.now c.args.caches.now st (Some c.in-Some.frame) c.requires.limits h c.in-Some.ensures.found c.take.ensures.taken refl) refl

pub drain_all-requires : goal.drain_all-requires
drain_all-requires c =
    subst (IsDrainable c.args.caches.now) (sym (missed c.args.runs.now c.take.new.self 0 _ c.take.ensures.taken (no_frame _ c.take.result c.take.ensures.found c.in_default.is))) c.requires.drainable

pub returns : goal.returns
returns c = λ st who h.
    let r = c.args.runs.now in
    let cs = c.args.caches.now in
    let same : c.take.new.self ≡ r = missed r c.take.new.self 0 _ c.take.ensures.taken (no_frame _ c.take.result c.take.ensures.found c.in_default.is) in
    next_tried r.sizes r.online st Unmovable (kernel_run r.sizes r.online st) _ _ _ _
    (no_lease _ c.take.result (kernel_leased r c.take.new.self cs cs st c.take.result c.requires.limits h c.take.ensures.found c.take.ensures.taken refl).leased c.in_default.is)
    (drained_tried kernel_run Unmovable r c.take.new.self c.drain_all.new.runs c.take-2.new.self cs cs c.drain_all.new.self c.drain_all.new.self c.take-2.result same refl c.drain_all.ensures.caches c.drain_all.ensures.runs
    (λ x at. kernel_leased c.drain_all.new.runs c.take-2.new.self c.drain_all.new.self c.drain_all.new.self x c.take-2.result (limits_kept r c.take.new.self c.drain_all.new.runs _ c.requires.limits same c.drain_all.ensures.runs) at c.take-2.ensures.found c.take-2.ensures.taken refl)
    c.take-2.ensures.none.0 st h)
