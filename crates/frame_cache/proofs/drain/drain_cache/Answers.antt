use Rattle.std.proofs.Common.{◌≡◌, ℕ, ◌≤◌, List, length, refl, get_or, ap, sym, ◌∙◌, subst, arith}
use Rattle.std.proofs.lemmas.List.{length-reverse}
use Rattle.evac_model.specs.Geometry.{IsWithinLimits}
use Rattle.buddy.specs.FreeFrames.{FreeFrames}
use Rattle.frame_cache.specs.Drains.{IsDrainableCache}
use Rattle.frame_cache.specs.Drained.{is_drained_of}
use Rattle.frame_cache.proofs.Givings.{given_none, given_all, given_more, given_same, givable_next, drainable-reverse, kept_with, kept_without}
use Rattle.frame_cache.proofs.drain.drain_cache.Goals as goal
use Rattle.frame_cache.proofs.drain.drain_cache.Goals.{then-is_drained, else-is_drained}

pub loop-number-init : goal.loop-number-init
loop-number-init c = record {
  kept = c.new-kept.ensures;
  given = given_none (is_drained_of c.args.runs.now.sizes c.args.runs.now.online c.args.drained.now) c.args.runs.now c.requires.rising;
}

pub give_frame-requires : goal.give_frame-requires
give_frame-requires c =
    let xs = c.frames-number-items.result.now in
    let i = c.loop-number.number-index in
    let drainable : IsDrainableCache xs c.args.runs.now =
    subst (λ (ys : List ℕ). IsDrainableCache ys c.args.runs.now) (sym c.frames-number-items.ensures.frames) (drainable-reverse c.args.cache.now c.args.runs.now c.requires.drainable) in
    record {
      within = subst (λ (r : FreeFrames). IsWithinLimits r.sizes) (sym c.loop-number.invariant.given) c.requires.rising.within;
      givable = givable_next (is_drained_of c.args.runs.now.sizes c.args.runs.now.online c.args.drained.now) c.args.runs.now c.loop-number.runs xs i (get_or xs i 0) drainable c.loop-number-test.true refl c.loop-number.invariant.given;
    }

pub loop-number-preserved : goal.loop-number-preserved
loop-number-preserved c =
    let xs = c.frames-number-items.result.now in
    let i = c.loop-number.number-index in
    let x = get_or xs i 0 in
    let test = is_drained_of c.args.runs.now.sizes c.args.runs.now.online c.args.drained.now in
    let tested : test x ≡ c.is_drained.result =
    sym (c.is_drained.ensures ∙ ap (λ (r : FreeFrames). is_drained_of r.sizes r.online c.args.drained.now x) c.loop-number.invariant.given) in
    let few : length xs ≤ 8 = omega (arith, ap length c.frames-number-items.ensures.frames, length-reverse c.args.cache.now) in
    elim c.if-is_drained.branch [
      | then-is_drained w ↦ record {
        kept = w.kept-is ∙ kept_without test c.loop-number.kept xs i x c.loop-number-test.true refl (tested ∙ w.if-is_drained.true) c.loop-number.invariant.kept;
        given = w.runs-is ∙ given_more test c.args.runs.now c.loop-number.runs w.give_frame.new.runs xs i x c.loop-number-test.true refl (tested ∙ w.if-is_drained.true) c.loop-number.invariant.given w.give_frame.ensures;
      }
      | else-is_drained w ↦ record {
        kept = w.kept-is ∙ kept_with test c.loop-number.kept w.put.new.self xs i x c.loop-number-test.true few refl (tested ∙ w.if-is_drained.false) c.loop-number.invariant.kept w.put.ensures.frames;
        given = w.runs-is ∙ given_same test c.args.runs.now c.loop-number.runs xs i x c.loop-number-test.true refl (tested ∙ w.if-is_drained.false) c.loop-number.invariant.given;
      }
    ]

pub returns-clause-runs : goal.returns-clause-runs
returns-clause-runs c =
    given_all (is_drained_of c.args.runs.now.sizes c.args.runs.now.online c.args.drained.now) c.args.runs.now c.loop-number.runs c.args.cache.now c.frames-number-items.result.now c.loop-number.number-index c.frames-number-items.ensures.frames (omega arith) c.loop-number.invariant.given
