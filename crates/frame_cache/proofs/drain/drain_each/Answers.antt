use Rattle.std.proofs.Common.{◌≡◌, ℕ, Bool, ◌&&◌, not, List, [], ◌++◌, map, filter, take, drop, set, get_or, ap, sym, ◌∙◌, subst, arith}
use Rattle.std.specs.List.{list_any}
use Rattle.std.proofs.lemmas.List.{take_all}
use Rattle.evac_model.specs.Numbers.{is_in}
use Rattle.buddy.specs.FreeFrames.{FreeFrames, with_frames}
use Rattle.frame_cache.specs.Drains.{AreRising, IsDrainableCache}
use Rattle.frame_cache.specs.Drained.{is_drained_of}
use Rattle.frame_cache.proofs.Fronts.{next_item, front_more}
use Rattle.frame_cache.proofs.Givings.{rising-from_apart, rising-with_frames, drainable_next, caches_given_more}
use Rattle.frame_cache.proofs.drain.drain_each.Goals as goal

pub drain_cache-requires-clause-rising : goal.drain_cache-requires-clause-rising
drain_cache-requires-clause-rising c =
    let test = is_drained_of c.args.runs.now.sizes c.args.runs.now.online c.args.drained.now in
    subst AreRising (sym c.loop-cache.invariant.given) (rising-with_frames (λ f. list_any (is_in f) (take c.loop-cache.cache-index c.args.caches.now) && test f) c.args.runs.now (rising-from_apart c.args.runs.now c.geometry-geometry.ensures.apart))

pub drain_cache-requires-clause-drainable : goal.drain_cache-requires-clause-drainable
drain_cache-requires-clause-drainable c =
    let xss = c.args.caches.now in
    let i = c.loop-cache.cache-index in
    let d = c.cache-item.result in
    let test = is_drained_of c.args.runs.now.sizes c.args.runs.now.online c.args.drained.now in
    let item : get_or c.loop-cache.caches i d ≡ get_or xss i [] =
    ap (λ (yss : List (List ℕ)). get_or yss i d) c.loop-cache.invariant.caches ∙ next_item (filter (λ f. not (test f))) xss i d c.loop-cache-test.true in
    subst (λ (ys : List ℕ). IsDrainableCache ys c.loop-cache.runs) (sym item) (drainable_next test c.args.runs.now c.loop-cache.runs xss i c.requires.drainable c.loop-cache-test.true c.loop-cache.invariant.given)

pub loop-cache-preserved : goal.loop-cache-preserved
loop-cache-preserved c =
    let xss = c.args.caches.now in
    let i = c.loop-cache.cache-index in
    let d = c.cache-item.result in
    let test = is_drained_of c.args.runs.now.sizes c.args.runs.now.online c.args.drained.now in
    let item : get_or c.loop-cache.caches i d ≡ get_or xss i [] =
    ap (λ (yss : List (List ℕ)). get_or yss i d) c.loop-cache.invariant.caches ∙ next_item (filter (λ f. not (test f))) xss i d c.loop-cache-test.true in
    let tested : is_drained_of c.loop-cache.runs.sizes c.loop-cache.runs.online c.args.drained.now ≡ test =
    ap (λ (r : FreeFrames). is_drained_of r.sizes r.online c.args.drained.now) c.loop-cache.invariant.given in
    let kept : c.drain_cache.new.cache ≡ filter (λ f. not (test f)) (get_or xss i []) =
    c.drain_cache.ensures.cache
    ∙ (ap (λ (t : ℕ → Bool). filter (λ f. not (t f)) (get_or c.loop-cache.caches i d)) tested
    ∙ ap (filter (λ f. not (test f))) item) in
    let given : c.drain_cache.new.runs ≡ with_frames (λ f. is_in f (get_or xss i []) && test f) c.loop-cache.runs =
    c.drain_cache.ensures.runs
    ∙ (ap (λ (t : ℕ → Bool). with_frames (λ f. is_in f (get_or c.loop-cache.caches i d) && t f) c.loop-cache.runs) tested
    ∙ ap (λ (ys : List ℕ). with_frames (λ f. is_in f ys && test f) c.loop-cache.runs) item) in
    record {
      caches =
          ap (λ (yss : List (List ℕ)). set yss i c.drain_cache.new.cache) c.loop-cache.invariant.caches
          ∙ (ap (λ (ys : List ℕ). set (map (filter (λ f. not (test f))) (take i xss) ++ drop i xss) i ys) kept
          ∙ front_more (filter (λ f. not (test f))) xss i c.loop-cache-test.true);
      given = caches_given_more test c.args.runs.now c.loop-cache.runs c.drain_cache.new.runs xss i c.loop-cache-test.true c.loop-cache.invariant.given given;
    }

pub returns-clause-runs : goal.returns-clause-runs
returns-clause-runs c =
    let test = is_drained_of c.args.runs.now.sizes c.args.runs.now.online c.args.drained.now in
    c.loop-cache.invariant.given ∙ ap (λ (yss : List (List ℕ)). with_frames (λ f. list_any (is_in f) yss && test f) c.args.runs.now) (take_all c.loop-cache.cache-index c.args.caches.now (omega arith))
