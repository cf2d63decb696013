-- Leases keep what always holds of a space, and one is refused exactly where no frame is free for it.
use Rattle.std.proofs.Common.{◌≡◌, ◌≢◌, ℕ, ◌+◌, ◌-◌, ◌^◌, ◌<◌, ◌≤◌, ◌↔◌, ◌⊎◌, Bool, true, false, not, List, [], ◌∷◌, length, get_or, set, refl, sym, ap, subst, ◌∙◌, arith, inl, inr}
use Rattle.std.specs.Prelude.{Option, None, Some}
use Rattle.std.specs.Option.{option_or}
use Rattle.std.specs.List.{filter, list_any, concat, range_with_len}
use Rattle.std.proofs.Math.Dec.{eqb}
use Rattle.std.proofs.lemmas.Bool.{cases_eq, eqb-true, eq-eqb, or_cases, or_left, or_right, and_parts, and_right, leb-true, ltb-true, not_from_true, both_ways}
use Rattle.std.proofs.lemmas.Option.{same_Some}
use Rattle.std.proofs.lemmas.Nat.{pow_pos}
use Rattle.std.proofs.lemmas.List.{get_or-set_same, get_or-set_other, length-set}
use Rattle.std.proofs.lemmas.List.FromFn.{length-range_with_len}
use Rattle.evac_model.specs.declared.names.Kind.{Kind}
use Rattle.evac_model.specs.declared.names.Kind.TheVariants.{Movable, Unmovable}
use Rattle.evac_model.specs.Geometry.{Sizes, IsWithinLimits, frame_count}
use Rattle.evac_model.specs.Numbers.{is_in, AreDistinct}
use Rattle.evac_model.proofs.Distinct.{distinct-range_with_len}
use Rattle.evac_model.specs.FreeRuns.{fits, is_all_free, chosen_run}
use Rattle.evac_model.specs.SpaceJournal.{SpaceState, Out, Leased, IsLeasable, out_for, is_frame_of, is_frame_in, free_frames, from_cache, from_run, from_runs, one_frame, kernel_run, drained, lease_of, after_lease}
use Rattle.buddy.proofs.FreeRunLaws.{no_choice}
use Rattle.frame_cache.specs.Drains.{AreCaches}
use Rattle.space.specs.JournaledSpace.{JournaledSpace, space_state, IsLeasableFor}
use Rattle.space.specs.SpaceInside.{IsSpace}
use Rattle.space.proofs.CachesBehind.{set_caches}
use Rattle.space.proofs.Members.{any-filter, get_or-filter_each, any-set_in, any-set_rest, any-rest_none, any-get_or, distinct-set, distinct-get_or}
use Rattle.space.proofs.Spaces.{IsFreeFrame, free_frame, free_frame_in, one_free, drained_space}
use Rattle.space.proofs.Choices.{IsChosenRun, chosen, few_frames}
use Rattle.evac_model.proofs.Members.{is_in-range_with_len}

pub record IsGoodLease (s : Sizes) (online : Kind) (st : SpaceState) (kind : Kind) (l : Leased) : Type 0 where
  pub kept : (page : ℕ) → IsSpace s online (after_lease st (Some l) page kind)
  pub leasable : IsLeasable s online st kind l.frame

-- ---- a test that some block of a list passes

any_from : (p : ℕ → Bool) (b : ℕ) (xs : List ℕ) → is_in b xs ≡ true → p b ≡ true → list_any p xs ≡ true
any_from p b [] there passes = there
any_from p b (x ∷ xs) there passes =
    elim (or_cases (eqb b x) (is_in b xs) there) [
      | inl here ↦ or_left _ _ (ap p (sym (eqb-true b x here)) ∙ passes)
      | inr rest ↦ or_right _ _ (any_from p b xs rest passes)
    ]

any_more : (p : ℕ → Bool) (xs ys : List ℕ) → ((b : ℕ) → is_in b xs ≡ true → is_in b ys ≡ true) → list_any p xs ≡ true → list_any p ys ≡ true
any_more p [] ys more h = cc
any_more p (x ∷ xs) ys more h =
    elim (or_cases (p x) (list_any p xs) h) [
      | inl here ↦ any_from p x ys (more x (or_left _ _ (eq-eqb x x refl))) here
      | inr rest ↦ any_more p xs ys (λ b there. more b (or_right _ _ there)) rest
    ]

-- ---- a lease of a frame that isn't cached any more

-- what is known of a cached frame behind a lease
record StaysCached (s : Sizes) (st : SpaceState) (leased frame : ℕ) : Type 0 where
  pub there : frame < frame_count s
  pub not_out : out_for st frame ≡ None
  pub not_isolated : is_frame_in s st.isolated frame ≡ false
  pub other : frame ≢ leased

-- what a leased frame is out for
leased_out : (out : List (Option Out)) (first f : ℕ) (o x : Out) → first < length out → f ≡ first → get_or (set out first (Some o)) f None ≡ Some x → o ≡ x
leased_out out first f o x l here e =
    same_Some o x (sym (ap (λ (i : ℕ). get_or (set out first (Some o)) i None) here ∙ get_or-set_same out first (Some o) None l) ∙ e)

lease_kept : (s : Sizes) (online : Kind) (st : SpaceState) (l : Leased) (page : ℕ) (kind : Kind) → IsSpace s online st → IsLeasable s online st kind l.frame → AreCaches l.caches → AreDistinct (concat l.caches) → ((f : ℕ) → list_any (is_in f) l.caches ≡ true → StaysCached s st l.frame f) → IsSpace s online (after_lease st (Some l) page kind)
lease_kept s online st l page kind h leasable caches distinct cached =
    let o : Out = record { page = page; kind = kind } in
    let other_as : (f : ℕ) → f ≢ l.frame → get_or (set st.out l.frame (Some o)) f None ≡ out_for st f = λ f ne. get_or-set_other st.out l.frame f (Some o) None ne in
    record {
      out = length-set st.out l.frame _ ∙ h.out;
      isolated = h.isolated;
      offline = h.offline;
      offline_isolated = h.offline_isolated;
      emptied = λ f t.
          let isolated : is_frame_in s st.isolated f ≡ true = any_more (λ b. is_frame_of s b f) st.offline st.isolated h.offline_isolated t in
          other_as f (λ e. both_ways _ leasable.not_isolated (ap (is_frame_in s st.isolated) (sym e) ∙ isolated)) ∙ h.emptied f t;
      fitting = λ f x e. elim (cases_eq f l.frame) [
        | inl here ↦
            let same : o ≡ x = leased_out st.out l.frame f o x (omega (arith, h.out, leasable.there)) here e in
            ap (λ (y : Out). fits s online y.kind f) (sym same) ∙ ap (fits s online kind) here ∙ leasable.fitting
        | inr other ↦ h.fitting f x (sym (other_as f other) ∙ e)
      ];
      isolated_movable = λ f x t e. elim (cases_eq f l.frame) [
        | inl here ↦ absurd (both_ways _ leasable.not_isolated (ap (is_frame_in s st.isolated) (sym here) ∙ t))
        | inr other ↦ h.isolated_movable f x t (sym (other_as f other) ∙ e)
      ];
      caches = caches;
      distinct = distinct;
      cached_there = λ f t. (cached f t).there;
      cached_not_out = λ f t. other_as f (cached f t).other ∙ (cached f t).not_out;
      cached_not_isolated = λ f t. (cached f t).not_isolated;
    }

-- from the caller's cache
good_cached : (s : Sizes) (online : Kind) (st : SpaceState) (who first : ℕ) (rest : List ℕ) → IsSpace s online st → get_or st.caches who [] ≡ first ∷ rest → IsGoodLease s online st Movable (record { frame = first; caches = set st.caches who rest })
good_cached s online st who first rest h held =
    let there : list_any (is_in first) st.caches ≡ true = any-get_or first st.caches who (ap (is_in first) held ∙ or_left _ _ (eq-eqb first first refl)) in
    let few : length rest ≤ 8 = omega (arith, ap (λ (xs : List ℕ). length xs) held, h.caches.few who) in
    let whole : AreDistinct (first ∷ rest) = subst AreDistinct held (distinct-get_or st.caches who h.distinct) in
    let was : (f : ℕ) → list_any (is_in f) (set st.caches who rest) ≡ true → list_any (is_in f) st.caches ≡ true = λ f t. any-set_rest f st.caches who first rest held ∙ or_right _ _ t in
    let leasable : IsLeasable s online st Movable first = record {
      there = h.cached_there first there;
      fitting = refl;
      not_out = h.cached_not_out first there;
      not_isolated = h.cached_not_isolated first there;
    } in
    record {
      kept = λ page. lease_kept s online st (record { frame = first; caches = set st.caches who rest }) page Movable h leasable (set_caches st.caches who rest h.caches few)
          (distinct-set st.caches who rest h.distinct whole.1 (λ f t. inl (ap (is_in f) held ∙ or_right _ _ t)))
          (λ f t. record {
            there = h.cached_there f (was f t);
            not_out = h.cached_not_out f (was f t);
            not_isolated = h.cached_not_isolated f (was f t);
            other = λ e. both_ways _ (any-rest_none st.caches who first rest h.distinct held) (ap (λ (k : ℕ). list_any (is_in k) (set st.caches who rest)) (sym e) ∙ t);
          });
      leasable = leasable;
    }

-- a leased run's frames are free
free_of_run : (s : Sizes) (online kind : Kind) (st : SpaceState) (order first : ℕ) → IsChosenRun s online kind (free_frames s st) order first → (f : ℕ) → first ≤ f → f < first + 2 ^ order → IsFreeFrame s st f
free_of_run s online kind st order first run f from to = free_frame s st f (run.all_free f from to)

leasable_first : (s : Sizes) (online kind : Kind) (st : SpaceState) (order first : ℕ) → IsChosenRun s online kind (free_frames s st) order first → IsLeasable s online st kind first
leasable_first s online kind st order first run =
    let free : IsFreeFrame s st first = free_of_run s online kind st order first run first (omega arith) (omega (arith, pow_pos order)) in
    record { there = free.below; fitting = run.fitting; not_out = free.not_out; not_isolated = free.not_isolated }

-- from a run, whose other frames go into the caller's empty cache
good_run : (s : Sizes) (online : Kind) (st : SpaceState) (who order first : ℕ) → IsSpace s online st → get_or st.caches who [] ≡ [] → order ≤ 2 → IsChosenRun s online Movable (free_frames s st) order first → IsGoodLease s online st Movable (record { frame = first; caches = set st.caches who (range_with_len (first + 1) (2 ^ order - 1)) })
good_run s online st who order first h empty small run =
    let others : List ℕ = range_with_len (first + 1) (2 ^ order - 1) in
    let some : 0 < 2 ^ order = pow_pos order in
    let few : length others ≤ 8 = omega (arith, length-range_with_len (first + 1) (2 ^ order - 1), few_frames order small) in
    let within : (f : ℕ) → is_in f others ≡ true → (first < f) × (f < first + 2 ^ order) = λ f t.
    let p = and_parts _ _ (sym (is_in-range_with_len f (first + 1) (2 ^ order - 1)) ∙ t) in
    let from : first + 1 ≤ f = leb-true (first + 1) f p.0 in
    let to : f < first + 1 + (2 ^ order - 1) = ltb-true f (first + 1 + (2 ^ order - 1)) p.1 in
    (omega arith, omega arith) in
    let free : (f : ℕ) → is_in f others ≡ true → IsFreeFrame s st f = λ f t.
    let w = within f t in
    free_of_run s online Movable st order first run f (omega (arith, w)) w.1 in
    let first_free : IsFreeFrame s st first = free_of_run s online Movable st order first run first (omega arith) (omega (arith, some)) in
    let leasable : IsLeasable s online st Movable first = leasable_first s online Movable st order first run in
    record {
      kept = λ page. lease_kept s online st (record { frame = first; caches = set st.caches who others }) page Movable h leasable (set_caches st.caches who others h.caches few)
          (distinct-set st.caches who others h.distinct (distinct-range_with_len (first + 1) (2 ^ order - 1)) (λ f t. inr (free f t).not_cached))
          (λ f t. elim (any-set_in f st.caches who others t) [
            | inl new ↦ record {
              there = (free f new).below;
              not_out = (free f new).not_out;
              not_isolated = (free f new).not_isolated;
              other = λ e. let w = within f new in omega (arith, w, e);
            }
            | inr old ↦ record {
              there = h.cached_there f old;
              not_out = h.cached_not_out f old;
              not_isolated = h.cached_not_isolated f old;
              other = λ e. both_ways _ first_free.not_cached (ap (λ (k : ℕ). list_any (is_in k) st.caches) (sym e) ∙ old);
            }
          ]);
      leasable = leasable;
    }

-- a run of one frame
good_frame : (s : Sizes) (online : Kind) (st : SpaceState) (first : ℕ) → IsSpace s online st → IsChosenRun s online Unmovable (free_frames s st) 0 first → IsGoodLease s online st Unmovable (record { frame = first; caches = st.caches })
good_frame s online st first h run =
    let free : IsFreeFrame s st first = free_of_run s online Unmovable st 0 first run first (omega arith) (omega arith) in
    let leasable : IsLeasable s online st Unmovable first = leasable_first s online Unmovable st 0 first run in
    record {
      kept = λ page. lease_kept s online st (record { frame = first; caches = st.caches }) page Unmovable h leasable h.caches h.distinct (λ f t. record {
        there = h.cached_there f t;
        not_out = h.cached_not_out f t;
        not_isolated = h.cached_not_isolated f t;
        other = λ e. both_ways _ free.not_cached (ap (λ (k : ℕ). list_any (is_in k) st.caches) (sym e) ∙ t);
      });
      leasable = leasable;
    }

-- ---- the cases of a lease

or_some : (a b : Option Leased) (l : Leased) → option_or a b ≡ Some l → (a ≡ Some l) ⊎ (b ≡ Some l)
or_some None b l e = inr e
or_some (Some x) b l e = inl e

or_none : (a b : Option Leased) → option_or a b ≡ None → (a ≡ None) × (b ≡ None)
or_none None b e = (refl, e)
or_none (Some x) b e = cc

cache_good : (s : Sizes) (online : Kind) (st : SpaceState) (who : ℕ) (l : Leased) (held : List ℕ) → IsSpace s online st → get_or st.caches who [] ≡ held → from_cache st.caches who held ≡ Some l → IsGoodLease s online st Movable l
cache_good s online st who l [] h e some = cc
cache_good s online st who l (first ∷ rest) h e some =
    subst (IsGoodLease s online st Movable) (same_Some _ l some) (good_cached s online st who first rest h e)

run_good : (s : Sizes) (online : Kind) (st : SpaceState) (who order : ℕ) (l : Leased) (o : Option ℕ) → IsWithinLimits s → IsSpace s online st → get_or st.caches who [] ≡ [] → order ≤ 2 → chosen_run s online (free_frames s st) order Movable ≡ o → from_run st.caches who order o ≡ Some l → IsGoodLease s online st Movable l
run_good s online st who order l None w h empty small e some = cc
run_good s online st who order l (Some first) w h empty small e some =
    subst (IsGoodLease s online st Movable) (same_Some _ l some) (good_run s online st who order first h empty small (chosen s online Movable (free_frames s st) order first w e))

runs_good : (s : Sizes) (online : Kind) (st : SpaceState) (who : ℕ) (l : Leased) → IsWithinLimits s → IsSpace s online st → get_or st.caches who [] ≡ [] → from_runs s online st who ≡ Some l → IsGoodLease s online st Movable l
runs_good s online st who l w h empty some =
    let lease : ℕ → Option Leased = λ order. from_run st.caches who order (chosen_run s online (free_frames s st) order Movable) in
    let good : (order : ℕ) → order ≤ 2 → lease order ≡ Some l → IsGoodLease s online st Movable l = λ order small. run_good s online st who order l _ w h empty small refl in
    elim (or_some (lease 2) (option_or (lease 1) (lease 0)) l some) [
      | inl two ↦ good 2 (omega arith) two
      | inr rest ↦ elim (or_some (lease 1) (lease 0) l rest) [
        | inl one ↦ good 1 (omega arith) one
        | inr none ↦ good 0 (omega arith) none
      ]
    ]

kernel_good : (s : Sizes) (online : Kind) (st : SpaceState) (l : Leased) (o : Option ℕ) → IsWithinLimits s → IsSpace s online st → chosen_run s online (free_frames s st) 0 Unmovable ≡ o → one_frame st.caches o ≡ Some l → IsGoodLease s online st Unmovable l
kernel_good s online st l None w h e some = cc
kernel_good s online st l (Some first) w h e some =
    subst (IsGoodLease s online st Unmovable) (same_Some _ l some) (good_frame s online st first h (chosen s online Unmovable (free_frames s st) 0 first w e))

drained_good : (s : Sizes) (online kind drains : Kind) (st : SpaceState) (l : Leased) → IsGoodLease s online (drained s online drains st) kind l → IsGoodLease s online st kind l
drained_good s online kind drains st l h = record {
  kept = h.kept;
  leasable = record { there = h.leasable.there; fitting = h.leasable.fitting; not_out = h.leasable.not_out; not_isolated = h.leasable.not_isolated };
}

movable_good : (s : Sizes) (online : Kind) (st : SpaceState) (who : ℕ) (l : Leased) (held : List ℕ) → IsWithinLimits s → IsSpace s online st → get_or st.caches who [] ≡ held → option_or (from_cache st.caches who held) (option_or (from_runs s online st who) (from_runs s online (drained s online Movable st) who)) ≡ Some l → IsGoodLease s online st Movable l
movable_good s online st who l [] w h e some =
    let emptied : get_or (drained s online Movable st).caches who [] ≡ [] = get_or-filter_each (λ f. not (fits s online Movable f)) st.caches who ∙ ap (filter (λ f. not (fits s online Movable f))) e in
    elim (or_some (from_runs s online st who) (from_runs s online (drained s online Movable st) who) l some) [
      | inl now ↦ runs_good s online st who l w h e now
      | inr later ↦
          drained_good s online Movable Movable st l (runs_good s online (drained s online Movable st) who l w (drained_space s online Movable st h) emptied later)
    ]
movable_good s online st who l (first ∷ rest) w h e some = cache_good s online st who l (first ∷ rest) h e some

pub lease_good : (s : Sizes) (online : Kind) (st : SpaceState) (who : ℕ) (kind : Kind) (l : Leased) → IsWithinLimits s → IsSpace s online st → lease_of s online st who kind ≡ Some l → IsGoodLease s online st kind l
lease_good s online st who Movable l w h some = movable_good s online st who l (get_or st.caches who []) w h refl some
lease_good s online st who Unmovable l w h some =
    elim (or_some (kernel_run s online st) (kernel_run s online (drained s online Unmovable st)) l some) [
      | inl now ↦ kernel_good s online st l _ w h refl now
      | inr later ↦
          drained_good s online Unmovable Unmovable st l (kernel_good s online (drained s online Unmovable st) l _ w (drained_space s online Unmovable st h) refl later)
    ]

-- ---- no lease

-- behind a drain of the blocks that take the kind, each frame that a lease may have is a run of order 0
drained_free : (s : Sizes) (online kind : Kind) (st : SpaceState) (f : ℕ) → IsLeasable s online st kind f → is_all_free s (free_frames s (drained s online kind st)) 0 f ≡ true
drained_free s online kind st f h =
    let free : IsFreeFrame s (drained s online kind st) f = record {
      below = h.there;
      not_out = h.not_out;
      not_isolated = h.not_isolated;
      not_cached = any-filter (λ k. not (fits s online kind k)) f st.caches ∙ and_right _ _ (not_from_true _ h.fitting);
    } in
    one_free s (free_frames s (drained s online kind st)) f h.there (free_frame_in s (drained s online kind st) f free)

drained_choice : (s : Sizes) (online kind : Kind) (st : SpaceState) (f : ℕ) → IsWithinLimits s → IsLeasable s online st kind f → chosen_run s online (free_frames s (drained s online kind st)) 0 kind ≡ None → ⊥
drained_choice s online kind st f w h none =
    both_ways _ ((no_choice s online kind (free_frames s (drained s online kind st)) 0 w).0 none f h.fitting) (drained_free s online kind st f h)

run_none : (caches : List (List ℕ)) (who order : ℕ) (o : Option ℕ) → from_run caches who order o ≡ None → o ≡ None
run_none caches who order None e = refl
run_none caches who order (Some first) e = cc

frame_none : (caches : List (List ℕ)) (o : Option ℕ) → one_frame caches o ≡ None → o ≡ None
frame_none caches None e = refl
frame_none caches (Some first) e = cc

pub lease_refused : (s : Sizes) (online : Kind) (st : SpaceState) (who : ℕ) (kind : Kind) → IsWithinLimits s → lease_of s online st who kind ≡ None → (f : ℕ) → ¬ IsLeasable s online st kind f
lease_refused s online st who Movable w none f h =
    let later : SpaceState = drained s online Movable st in
    let lease : ℕ → Option Leased = λ order. from_run later.caches who order (chosen_run s online (free_frames s later) order Movable) in
    let rest = or_none (from_cache st.caches who (get_or st.caches who [])) (option_or (from_runs s online st who) (from_runs s online later who)) none in
    let last = or_none (from_runs s online st who) (from_runs s online later who) rest.1 in
    let smaller = or_none (lease 2) (option_or (lease 1) (lease 0)) last.1 in
    let smallest = or_none (lease 1) (lease 0) smaller.1 in
    drained_choice s online Movable st f w h (run_none later.caches who 0 _ smallest.1)
lease_refused s online st who Unmovable w none f h =
    let later : SpaceState = drained s online Unmovable st in
    let rest = or_none (kernel_run s online st) (kernel_run s online later) none in
    drained_choice s online Unmovable st f w h (frame_none later.caches _ rest.1)

no_value : (o : Option Leased) → ((l : Leased) → o ≡ Some l → ⊥) → o ≡ None
no_value None h = refl
no_value (Some l) h = absurd (h l refl)

pub lease_none : (s : Sizes) (online : Kind) (st : SpaceState) (who : ℕ) (kind : Kind) → IsWithinLimits s → IsSpace s online st → (lease_of s online st who kind ≡ None) ↔ ((f : ℕ) → ¬ IsLeasable s online st kind f)
lease_none s online st who kind w h = (
  lease_refused s online st who kind w,
  λ none. no_value (lease_of s online st who kind) (λ l e. none l.frame (lease_good s online st who kind l w h e).leasable),
)

-- the same of a journaled space
pub leased_free : (v : JournaledSpace) (who : ℕ) (kind : Kind) (l : Leased) → IsWithinLimits v.sizes → IsSpace v.sizes v.online (space_state v) → lease_of v.sizes v.online (space_state v) who kind ≡ Some l → IsLeasableFor v kind l.frame
leased_free v who kind l w h e = (lease_good v.sizes v.online (space_state v) who kind l w h e).leasable

pub refused_none : (v : JournaledSpace) (who : ℕ) (kind : Kind) → IsWithinLimits v.sizes → IsSpace v.sizes v.online (space_state v) → (lease_of v.sizes v.online (space_state v) who kind ≡ None) ↔ ((f : ℕ) → ¬ IsLeasableFor v kind f)
refused_none v who kind w h = lease_none v.sizes v.online (space_state v) who kind w h
