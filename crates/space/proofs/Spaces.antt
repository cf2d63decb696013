-- What is free and what is kept aside in a space: behind a drain of the caches, and behind a lease.
use Rattle.std.proofs.Common.{◌≡◌, ℕ, zero, suc, ◌+◌, ◌-◌, ◌*◌, ◌%◌, ◌^◌, ◌<◌, ◌≤◌, Bool, true, false, not, ◌&&◌, ◌||◌, List, [], ◌∷◌, map, length, get_or, set, refl, sym, ap, ◌∙◌, arith, inl, inr}
use Rattle.std.specs.Prelude.{Option, None, Some}
use Rattle.std.specs.Option.{is_some}
use Rattle.std.specs.List.{filter, list_any, range_with_len}
use Rattle.std.proofs.Math.Dec.{eqb}
use Rattle.std.proofs.lemmas.Bool.{cases_lt, cases_eq, eq-eqb, ne_eqb, eqb-true, and_parts, and_from, and_right, or_left, le-leb, lt-ltb, not-true, not_from_false, not_from_true, both_ways, false_from_ne_true}
use Rattle.std.proofs.lemmas.List.{get_or-set_same, get_or-set_other}
use Rattle.evac_model.specs.declared.names.Kind.{Kind}
use Rattle.evac_model.specs.Geometry.{Sizes, frame_count}
use Rattle.evac_model.specs.Numbers.{numbers_where, is_in, is_between}
use Rattle.evac_model.specs.FreeRuns.{fits, is_all_free}
use Rattle.evac_model.specs.SpaceJournal.{SpaceState, Out, Leased, out_for, is_frame_in, free_frames, drained, after_lease}
use Rattle.evac_model.proofs.Numbers.{numbers_agree, is_in-numbers_where, is_in-numbers_where_past, numbers_rising}
use Rattle.buddy.specs.FreeFrames.{with_frames, after_take, FreeFrames}
use Rattle.space.specs.SpaceInside.{IsSpace, aside_frames, runs_of}
use Rattle.space.proofs.CachesBehind.{caches_filtered}
use Rattle.space.proofs.Members.{any-filter, filter_each_all, distinct-filter_each, any-set_empty, any-set_rest, any-get_or}
use Rattle.evac_model.proofs.Members.{is_in-range_with_len, between_first}
use Rattle.std.proofs.Math.Bool.{or-false, and-true, and-false}
use Rattle.evac_model.proofs.Ranges.{between_none}
use Rattle.evac_model.proofs.Unions.{without_range-below}

-- a frame that is free
pub record IsFreeFrame (s : Sizes) (st : SpaceState) (f : ℕ) : Type 0 where
  pub below : f < frame_count s
  pub not_out : out_for st f ≡ None
  pub not_isolated : is_frame_in s st.isolated f ≡ false
  pub not_cached : list_any (is_in f) st.caches ≡ false

none_is : {A : Type 0} (o : Option A) → is_some o ≡ false → o ≡ None
none_is None e = refl
none_is (Some x) e = cc

is_free_in : Sizes → SpaceState → ℕ → Bool
is_free_in s st f =
    not (is_some (out_for st f)) && not (is_frame_in s st.isolated f) && not (list_any (is_in f) st.caches)

pub free_frame : (s : Sizes) (st : SpaceState) (f : ℕ) → is_in f (free_frames s st) ≡ true → IsFreeFrame s st f
unfolding is_free_in
free_frame s st f h =
    let below : f < frame_count s = elim (cases_lt f (frame_count s)) [
      | inl l ↦ l
      | inr g ↦ absurd (both_ways _ (is_in-numbers_where_past (is_free_in s st) (frame_count s) f g) h)
    ] in
    let passes : is_free_in s st f ≡ true = sym (is_in-numbers_where (is_free_in s st) (frame_count s) f below) ∙ h in
    let parts = and_parts (not (is_some (out_for st f)) && not (is_frame_in s st.isolated f)) (not (list_any (is_in f) st.caches)) passes in
    let front = and_parts (not (is_some (out_for st f))) (not (is_frame_in s st.isolated f)) parts.0 in
    record {
      below = below;
      not_out = none_is (out_for st f) (not-true _ front.0);
      not_isolated = not-true _ front.1;
      not_cached = not-true _ parts.1;
    }

pub free_frame_in : (s : Sizes) (st : SpaceState) (f : ℕ) → IsFreeFrame s st f → is_in f (free_frames s st) ≡ true
unfolding is_free_in
free_frame_in s st f h =
    is_in-numbers_where (is_free_in s st) (frame_count s) f h.below
    ∙ and_from _ _ (and_from _ _ (not_from_false _ (ap is_some h.not_out)) (not_from_false _ h.not_isolated)) (not_from_false _ h.not_cached)

-- ---- a drain

pub free_drained : (out isolated cached test : Bool) → (cached ≡ true → out ≡ false) → (cached ≡ true → isolated ≡ false) → ((not out && not isolated && not cached) || ((cached && test) && not isolated)) ≡ (not out && not isolated && not (cached && not test))
free_drained out isolated false test o i = or-false _
free_drained true isolated true test o i = cc (o refl)
free_drained false true true test o i = cc (i refl)
free_drained false false true true o i = refl
free_drained false false true false o i = refl

pub aside_drained : (out isolated cached test : Bool) → (cached ≡ true → isolated ≡ false) → ((not out && isolated) || ((cached && test) && isolated)) ≡ (not out && isolated)
aside_drained out isolated false test i = or-false _
aside_drained out true true test i = cc (i refl)
aside_drained true false true true i = refl
aside_drained true false true false i = refl
aside_drained false false true true i = refl
aside_drained false false true false i = refl

pub drained_runs : (s : Sizes) (online kind : Kind) (st : SpaceState) → IsSpace s online st → with_frames (λ f. list_any (is_in f) st.caches && fits s online kind f) (runs_of s online st) ≡ runs_of s online (drained s online kind st)
drained_runs s online kind st h =
    let n : ℕ = frame_count s in
    let out : ℕ → Bool = λ f. is_some (out_for st f) in
    let isolated : ℕ → Bool = is_frame_in s st.isolated in
    let cached : ℕ → Bool = λ f. list_any (is_in f) st.caches in
    let not_out : (f : ℕ) → cached f ≡ true → out f ≡ false = λ f t. ap is_some (h.cached_not_out f t) in
    let free : numbers_where (λ f. is_in f (free_frames s st) || ((cached f && fits s online kind f) && not (isolated f))) n ≡ free_frames s (drained s online kind st) =
    numbers_agree _ _ n (λ f l.
    ap (λ (t : Bool). t || ((cached f && fits s online kind f) && not (isolated f))) (is_in-numbers_where (λ k. not (out k) && not (isolated k) && not (cached k)) n f l)
    ∙ (free_drained (out f) (isolated f) (cached f) (fits s online kind f) (not_out f) (h.cached_not_isolated f)
    ∙ ap (λ (t : Bool). not (out f) && not (isolated f) && not t) (sym (any-filter (λ k. not (fits s online kind k)) f st.caches)))) in
    let aside : numbers_where (λ f. is_in f (aside_frames s st) || ((cached f && fits s online kind f) && isolated f)) n ≡ aside_frames s (drained s online kind st) =
    numbers_agree _ _ n (λ f l.
    ap (λ (t : Bool). t || ((cached f && fits s online kind f) && isolated f)) (is_in-numbers_where (λ k. not (out k) && isolated k) n f l)
    ∙ aside_drained (out f) (isolated f) (cached f) (fits s online kind f) (h.cached_not_isolated f)) in
    λ i. record (runs_of s online st) { free = free i; aside = aside i }

pub drained_space : (s : Sizes) (online kind : Kind) (st : SpaceState) → IsSpace s online st → IsSpace s online (drained s online kind st)
drained_space s online kind st h =
    let test : ℕ → Bool = λ f. not (fits s online kind f) in
    let was : (f : ℕ) → list_any (is_in f) (map (filter test) st.caches) ≡ true → list_any (is_in f) st.caches ≡ true = λ f t. (and_parts _ _ (sym (any-filter test f st.caches) ∙ t)).0 in
    record {
      out = h.out;
      isolated = h.isolated;
      offline = h.offline;
      offline_isolated = h.offline_isolated;
      emptied = h.emptied;
      fitting = h.fitting;
      isolated_movable = h.isolated_movable;
      caches = caches_filtered test st.caches h.caches;
      distinct = distinct-filter_each test st.caches h.distinct;
      cached_there = λ f t. h.cached_there f (was f t);
      cached_not_out = λ f t. h.cached_not_out f (was f t);
      cached_not_isolated = λ f t. h.cached_not_isolated f (was f t);
    }

-- a free frame is a run of order 0
some_block : (a b f : ℕ) → f < a * b → 1 ≤ b
some_block a zero f l = absurd (omega (arith, l))
some_block a (suc b) f l = omega arith

pub one_free : (s : Sizes) (free : List ℕ) (f : ℕ) → f < frame_count s → is_in f free ≡ true → is_all_free s free 0 f ≡ true
one_free s free f below there =
    and_from _ _ (and_from _ _ (and_from _ _ (eq-eqb (f % 1) 0 (omega arith)) (le-leb 1 s.block (some_block (s.boot + s.managed) s.block f below))) (lt-ltb f (frame_count s) below)) (and_from _ _ there refl)

-- a frame that is drained is free
pub drained_frame : (s : Sizes) (online kind : Kind) (st : SpaceState) (f : ℕ) → IsSpace s online st → list_any (is_in f) st.caches ≡ true → fits s online kind f ≡ true → IsFreeFrame s (drained s online kind st) f
drained_frame s online kind st f h there fit = record {
  below = h.cached_there f there;
  not_out = h.cached_not_out f there;
  not_isolated = h.cached_not_isolated f there;
  not_cached = any-filter (λ k. not (fits s online kind k)) f st.caches ∙ and_right _ _ (not_from_true _ fit);
}

-- where no frame is free behind the drain, no frame was drained
pub drained_same : (s : Sizes) (online kind : Kind) (st : SpaceState) → IsSpace s online st → ((first : ℕ) → fits s online kind first ≡ true → is_all_free s (free_frames s (drained s online kind st)) 0 first ≡ false) → drained s online kind st ≡ st
drained_same s online kind st h none =
    let kept : map (filter (λ f. not (fits s online kind f))) st.caches ≡ st.caches =
    filter_each_all (λ f. not (fits s online kind f)) st.caches (λ f there.
    not_from_false (fits s online kind f) (false_from_ne_true (fits s online kind f) (λ fit.
    let f_free : IsFreeFrame s (drained s online kind st) f = drained_frame s online kind st f h there fit in
    both_ways _ (none f fit) (one_free s (free_frames s (drained s online kind st)) f f_free.below (free_frame_in s (drained s online kind st) f f_free))))) in
    ap (λ (cs : List (List ℕ)). record st { caches = cs }) kept

-- ---- a lease

out_set : (out : List (Option Out)) (first f : ℕ) (o : Out) → first < length out → is_some (get_or (set out first (Some o)) f None) ≡ (eqb f first || is_some (get_or out f None))
out_set out first f o l =
    elim (cases_eq f first) [
      | inl e ↦
          ap (λ (k : ℕ). is_some (get_or (set out first (Some o)) k None)) e
          ∙ (ap is_some (get_or-set_same out first (Some o) None l) ∙ sym (or_left _ _ (eq-eqb f first e)))
      | inr ne ↦
          ap is_some (get_or-set_other out first f (Some o) None ne)
          ∙ sym (ap (λ (t : Bool). t || is_some (get_or out f None)) (ne_eqb f first ne))
    ]

aside_leased : (here out isolated : Bool) → (here ≡ true → isolated ≡ false) → (not (here || out) && isolated) ≡ (not out && isolated)
aside_leased false out isolated h = refl
aside_leased true out true h = cc (h refl)
aside_leased true out false h = sym (and-false (not out))

-- the frames kept aside stay, and of the free frames go those that the test names
pub leased_runs : (s : Sizes) (online : Kind) (st : SpaceState) (l : Leased) (page : ℕ) (kind : Kind) (gone : ℕ → Bool) → length st.out ≡ frame_count s → l.frame < frame_count s → is_frame_in s st.isolated l.frame ≡ false → ((f : ℕ) → (not (eqb f l.frame || is_some (out_for st f)) && not (is_frame_in s st.isolated f) && not (list_any (is_in f) l.caches)) ≡ ((not (is_some (out_for st f)) && not (is_frame_in s st.isolated f) && not (list_any (is_in f) st.caches)) && not (gone f))) → runs_of s online (after_lease st (Some l) page kind) ≡ record (runs_of s online st) { free = numbers_where (λ f. is_in f (free_frames s st) && not (gone f)) (frame_count s) }
leased_runs s online st l page kind gone frames below not_isolated same =
    let n : ℕ = frame_count s in
    let o : Out = record { page = page; kind = kind } in
    let out : (f : ℕ) → is_some (get_or (set st.out l.frame (Some o)) f None) ≡ (eqb f l.frame || is_some (out_for st f)) = λ f. out_set st.out l.frame f o (omega (arith, frames, below)) in
    let free : free_frames s (after_lease st (Some l) page kind) ≡ numbers_where (λ f. is_in f (free_frames s st) && not (gone f)) n =
    numbers_agree _ _ n (λ f lt.
    ap (λ (t : Bool). not t && not (is_frame_in s st.isolated f) && not (list_any (is_in f) l.caches)) (out f)
    ∙ (same f
    ∙ ap (λ (t : Bool). t && not (gone f)) (sym (is_in-numbers_where (λ k. not (is_some (out_for st k)) && not (is_frame_in s st.isolated k) && not (list_any (is_in k) st.caches)) n f lt)))) in
    let aside : aside_frames s (after_lease st (Some l) page kind) ≡ aside_frames s st =
    numbers_agree _ _ n (λ f lt.
    ap (λ (t : Bool). not t && is_frame_in s st.isolated f) (out f)
    ∙ aside_leased (eqb f l.frame) (is_some (out_for st f)) (is_frame_in s st.isolated f) (λ e. ap (is_frame_in s st.isolated) (eqb-true f l.frame e) ∙ not_isolated)) in
    λ i. record (runs_of s online st) { free = free i; aside = aside i }

-- from a run: its lowest frame, the others going into an empty cache
from_run_free : (here out isolated rest cached : Bool) → (not (here || out) && not isolated && not (rest || cached)) ≡ ((not out && not isolated && not cached) && not (here || rest))
from_run_free true out isolated rest cached = sym (and-false (not out && not isolated && not cached))
from_run_free false true isolated rest cached = refl
from_run_free false false true rest cached = refl
from_run_free false false false true cached = sym (and-false (not cached))
from_run_free false false false false cached = sym (and-true (not cached))

-- the runs behind a take, whose frames are rising
taken_runs : (s : Sizes) (online : Kind) (st : SpaceState) (order first : ℕ) → (let r : FreeFrames = record (runs_of s online st) { free = numbers_where (λ f. is_in f (free_frames s st) && not (is_between first (first + 2 ^ order) f)) (frame_count s) } in r) ≡ after_take order (Some first) (runs_of s online st)
unfolding is_free_in
taken_runs s online st order first =
    ap (λ (xs : List ℕ). record (runs_of s online st) { free = xs })
    (sym (without_range-below first (2 ^ order) (frame_count s) (free_frames s st) (numbers_rising (is_free_in s st) (frame_count s))))

pub run_taken : (s : Sizes) (online : Kind) (st : SpaceState) (who order first page : ℕ) (kind : Kind) → IsSpace s online st → who ≤ 16 → get_or st.caches who [] ≡ [] → IsFreeFrame s st first → 0 < 2 ^ order → runs_of s online (after_lease st (Some (record { frame = first; caches = set st.caches who (range_with_len (first + 1) (2 ^ order - 1)) })) page kind) ≡ after_take order (Some first) (runs_of s online st)
run_taken s online st who order first page kind h caller empty free some =
    let rest : ℕ = 2 ^ order - 1 in
    let whole : (f : ℕ) → (eqb f first || is_between (first + 1) (first + 1 + rest) f) ≡ is_between first (first + 2 ^ order) f =
    λ f. between_first f first rest ∙ ap (λ (k : ℕ). is_between first (first + k) f) (let e : suc rest ≡ 2 ^ order = omega arith in e) in
    leased_runs s online st (record { frame = first; caches = set st.caches who (range_with_len (first + 1) rest) }) page kind (is_between first (first + 2 ^ order)) h.out free.below free.not_isolated (λ f.
    ap (λ (t : Bool). not (eqb f first || is_some (out_for st f)) && not (is_frame_in s st.isolated f) && not t)
    (any-set_empty f st.caches who (range_with_len (first + 1) rest) (omega (arith, h.caches.callers, caller)) empty ∙ ap (λ (t : Bool). t || list_any (is_in f) st.caches) (is_in-range_with_len f (first + 1) rest))
    ∙ (from_run_free (eqb f first) (is_some (out_for st f)) (is_frame_in s st.isolated f) (is_between (first + 1) (first + 1 + rest) f) (list_any (is_in f) st.caches)
    ∙ ap (λ (t : Bool). (not (is_some (out_for st f)) && not (is_frame_in s st.isolated f) && not (list_any (is_in f) st.caches)) && not t) (whole f)))
    ∙ taken_runs s online st order first

-- a run of one frame
pub frame_taken : (s : Sizes) (online : Kind) (st : SpaceState) (first page : ℕ) (kind : Kind) → IsSpace s online st → IsFreeFrame s st first → runs_of s online (after_lease st (Some (record { frame = first; caches = st.caches })) page kind) ≡ after_take 0 (Some first) (runs_of s online st)
frame_taken s online st first page kind h free =
    leased_runs s online st (record { frame = first; caches = st.caches }) page kind (is_between first (first + 1)) h.out free.below free.not_isolated (λ f.
    from_run_free (eqb f first) (is_some (out_for st f)) (is_frame_in s st.isolated f) false (list_any (is_in f) st.caches)
    ∙ ap (λ (t : Bool). (not (is_some (out_for st f)) && not (is_frame_in s st.isolated f) && not (list_any (is_in f) st.caches)) && not t)
    (ap (λ (t : Bool). eqb f first || t) (sym (between_none (first + 1) f)) ∙ between_first f first 0))
    ∙ taken_runs s online st 0 first

-- from a cache: the frame put last
from_cache_free : (here out isolated rest : Bool) → (not (here || out) && not isolated && not rest) ≡ (not out && not isolated && not (here || rest))
from_cache_free true out isolated rest = sym (and-false (not out && not isolated))
from_cache_free false out isolated rest = refl

pub cached_taken : (s : Sizes) (online : Kind) (st : SpaceState) (who first page : ℕ) (rest : List ℕ) (kind : Kind) → IsSpace s online st → get_or st.caches who [] ≡ first ∷ rest → runs_of s online (after_lease st (Some (record { frame = first; caches = set st.caches who rest })) page kind) ≡ runs_of s online st
cached_taken s online st who first page rest kind h held =
    let there : list_any (is_in first) st.caches ≡ true = any-get_or first st.caches who (ap (is_in first) held ∙ or_left _ _ (eq-eqb first first refl)) in
    let same : numbers_where (λ f. is_in f (free_frames s st) && not false) (frame_count s) ≡ free_frames s st =
    numbers_agree _ _ (frame_count s) (λ f l. and-true (is_in f (free_frames s st)) ∙ is_in-numbers_where (λ k. not (is_some (out_for st k)) && not (is_frame_in s st.isolated k) && not (list_any (is_in k) st.caches)) (frame_count s) f l) in
    leased_runs s online st (record { frame = first; caches = set st.caches who rest }) page kind (λ f. false) h.out (h.cached_there first there) (h.cached_not_isolated first there) (λ f.
    from_cache_free (eqb f first) (is_some (out_for st f)) (is_frame_in s st.isolated f) (list_any (is_in f) (set st.caches who rest))
    ∙ (ap (λ (t : Bool). not (is_some (out_for st f)) && not (is_frame_in s st.isolated f) && not t) (sym (any-set_rest f st.caches who first rest held))
    ∙ sym (and-true _)))
    ∙ ap (λ (xs : List ℕ). record (runs_of s online st) { free = xs }) same
