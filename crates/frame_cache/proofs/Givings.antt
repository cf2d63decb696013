-- Frames that are given one after another.
use Rattle.std.proofs.Common.{◌≡◌, ℕ, ◌+◌, ◌<◌, ◌≤◌, Bool, true, false, ◌||◌, ◌&&◌, not, cond, List, [], ◌∷◌, ◌++◌, take, drop, reverse, length, get_or, refl, sym, ap, subst, ◌∙◌, arith}
use Rattle.std.specs.List.{list_any, concat, filter}
use Rattle.std.proofs.Math.Dec.{eqb}
use Rattle.std.proofs.lemmas.Bool.{false≢true, eqb-true, and_left, or_from, or_left}
use Rattle.std.proofs.lemmas.List.Folds.{list_any_more, list_any_at, concat-append}
use Rattle.std.proofs.lemmas.List.{take-append-drop, drop_more, take_more, take_all, reverse-append, reverse-reverse, length-reverse, length-take-le}
use Rattle.evac_model.specs.Geometry.{frame_count}
use Rattle.evac_model.specs.Numbers.{numbers_where, is_in, is_between, AreDistinct}
use Rattle.evac_model.specs.SpaceJournal.{is_frame_in}
use Rattle.evac_model.proofs.Numbers.{numbers_agree, is_in-numbers_where, numbers_rising}
use Rattle.buddy.specs.FreeFrames.{FreeFrames, with_frames, AreApart}
use Rattle.frame_cache.specs.Drains.{AreRising, IsGivable, IsDrainable, IsDrainableCache}
use Rattle.frame_cache.proofs.Members.{is_in_more, is_in-reverse, is_in-get_or, is_in_before, is_in-concat, distinct_left, distinct_right, distinct_apart, distinct-reverse}
use Rattle.evac_model.proofs.Filters.{length-filter-le}
use Rattle.evac_model.proofs.Ranges.{between_one}
use Rattle.std.proofs.Math.Bool.{or-false, and-or_distrib_right}
use Rattle.evac_model.proofs.Members.{is_in-append}

-- the same frames
pub with_frames_same : (p q : ℕ → Bool) (r : FreeFrames) → ((f : ℕ) → p f ≡ q f) → with_frames p r ≡ with_frames q r
with_frames_same p q r same = ap (λ (t : ℕ → Bool). with_frames t r) (λ i f. same f i)

pub with_one : (b : ℕ) (r : FreeFrames) → with_frames (is_between b (b + 1)) r ≡ with_frames (λ f. eqb f b) r
with_one b r = with_frames_same (is_between b (b + 1)) (λ f. eqb f b) r (λ f. between_one b f)

-- no frames
or_none : (x p v : Bool) → p ≡ false → (x || (p && v)) ≡ x
or_none x p v none = ap (λ (t : Bool). x || (t && v)) none ∙ or-false x

pub with_none : (p : ℕ → Bool) (r : FreeFrames) → AreRising r → ((f : ℕ) → p f ≡ false) → with_frames p r ≡ r
with_none p r rising none =
    let n : ℕ = frame_count r.sizes in
    let free : numbers_where (λ f. is_in f r.free || (p f && not (is_frame_in r.sizes r.withdrawn f))) n ≡ r.free =
    numbers_agree _ _ n (λ f l. or_none (is_in f r.free) (p f) (not (is_frame_in r.sizes r.withdrawn f)) (none f)) ∙ sym rising.free in
    let aside : numbers_where (λ f. is_in f r.aside || (p f && is_frame_in r.sizes r.withdrawn f)) n ≡ r.aside =
    numbers_agree _ _ n (λ f l. or_none (is_in f r.aside) (p f) (is_frame_in r.sizes r.withdrawn f) (none f)) ∙ sym rising.aside in
    λ i. record r { free = free i; aside = aside i }

-- the lists stay rising
pub rising-from_apart : (r : FreeFrames) → AreApart r → AreRising r
rising-from_apart r apart = record { within = apart.within; free = apart.free; aside = apart.aside }

pub rising-with_frames : (p : ℕ → Bool) (r : FreeFrames) → AreRising r → AreRising (with_frames p r)
rising-with_frames p r rising = record {
  within = rising.within;
  free = numbers_rising (λ f. is_in f r.free || (p f && not (is_frame_in r.sizes r.withdrawn f))) (frame_count r.sizes);
  aside = numbers_rising (λ f. is_in f r.aside || (p f && is_frame_in r.sizes r.withdrawn f)) (frame_count r.sizes);
}

-- two lots of frames are one
or_both : (x p q v : Bool) → ((x || (p && v)) || (q && v)) ≡ (x || ((p || q) && v))
or_both true p q v = refl
or_both false true true true = refl
or_both false true true false = refl
or_both false true false true = refl
or_both false true false false = refl
or_both false false q v = refl

pub with_both : (p q : ℕ → Bool) (r : FreeFrames) → with_frames q (with_frames p r) ≡ with_frames (λ f. p f || q f) r
with_both p q r =
    let n : ℕ = frame_count r.sizes in
    let w : ℕ → Bool = is_frame_in r.sizes r.withdrawn in
    let twice : (xs : List ℕ) (v : ℕ → Bool) → numbers_where (λ f. is_in f (numbers_where (λ g. is_in g xs || (p g && v g)) n) || (q f && v f)) n ≡ numbers_where (λ f. is_in f xs || ((p f || q f) && v f)) n =
    λ xs v. numbers_agree _ _ n (λ f l. ap (λ (t : Bool). t || (q f && v f)) (is_in-numbers_where (λ g. is_in g xs || (p g && v g)) n f l) ∙ or_both (is_in f xs) (p f) (q f) (v f)) in
    λ i. record r { free = twice r.free (λ f. not (w f)) i; aside = twice r.aside w i }

-- a frame that isn't among those given can still be given
pub givable_still : (p : ℕ → Bool) (r : FreeFrames) (f : ℕ) → IsGivable r f → p f ≡ false → IsGivable (with_frames p r) f
givable_still p r f givable none = (
  givable.0,
  (
    is_in-numbers_where (λ g. is_in g r.free || (p g && not (is_frame_in r.sizes r.withdrawn g))) (frame_count r.sizes) f givable.0 ∙ or_from _ _ givable.1.0 (and_left _ _ none),
    is_in-numbers_where (λ g. is_in g r.aside || (p g && is_frame_in r.sizes r.withdrawn g)) (frame_count r.sizes) f givable.0 ∙ or_from _ _ givable.1.1 (and_left _ _ none),
  ),
)

-- one frame more of a cache, which passes the test or doesn't
and_here : (a e t : Bool) → (e ≡ true → t ≡ true) → ((a && t) || e) ≡ ((a || e) && t)
and_here true true true h = refl
and_here true true false h = absurd (false≢true (h refl))
and_here true false true h = refl
and_here true false false h = refl
and_here false true true h = refl
and_here false true false h = absurd (false≢true (h refl))
and_here false false t h = refl

and_elsewhere : (a e t : Bool) → (e ≡ true → t ≡ false) → (a && t) ≡ ((a || e) && t)
and_elsewhere true e t h = refl
and_elsewhere false true true h = absurd (false≢true (sym (h refl)))
and_elsewhere false true false h = refl
and_elsewhere false false t h = refl

pub given_more : (t : ℕ → Bool) (r₀ r₁ r₂ : FreeFrames) (xs : List ℕ) (i x : ℕ) → i < length xs → x ≡ get_or xs i 0 → t x ≡ true → r₁ ≡ with_frames (λ f. is_in f (take i xs) && t f) r₀ → r₂ ≡ with_frames (λ f. eqb f x) r₁ → r₂ ≡ with_frames (λ f. is_in f (take (i + 1) xs) && t f) r₀
given_more t r₀ r₁ r₂ xs i x within is passes before after =
    after
    ∙ (ap (with_frames (λ f. eqb f x)) before
    ∙ (with_both (λ f. is_in f (take i xs) && t f) (λ f. eqb f x) r₀
    ∙ with_frames_same _ _ r₀ (λ f. and_here (is_in f (take i xs)) (eqb f x) (t f) (λ e. ap t (eqb-true f x e) ∙ passes) ∙ ap (λ (b : Bool). b && t f) (ap (λ (z : ℕ). is_in f (take i xs) || eqb f z) is ∙ sym (is_in_more f xs i within)))))

pub given_same : (t : ℕ → Bool) (r₀ r₁ : FreeFrames) (xs : List ℕ) (i x : ℕ) → i < length xs → x ≡ get_or xs i 0 → t x ≡ false → r₁ ≡ with_frames (λ f. is_in f (take i xs) && t f) r₀ → r₁ ≡ with_frames (λ f. is_in f (take (i + 1) xs) && t f) r₀
given_same t r₀ r₁ xs i x within is fails before =
    before
    ∙ with_frames_same _ _ r₀ (λ f. and_elsewhere (is_in f (take i xs)) (eqb f x) (t f) (λ e. ap t (eqb-true f x e) ∙ fails) ∙ ap (λ (b : Bool). b && t f) (ap (λ (z : ℕ). is_in f (take i xs) || eqb f z) is ∙ sym (is_in_more f xs i within)))

-- the next frame of a cache can be given
pub givable_next : (t : ℕ → Bool) (r₀ r₁ : FreeFrames) (xs : List ℕ) (i x : ℕ) → IsDrainableCache xs r₀ → i < length xs → x ≡ get_or xs i 0 → r₁ ≡ with_frames (λ f. is_in f (take i xs) && t f) r₀ → IsGivable r₁ x
givable_next t r₀ r₁ xs i x h within is before =
    let next : IsGivable (with_frames (λ f. is_in f (take i xs) && t f) r₀) (get_or xs i 0) =
    givable_still (λ f. is_in f (take i xs) && t f) r₀ (get_or xs i 0) (h.givable (get_or xs i 0) (is_in-get_or xs i within)) (and_left _ _ (is_in_before xs i within h.distinct)) in
    subst (λ (r : FreeFrames). IsGivable r x) (sym before) (subst (λ (z : ℕ). IsGivable (with_frames (λ f. is_in f (take i xs) && t f) r₀) z) (sym is) next)

pub drainable-reverse : (cache : List ℕ) (r : FreeFrames) → IsDrainableCache cache r → IsDrainableCache (reverse cache) r
drainable-reverse cache r h =
    record { distinct = distinct-reverse cache h.distinct; givable = λ f there. h.givable f (sym (is_in-reverse f cache) ∙ there) }

-- the next cache, and what it gives

pub caches_given_more : (t : ℕ → Bool) (r₀ r₁ r₂ : FreeFrames) (xss : List (List ℕ)) (i : ℕ) → i < length xss → r₁ ≡ with_frames (λ f. list_any (is_in f) (take i xss) && t f) r₀ → r₂ ≡ with_frames (λ f. is_in f (get_or xss i []) && t f) r₁ → r₂ ≡ with_frames (λ f. list_any (is_in f) (take (i + 1) xss) && t f) r₀
caches_given_more t r₀ r₁ r₂ xss i within before after =
    after
    ∙ (ap (with_frames (λ f. is_in f (get_or xss i []) && t f)) before
    ∙ (with_both (λ f. list_any (is_in f) (take i xss) && t f) (λ f. is_in f (get_or xss i []) && t f) r₀
    ∙ with_frames_same _ _ r₀ (λ f. sym (and-or_distrib_right (list_any (is_in f) (take i xss)) (is_in f (get_or xss i [])) (t f)) ∙ ap (λ (b : Bool). b && t f) (sym (list_any_more (is_in f) xss i [] within)))))

pub drainable_next : (t : ℕ → Bool) (r₀ r₁ : FreeFrames) (xss : List (List ℕ)) (i : ℕ) → IsDrainable xss r₀ → i < length xss → r₁ ≡ with_frames (λ f. list_any (is_in f) (take i xss) && t f) r₀ → IsDrainableCache (get_or xss i []) r₁
drainable_next t r₀ r₁ xss i h within before =
    let given : ℕ → Bool = λ f. list_any (is_in f) (take i xss) && t f in
    let cut : concat xss ≡ concat (take i xss) ++ (get_or xss i [] ++ concat (drop (i + 1) xss)) =
    ap concat (sym (take-append-drop i xss)) ∙ (concat-append (take i xss) (drop i xss) ∙ ap (λ (ys : List (List ℕ)). concat (take i xss) ++ concat ys) (drop_more xss i [] within)) in
    let distinct : AreDistinct (concat (take i xss) ++ (get_or xss i [] ++ concat (drop (i + 1) xss))) = subst AreDistinct cut h.distinct in
    let next : IsDrainableCache (get_or xss i []) (with_frames given r₀) = record {
      distinct = distinct_left (get_or xss i []) (concat (drop (i + 1) xss)) (distinct_right (concat (take i xss)) _ distinct);
      givable = λ f there. givable_still given r₀ f
          (h.givable f (list_any_at (is_in f) xss i [] within there))
          (and_left _ _ (sym (is_in-concat f (take i xss)) ∙ distinct_apart f (concat (take i xss)) _ distinct (is_in-append f (get_or xss i []) (concat (drop (i + 1) xss)) ∙ or_left _ _ there)));
    } in
    subst (IsDrainableCache (get_or xss i [])) (sym before) next

-- at the ends
pub given_none : (t : ℕ → Bool) (r : FreeFrames) → AreRising r → r ≡ with_frames (λ f. false && t f) r
given_none t r rising = sym (with_none (λ f. false && t f) r rising (λ f. refl))

pub given_all : (t : ℕ → Bool) (r₀ r₁ : FreeFrames) (cache xs : List ℕ) (i : ℕ) → xs ≡ reverse cache → length xs ≤ i → r₁ ≡ with_frames (λ f. is_in f (take i xs) && t f) r₀ → r₁ ≡ with_frames (λ f. is_in f cache && t f) r₀
given_all t r₀ r₁ cache xs i is all before =
    before ∙ with_frames_same _ _ r₀ (λ f. ap (λ (b : Bool). b && t f) (ap (is_in f) (take_all i xs all ∙ is) ∙ is_in-reverse f cache))

-- a cache's frames that fail the test, so far
kept_more : (p : ℕ → Bool) (xs : List ℕ) (i x : ℕ) → i < length xs → x ≡ get_or xs i 0 → filter p (reverse (take (i + 1) xs)) ≡ cond (p x) (x ∷ filter p (reverse (take i xs))) (filter p (reverse (take i xs)))
kept_more p xs i x within is =
    ap (λ (ys : List ℕ). filter p (reverse ys)) (take_more xs i 0 within)
    ∙ (ap (filter p) (reverse-append (take i xs) (get_or xs i 0 ∷ []))
    ∙ ap (λ (z : ℕ). cond (p z) (z ∷ filter p (reverse (take i xs))) (filter p (reverse (take i xs)))) (sym is))

kept_few : (p : ℕ → Bool) (xs : List ℕ) (i x : ℕ) → i < length xs → length xs ≤ 8 → take 8 (x ∷ filter p (reverse (take i xs))) ≡ x ∷ filter p (reverse (take i xs))
kept_few p xs i x within few =
    take_all 8 (x ∷ filter p (reverse (take i xs))) (omega (arith, length-filter-le p (reverse (take i xs)), length-reverse (take i xs), length-take-le i xs (omega arith)))

-- kept is the cache of those frames before, and behind is that after one frame more
pub kept_without : (t : ℕ → Bool) (kept xs : List ℕ) (i x : ℕ) → i < length xs → x ≡ get_or xs i 0 → t x ≡ true → kept ≡ filter (λ f. not (t f)) (reverse (take i xs)) → kept ≡ filter (λ f. not (t f)) (reverse (take (i + 1) xs))
kept_without t kept xs i x within is passes before =
    let shorter : List ℕ = filter (λ f. not (t f)) (reverse (take i xs)) in
    before ∙ sym (kept_more (λ f. not (t f)) xs i x within is ∙ ap (λ (b : Bool). cond (not b) (x ∷ shorter) shorter) passes)

pub kept_with : (t : ℕ → Bool) (kept behind xs : List ℕ) (i x : ℕ) → i < length xs → length xs ≤ 8 → x ≡ get_or xs i 0 → t x ≡ false → kept ≡ filter (λ f. not (t f)) (reverse (take i xs)) → behind ≡ take 8 (x ∷ kept) → behind ≡ filter (λ f. not (t f)) (reverse (take (i + 1) xs))
kept_with t kept behind xs i x within few is fails before after =
    let shorter : List ℕ = filter (λ f. not (t f)) (reverse (take i xs)) in
    after
    ∙ (ap (λ (ys : List ℕ). take 8 (x ∷ ys)) before
    ∙ (kept_few (λ f. not (t f)) xs i x within few
    ∙ sym (kept_more (λ f. not (t f)) xs i x within is ∙ ap (λ (b : Bool). cond (not b) (x ∷ shorter) shorter) fails)))

pub kept_all : (p : ℕ → Bool) (cache xs : List ℕ) (i : ℕ) → xs ≡ reverse cache → length xs ≤ i → filter p (reverse (take i xs)) ≡ filter p cache
kept_all p cache xs i is all =
    ap (λ (ys : List ℕ). filter p (reverse ys)) (take_all i xs all ∙ is) ∙ ap (filter p) (reverse-reverse cache)
