-- The caches behind a frame given back, and behind a drain.
use Rattle.std.proofs.Common.{◌≡◌, ℕ, ◌<◌, ◌≤◌, zero, suc, Bool, true, false, ◌||◌, List, [], ◌∷◌, ◌++◌, map, take, length, get_or, refl, sym, ap, ◌∙◌, subst, arith, inl, inr}
use Rattle.std.specs.List.{list_any, concat, filter}
use Rattle.std.proofs.Math.Dec.{eqb}
use Rattle.std.proofs.Math.ListN.{set}
use Rattle.std.proofs.lemmas.Bool.{eqb-true, eq-eqb, ne_eqb, or_left, or_right, or_cases, both_ways, false_from_ne_true, cases_lt, cases_eq}
use Rattle.std.proofs.lemmas.List.{take_all, take_more, set_past, length-set, length-map, length-take, get_or-set_same, get_or-set_other}
use Rattle.evac_model.specs.Numbers.{is_in, AreDistinct}
use Rattle.evac_model.specs.SpaceJournal.{put_back}
use Rattle.frame_cache.specs.Drains.{AreCaches}
use Rattle.frame_cache.proofs.Members.{distinct_apart}
use Rattle.space.proofs.Members.{any-get_or, any-set_in, any-set_same, any-set_new, any-set_gone, is_in_take, distinct-get_or, distinct-set, distinct-take}
use Rattle.evac_model.proofs.Members.{is_in-append}
use Rattle.evac_model.proofs.Filters.{length-filter-le}

-- a drain leaves caches
few_filtered : (p : ℕ → Bool) (caches : List (List ℕ)) (who : ℕ) → length (get_or (map (filter p) caches) who []) ≤ length (get_or caches who [])
few_filtered p [] who = omega arith
few_filtered p (xs ∷ xss) zero = length-filter-le p xs
few_filtered p (xs ∷ xss) (suc who) = few_filtered p xss who

pub caches_filtered : (p : ℕ → Bool) (caches : List (List ℕ)) → AreCaches caches → AreCaches (map (filter p) caches)
caches_filtered p caches h = record {
  callers = length-map caches (filter p) ∙ h.callers;
  few = λ who. omega (arith, few_filtered p caches who, h.few who);
}

-- so do one that is set, and a frame put back
few_take : (xs : List ℕ) → length (take 8 xs) ≤ 8
few_take xs = omega (arith, length-take 8 xs)

pub set_caches : (caches : List (List ℕ)) (who : ℕ) (xs : List ℕ) → AreCaches caches → length xs ≤ 8 → AreCaches (set caches who xs)
set_caches caches who xs h few = record {
  callers = length-set caches who xs ∙ h.callers;
  few = λ k. elim (cases_eq k who) [
    | inl e ↦ elim (cases_lt who (length caches)) [
      | inl l ↦
          let here : get_or (set caches who xs) k [] ≡ xs = ap (λ (i : ℕ). get_or (set caches who xs) i []) e ∙ get_or-set_same caches who xs [] l in
          omega (arith, ap (λ (ys : List ℕ). length ys) here, few)
      | inr g ↦
          omega (arith, ap (λ (cs : List (List ℕ)). length (get_or cs k [])) (set_past caches who xs g), h.few k)
    ]
    | inr other ↦
        omega (arith, ap (λ (ys : List ℕ). length ys) (get_or-set_other caches who k xs [] other), h.few k)
  ];
}

pub caches_put_back : (caches : List (List ℕ)) (who frame : ℕ) → AreCaches caches → AreCaches (put_back caches who frame)
caches_put_back caches who frame h =
    set_caches caches who (take 8 (frame ∷ get_or caches who [])) h (few_take (frame ∷ get_or caches who []))

-- a frame that is in no cache, put back: what is in a cache then
is_in_new : (b frame : ℕ) (old : List ℕ) → is_in b (take 8 (frame ∷ old)) ≡ true → (b ≡ frame → ⊥) → is_in b old ≡ true
is_in_new b frame old h ne = elim (or_cases (eqb b frame) (is_in b old) (is_in_take b 8 (frame ∷ old) h)) [
  | inl here ↦ absurd (ne (eqb-true b frame here))
  | inr there ↦ there
]

pub distinct_put_back : (caches : List (List ℕ)) (who frame : ℕ) → AreDistinct (concat caches) → list_any (is_in frame) caches ≡ false → AreDistinct (concat (put_back caches who frame))
distinct_put_back caches who frame h none =
    let old : List ℕ = get_or caches who [] in
    let fresh : is_in frame old ≡ false = false_from_ne_true (is_in frame old) (λ e. both_ways _ none (any-get_or frame caches who e)) in
    let hnew : AreDistinct (take 8 (frame ∷ old)) = distinct-take 8 (frame ∷ old) (fresh, distinct-get_or caches who h) in
    distinct-set caches who (take 8 (frame ∷ old)) h hnew
    (λ b there. elim (cases_eq b frame) [
      | inl e ↦ inr (ap (λ (z : ℕ). list_any (is_in z) caches) e ∙ none)
      | inr ne ↦ inl (is_in_new b frame old there ne)
    ])

pub put_back_frame : (caches : List (List ℕ)) (who frame : ℕ) → who < length caches → list_any (is_in frame) (put_back caches who frame) ≡ true
put_back_frame caches who frame w =
    any-set_new frame caches who (take 8 (frame ∷ get_or caches who [])) w (or_left _ _ (eq-eqb frame frame refl))

take_seven : (frame : ℕ) (old : List ℕ) → take 8 (frame ∷ old) ≡ frame ∷ take 7 old
take_seven frame old = refl

other_in_new : (b frame : ℕ) (old : List ℕ) → (b ≡ frame → ⊥) → is_in b (take 8 (frame ∷ old)) ≡ is_in b (take 7 old)
other_in_new b frame old ne = ap (λ (t : Bool). t || is_in b (take 7 old)) (ne_eqb b frame ne)

-- where none is pushed out, other frames are as before
pub put_back_other : (caches : List (List ℕ)) (who frame b : ℕ) → length (get_or caches who []) ≤ 7 → (b ≡ frame → ⊥) → list_any (is_in b) (put_back caches who frame) ≡ list_any (is_in b) caches
put_back_other caches who frame b few ne =
    any-set_same b caches who (take 8 (frame ∷ get_or caches who []))
    (other_in_new b frame (get_or caches who []) ne ∙ ap (is_in b) (take_all 7 (get_or caches who []) few))

-- of eight, the last is pushed out
eight : (old : List ℕ) → length old ≡ 8 → old ≡ take 7 old ++ get_or old 7 0 ∷ []
eight old h = sym (take_all 8 old (omega arith)) ∙ take_more old 7 0 (omega arith)

or_none : (x y : Bool) → y ≡ false → (x || (y || false)) ≡ x
or_none true y h = refl
or_none false y h = rw h refl

pub put_back_kept : (caches : List (List ℕ)) (who frame b : ℕ) → length (get_or caches who []) ≡ 8 → (b ≡ frame → ⊥) → (b ≡ get_or (get_or caches who []) 7 0 → ⊥) → list_any (is_in b) (put_back caches who frame) ≡ list_any (is_in b) caches
put_back_kept caches who frame b all ne other =
    let old : List ℕ = get_or caches who [] in
    any-set_same b caches who (take 8 (frame ∷ old))
    (other_in_new b frame old ne
    ∙ sym (ap (is_in b) (eight old all) ∙ is_in-append b (take 7 old) (get_or old 7 0 ∷ []) ∙ or_none (is_in b (take 7 old)) (eqb b (get_or old 7 0)) (ne_eqb b (get_or old 7 0) other)))

last_in : (old : List ℕ) → length old ≡ 8 → is_in (get_or old 7 0) old ≡ true
last_in old h =
    let p : ℕ = get_or old 7 0 in
    ap (is_in p) (eight old h) ∙ is_in-append p (take 7 old) (p ∷ []) ∙ or_right (is_in p (take 7 old)) _ (or_left _ _ (eq-eqb p p refl))

pub pushed_in : (caches : List (List ℕ)) (who : ℕ) → length (get_or caches who []) ≡ 8 → list_any (is_in (get_or (get_or caches who []) 7 0)) caches ≡ true
pushed_in caches who all = any-get_or _ caches who (last_in (get_or caches who []) all)

last_not_before : (old : List ℕ) → length old ≡ 8 → AreDistinct old → is_in (get_or old 7 0) (take 7 old) ≡ false
last_not_before old h d =
    let p : ℕ = get_or old 7 0 in
    distinct_apart p (take 7 old) (p ∷ []) (subst AreDistinct (eight old h) d) (or_left _ _ (eq-eqb p p refl))

pub put_back_gone : (caches : List (List ℕ)) (who frame : ℕ) → length (get_or caches who []) ≡ 8 → AreDistinct (concat caches) → (get_or (get_or caches who []) 7 0 ≡ frame → ⊥) → list_any (is_in (get_or (get_or caches who []) 7 0)) (put_back caches who frame) ≡ false
put_back_gone caches who frame all h ne =
    let old : List ℕ = get_or caches who [] in
    let p : ℕ = get_or old 7 0 in
    any-set_gone p caches who (take 8 (frame ∷ old)) h (last_in old all)
    (other_in_new p frame old ne ∙ last_not_before old all (distinct-get_or caches who h))

-- what is in a cache then is the frame, or was in one before
pub put_back_from : (caches : List (List ℕ)) (who frame b : ℕ) → list_any (is_in b) (put_back caches who frame) ≡ true → (b ≡ frame → ⊥) → list_any (is_in b) caches ≡ true
put_back_from caches who frame b h ne =
    elim (any-set_in b caches who (take 8 (frame ∷ get_or caches who [])) h) [
      | inl new ↦ any-get_or b caches who (is_in_new b frame (get_or caches who []) new ne)
      | inr old ↦ old
    ]
