-- Which numbers stand in lists joined and filtered, and in ranges.
use Rattle.std.proofs.Common.{◌≡◌, ◌≢◌, ◌↔◌, ℕ, zero, suc, ◌+◌, Bool, true, false, cond, ◌&&◌, ◌||◌, List, [], ◌∷◌, ◌++◌, refl, sym, ap, ◌∙◌, arith, inl, inr}
use Rattle.std.specs.List.{Contains, filter, range_with_len}
use Rattle.std.proofs.Math.Dec.{eqb}
use Rattle.std.proofs.Math.Bool.{or_assoc}
use Rattle.std.proofs.lemmas.Bool.{cases_lt, cases_eq, eqb-true, eq-eqb, ne_eqb, true≢false}
use Rattle.std.proofs.lemmas.Bool.Decides.{Decides-eqb, Decides-like, Decides-by_or}
use Rattle.std.proofs.lemmas.List.Elements.{Decides-contains}
use Rattle.evac_model.specs.Numbers.{is_in, is_between}
use Rattle.evac_model.proofs.Ranges.{between_inside, between_below, between_above, between_none}

-- a number that stands in a list is one of the list's
pub is_in-contains : (xs : List ℕ) (b : ℕ) → (is_in b xs ≡ true) ↔ Contains xs b
is_in-contains xs b =
    Decides-contains xs b (is_in b xs)
    (Decides-by_or (λ y. eqb b y) (λ y. y ≡ b) (is_in b) (λ y. Decides-like (eqb b y) (λ e. sym e) (λ e. sym e) (Decides-eqb b y)) refl (λ _ _. refl) xs)

pub is_in-append : (b : ℕ) (xs ys : List ℕ) → is_in b (xs ++ ys) ≡ (is_in b xs || is_in b ys)
is_in-append b [] ys = refl
is_in-append b (x ∷ xs) ys =
    ap (λ (t : Bool). eqb b x || t) (is_in-append b xs ys) ∙ sym (or_assoc (eqb b x) (is_in b xs) (is_in b ys))

in_cond : (b x : ℕ) (t : Bool) (xs : List ℕ) → is_in b (cond t (x ∷ xs) xs) ≡ ((t && eqb b x) || is_in b xs)
in_cond b x true xs = refl
in_cond b x false xs = refl

and_over_or : (e t i u : Bool) → (e ≡ true → u ≡ t) → ((t && e) || (i && u)) ≡ ((e || i) && u)
and_over_or true t i u h = step t i u (h refl)
  where
    step : (t i u : Bool) → u ≡ t → ((t && true) || (i && u)) ≡ ((true || i) && u)
    step true true true e = refl
    step true false true e = refl
    step true i false e = absurd (true≢false (sym e))
    step false i true e = absurd (true≢false e)
    step false true false e = refl
    step false false false e = refl
and_over_or false true i u h = refl
and_over_or false false i u h = refl

-- a number of a filtered list
pub is_in-filter : (test : ℕ → Bool) (b : ℕ) (xs : List ℕ) → is_in b (filter test xs) ≡ (is_in b xs && test b)
is_in-filter test b [] = refl
is_in-filter test b (x ∷ xs) =
    in_cond b x (test x) (filter test xs)
    ∙ (ap (λ (t : Bool). (test x && eqb b x) || t) (is_in-filter test b xs)
    ∙ and_over_or (eqb b x) (test x) (is_in b xs) (test b) (λ e. ap test (eqb-true b x e)))

-- a longer range, from its second number on
between_next : (first n b : ℕ) → b ≢ first → is_between (first + 1) (first + 1 + n) b ≡ is_between first (first + suc n) b
between_next first n b ne =
    elim (cases_lt b first) [
      | inl l ↦ between_below (first + 1) (first + 1 + n) b (omega arith) ∙ sym (between_below first (first + suc n) b l)
      | inr f ↦ elim (cases_lt b (first + suc n)) [
        | inl l ↦ between_inside (first + 1) (first + 1 + n) b (omega (arith, ne)) (omega arith) ∙ sym (between_inside first (first + suc n) b f l)
        | inr g ↦ between_above (first + 1) (first + 1 + n) b (omega arith) ∙ sym (between_above first (first + suc n) b g)
      ]
    ]

-- the first number of a range, or one of the rest
pub between_first : (b first n : ℕ) → (eqb b first || is_between (first + 1) (first + 1 + n) b) ≡ is_between first (first + suc n) b
between_first b first n =
    elim (cases_eq b first) [
      | inl e ↦ ap (λ (t : Bool). t || is_between (first + 1) (first + 1 + n) b) (eq-eqb b first e) ∙ sym (between_inside first (first + suc n) b (omega (arith, e)) (omega (arith, e)))
      | inr ne ↦ ap (λ (t : Bool). t || is_between (first + 1) (first + 1 + n) b) (ne_eqb b first ne) ∙ between_next first n b ne
    ]

-- a number stands in a range where it lies between its ends
pub is_in-range_with_len : (b first n : ℕ) → is_in b (range_with_len first n) ≡ is_between first (first + n) b
is_in-range_with_len b first zero = sym (between_none first b)
is_in-range_with_len b first (suc n) = ap (λ (t : Bool). eqb b first || t) (is_in-range_with_len b (first + 1) n) ∙ between_first b first n
