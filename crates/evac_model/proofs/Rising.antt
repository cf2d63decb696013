-- The numbers of a list, each once, rising; and lists with the same numbers in another order.
use Rattle.std.proofs.Common.{◌≡◌, ◌↔◌, ℕ, ◌+◌, ◌-◌, ◌^◌, ◌<◌, ◌≤◌, nat_lt, Bool, true, ◌||◌, List, [], ◌∷◌, length, get_or, Result, Ok, Err, MatchResult, refl, sym, ap, subst, ◌∙◌, arith, inl, inr}
use Rattle.std.specs.List.{Contains, list_any}
use Rattle.std.specs.List.Sorted.{IsPermutation, IsNonDecreasing, IsBinarySearchResult}
use Rattle.std.specs.Ordering.{nat_cmp}
use Rattle.std.specs.Result.{is_ok}
use Rattle.std.proofs.Math.Dec.{eqb}
use Rattle.std.proofs.lemmas.Bool.{cases_lt, false_from_ne_true, ltb-true, lt-ltb, and_parts, and_from}
use Rattle.std.proofs.lemmas.List.{get_or_default}
use Rattle.std.proofs.lemmas.List.Elements.{Contains-get_or}
use Rattle.std.proofs.lemmas.List.Sorted.{list_any-IsPermutation, searched}
use Rattle.evac_model.specs.Counts.{Calls, IsListed}
use Rattle.evac_model.specs.Numbers.{is_in, end_of, rising}
use Rattle.evac_model.proofs.Numbers.{numbers_agree, is_in-numbers_where, is_in-numbers_where_past}
use Rattle.evac_model.proofs.Members.{is_in-contains}
use Rattle.evac_model.proofs.Unions.{numbers_bound, is_in-end}

-- it has the numbers of the list
pub is_in-rising : (xs : List ℕ) (b : ℕ) → is_in b (rising xs) ≡ is_in b xs
is_in-rising xs b =
    elim (cases_lt b (end_of xs)) [
      | inl l ↦ is_in-numbers_where (λ k. is_in k xs) (end_of xs) b l
      | inr g ↦ is_in-numbers_where_past (λ k. is_in k xs) (end_of xs) b g ∙ sym (is_in-end xs b g)
    ]

pub rising_contains : (xs : List ℕ) (b : ℕ) → Contains (rising xs) b ↔ Contains xs b
rising_contains xs b = (
  λ h. (is_in-contains xs b).0 (sym (is_in-rising xs b) ∙ (is_in-contains (rising xs) b).1 h),
  λ h. (is_in-contains (rising xs) b).0 (is_in-rising xs b ∙ (is_in-contains xs b).1 h),
)

-- lists with the same numbers have the same numbers, rising
pub rising_same : (xs ys : List ℕ) → ((b : ℕ) → is_in b xs ≡ is_in b ys) → rising xs ≡ rising ys
rising_same xs ys h =
    numbers_bound (λ b. is_in b xs) (end_of xs) (end_of ys) (is_in-end xs) (λ b g. h b ∙ is_in-end ys b g)
    ∙ numbers_agree (λ b. is_in b xs) (λ b. is_in b ys) (end_of ys) (λ b l. h b)

-- the test of membership, as a test of each number
is_in_any : (b : ℕ) (xs : List ℕ) → is_in b xs ≡ list_any (λ y. eqb b y) xs
is_in_any b [] = refl
is_in_any b (x ∷ xs) = ap (λ (t : Bool). eqb b x || t) (is_in_any b xs)

-- another order has the same numbers
pub rising_permuted : (xs ys : List ℕ) → IsPermutation xs ys → rising ys ≡ rising xs
rising_permuted xs ys h =
    rising_same ys xs (λ b. is_in_any b ys ∙ sym (list_any-IsPermutation (λ y. eqb b y) xs ys h) ∙ sym (is_in_any b xs))

-- a search by halving finds a number just where the list has it
pub searched_in : (xs : List ℕ) (n : ℕ) (r : Result ℕ ℕ) → IsNonDecreasing xs → IsBinarySearchResult (λ y. nat_cmp y n) xs r → is_ok r ≡ is_in n xs
searched_in xs n r up found = by_result r (searched xs n r found (λ i j le l. up i j 0 le l))
  where
    none : (i k : ℕ) → ((j : ℕ) → j < i → get_or xs j 0 < n) → ((j : ℕ) → i ≤ j → j < length xs → n < get_or xs j 0) → k < length xs → get_or xs k n ≡ n → ⊥
    none i k before after l e =
        let at : get_or xs k 0 ≡ n = sym (get_or_default xs k n 0 l) ∙ e in
        elim (cases_lt k i) [ inl b ↦ absurd (omega (arith, before k b, at)) | inr g ↦ absurd (omega (arith, after k g l, at)) ]

    by_result : (r : Result ℕ ℕ) → MatchResult r (λ i. (i < length xs) × (get_or xs i 0 ≡ n)) (λ i. (i ≤ length xs) × ((k : ℕ) → k < i → get_or xs k 0 < n) × ((k : ℕ) → i ≤ k → k < length xs → n < get_or xs k 0)) → is_ok r ≡ is_in n xs
    by_result (Ok i) h = sym ((is_in-contains xs n).1 (subst (Contains xs) h.1 (Contains-get_or xs i 0 h.0)))
    by_result (Err i) h = sym (false_from_ne_true (is_in n xs) (λ t. let has = (is_in-contains xs n).0 t in none i has.0 h.1 h.2 has.1 has.2))

-- the next call is listed just where the list has its number; behind the largest number no call is
pub listed_next : (fails : List ℕ) (made : ℕ) (calls : Calls) (r : Bool) → record { fails = rising fails; made = made } ≡ calls → made < 2 ^ 64 - 1 → r ≡ is_in (made + 1) fails → (r ≡ true) ↔ IsListed calls
listed_next fails made calls r is l e =
    let same : r ≡ is_in (made + 1) (rising fails) = e ∙ sym (is_in-rising fails (made + 1)) in
    subst (λ (c : Calls). (r ≡ true) ↔ IsListed c) is
    (λ t. and_from _ _ (lt-ltb made (2 ^ 64 - 1) l) (sym same ∙ t), λ h. same ∙ (and_parts _ _ h).1)

pub listed_last : (fails : List ℕ) (made : ℕ) (calls : Calls) (r : Bool) → record { fails = rising fails; made = made } ≡ calls → 2 ^ 64 - 1 ≤ made → r ≡ nat_lt made (2 ^ 64 - 1) → (r ≡ true) ↔ IsListed calls
listed_last fails made calls r is g e =
    subst (λ (c : Calls). (r ≡ true) ↔ IsListed c) is
    (λ t. absurd (omega (arith, g, ltb-true made (2 ^ 64 - 1) (sym e ∙ t))), λ h. absurd (omega (arith, g, ltb-true made (2 ^ 64 - 1) (and_parts _ _ h).0)))
