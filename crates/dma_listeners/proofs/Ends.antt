-- Numbers that pass a test, below an end that grows by one.
use Rattle.std.proofs.Common.{◌≡◌, ℕ, zero, suc, ◌+◌, ◌-◌, ◌<◌, ◌≤◌, Bool, true, false, cond, not, ◌&&◌, ◌||◌, nat_lt, List, [], ◌∷◌, ◌++◌, length, get_or, count_by, Option, None, is_some, refl, sym, ap, ◌∙◌, arith, inl, inr, add-zero, zero-add}
use Rattle.std.specs.List.{filter, range_with_len}
use Rattle.std.proofs.Math.Bool.{or-true, or-false, and-true, and-false}
use Rattle.std.proofs.Math.Dec.{eqb}
use Rattle.std.proofs.lemmas.Bool.{cases_lt, cases_eq, eq-eqb, ne_eqb, or_from, true≢false}
use Rattle.std.proofs.lemmas.Bool.Decides.{nat_tests}
use Rattle.std.proofs.lemmas.List.{append-nil, length-append}
use Rattle.std.proofs.lemmas.List.Elements.{filter_agree}
use Rattle.std.proofs.lemmas.List.Sums.{sum_by-cons}
use Rattle.evac_model.specs.Numbers.{is_in, is_between, numbers_where, with_range, without_range, IsRisingBelow}
use Rattle.evac_model.specs.DeviceAnswer.{are_unplugged}
use Rattle.evac_model.proofs.Booleans.{and_not}
use Rattle.evac_model.proofs.Filters.{filter-filter}
use Rattle.evac_model.proofs.Ranges.{between_one, between_below, between_above, between_inside, range-list_all}
use Rattle.evac_model.proofs.Numbers.{numbers_agree, is_in-numbers_where, is_in-numbers_where_past, numbers_where-none}
use Rattle.evac_model.proofs.Unions.{numbers_bound, with_range-below, without_range-below, is_in-with_range, rising-with_range}

cond_append : {X : Type 0} (t : Bool) (x : X) (xs ys : List X) → cond t (x ∷ xs) xs ++ ys ≡ cond t (x ∷ (xs ++ ys)) (xs ++ ys)
cond_append true x xs ys = refl
cond_append false x xs ys = refl

filter_range_next : (p : ℕ → Bool) (a n : ℕ) → filter p (range_with_len a (suc n)) ≡ filter p (range_with_len a n) ++ cond (p (a + n)) ((a + n) ∷ []) []
filter_range_next p a zero = rw add-zero refl
filter_range_next p a (suc n) =
    let shift : a + 1 + n ≡ a + suc n = omega arith in
    let rest : filter p (range_with_len (a + 1) (suc n)) ≡ filter p (range_with_len (a + 1) n) ++ cond (p (a + suc n)) ((a + suc n) ∷ []) [] =
    filter_range_next p (a + 1) n ∙ ap (λ (k : ℕ). filter p (range_with_len (a + 1) n) ++ cond (p k) (k ∷ []) []) shift in
    ap (λ (xs : List ℕ). cond (p a) (a ∷ xs) xs) rest
    ∙ sym (cond_append (p a) a (filter p (range_with_len (a + 1) n)) (cond (p (a + suc n)) ((a + suc n) ∷ []) []))

-- the next number comes behind the others, where it passes
pub numbers_next : (p : ℕ → Bool) (n : ℕ) → numbers_where p (n + 1) ≡ numbers_where p n ++ cond (p n) (n ∷ []) []
numbers_next p n = rw zero-add at (ap (numbers_where p) add-one ∙ filter_range_next p 0 n)
  where
    add-one : n + 1 ≡ suc n
    add-one = omega arith

pub numbers_next-passes : (p : ℕ → Bool) (n : ℕ) → p n ≡ true → numbers_where p (n + 1) ≡ numbers_where p n ++ n ∷ []
numbers_next-passes p n e = numbers_next p n ∙ ap (λ (t : Bool). numbers_where p n ++ cond t (n ∷ []) []) e

pub numbers_next-fails : (p : ℕ → Bool) (n : ℕ) → p n ≡ false → numbers_where p (n + 1) ≡ numbers_where p n
numbers_next-fails p n e = numbers_next p n ∙ ap (λ (t : Bool). numbers_where p n ++ cond t (n ∷ []) []) e ∙ append-nil (numbers_where p n)

-- no fewer pass below a greater end
length_more : (p : ℕ → Bool) (n d : ℕ) → length (numbers_where p n) ≤ length (numbers_where p (n + d))
length_more p n zero = rw add-zero (omega arith)
length_more p n (suc d) =
    let shift : n + suc d ≡ n + d + 1 = omega arith in
    let more : length (numbers_where p (n + suc d)) ≡ length (numbers_where p (n + d)) + length (cond (p (n + d)) ((n + d) ∷ []) []) =
    ap (λ (k : ℕ). length (numbers_where p k)) shift ∙ ap (λ (xs : List ℕ). length xs) (numbers_next p (n + d)) ∙ length-append (numbers_where p (n + d)) (cond (p (n + d)) ((n + d) ∷ []) []) in
    omega (arith, more, length_more p n d)

pub length_below : (p : ℕ → Bool) (n m : ℕ) → n ≤ m → length (numbers_where p n) ≤ length (numbers_where p m)
length_below p n m h =
    let gap : n + (m - n) ≡ m = omega arith in
    rw gap at (length_more p n (m - n))

-- one that passes below an end is counted there
pub length_passes : (p : ℕ → Bool) (n m : ℕ) → p n ≡ true → n < m → length (numbers_where p n) + 1 ≤ length (numbers_where p m)
length_passes p n m e h =
    let next : length (numbers_where p (n + 1)) ≡ length (numbers_where p n) + 1 =
    ap (λ (xs : List ℕ). length xs) (numbers_next-passes p n e) ∙ length-append (numbers_where p n) (n ∷ []) in
    omega (arith, next, length_below p (n + 1) m (omega arith))

-- those of a rising list below a lower end
pub below-numbers : (p : ℕ → Bool) (k m : ℕ) → k ≤ m → filter (λ x. nat_lt x k) (numbers_where p m) ≡ numbers_where p k
below-numbers p k m h =
    filter-filter (λ x. nat_lt x k) p (range_with_len 0 m)
    ∙ numbers_bound (λ x. p x && nat_lt x k) m k (λ b l. past b (omega arith)) (λ b l. past b l)
    ∙ numbers_agree (λ x. p x && nat_lt x k) p k (λ b l. ap (λ (t : Bool). p b && t) (inside b l) ∙ and-true (p b))
  where
    inside : (b : ℕ) → b < k → nat_lt b k ≡ true
    inside b l = grind (arith, nat_tests)

    outside : (b : ℕ) → k ≤ b → nat_lt b k ≡ false
    outside b l = grind (arith, nat_tests)

    past : (b : ℕ) → k ≤ b → (p b && nat_lt b k) ≡ false
    past b l = ap (λ (t : Bool). p b && t) (outside b l) ∙ and-false (p b)

-- which numbers stand in a list that got the next number
in_next : (p : ℕ → Bool) (n k : ℕ) → p n ≡ true → is_in k (numbers_where p (n + 1)) ≡ (is_in k (numbers_where p n) || is_between n (n + 1) k)
in_next p n k e =
    elim (cases_lt k n) [
      | inl l ↦
          is_in-numbers_where p (n + 1) k (omega arith)
          ∙ sym (ap (λ (t : Bool). is_in k (numbers_where p n) || t) (between_one n k ∙ ne_eqb k n (λ q. omega (arith, q))) ∙ or-false (is_in k (numbers_where p n)) ∙ is_in-numbers_where p n k l)
      | inr g ↦ elim (cases_eq k n) [
        | inl q ↦
            is_in-numbers_where p (n + 1) k (omega (arith, q)) ∙ ap p q ∙ e
            ∙ sym (ap (λ (t : Bool). is_in k (numbers_where p n) || t) (between_one n k ∙ eq-eqb k n q) ∙ or-true (is_in k (numbers_where p n)))
        | inr ne ↦
            is_in-numbers_where_past p (n + 1) k (omega (arith, ne))
            ∙ sym (or_from (is_in k (numbers_where p n)) (is_between n (n + 1) k) (is_in-numbers_where_past p n k g) (between_one n k ∙ ne_eqb k n ne))
      ]
    ]

-- the next number taken in
pub with_next : (p : ℕ → Bool) (n : ℕ) → p n ≡ true → with_range n 1 (numbers_where p n) ≡ numbers_where p (n + 1)
with_next p n e =
    with_range-below n 1 (n + 1) (numbers_where p n) (λ b l. is_in-numbers_where_past p n b (omega (arith, l))) (omega arith)
    ∙ numbers_agree (λ k. is_in k (numbers_where p n) || is_between n (n + 1) k) p (n + 1)
    (λ k l. sym (in_next p n k e) ∙ is_in-numbers_where p (n + 1) k l)

-- a list without those that pass below an end, and then without the next
pub without_next : (p : ℕ → Bool) (n : ℕ) (xs : List ℕ) → p n ≡ true → without_range n 1 (filter (λ k. not (is_in k (numbers_where p n))) xs) ≡ filter (λ k. not (is_in k (numbers_where p (n + 1)))) xs
without_next p n xs e =
    filter-filter (λ k. not (is_between n (n + 1) k)) (λ k. not (is_in k (numbers_where p n))) xs
    ∙ filter_agree (λ k. not (is_in k (numbers_where p n)) && not (is_between n (n + 1) k)) (λ k. not (is_in k (numbers_where p (n + 1))))
    (λ k. and_not (is_in k (numbers_where p n)) (is_between n (n + 1) k) ∙ ap not (sym (in_next p n k e))) xs

-- no number of a list is left without all of them
all_in : (xs ys : List ℕ) → ((b : ℕ) → is_in b ys ≡ true → is_in b xs ≡ true) → filter (λ b. not (is_in b xs)) ys ≡ []
all_in xs [] h = refl
all_in xs (y ∷ ys) h =
    let here : is_in y xs ≡ true = h y (ap (λ (t : Bool). t || is_in y ys) (eq-eqb y y refl)) in
    let rest : filter (λ b. not (is_in b xs)) ys ≡ [] = all_in xs ys (λ b e. h b (ap (λ (t : Bool). eqb b y || t) e ∙ or-true (eqb b y))) in
    rw (here, rest) refl

pub without_self : (xs : List ℕ) → filter (λ b. not (is_in b xs)) xs ≡ []
without_self xs = all_in xs xs (λ b e. e)

-- a range taken in and out again, where no number of it was there
in_and_out : (t u : Bool) → (u ≡ true → t ≡ false) → ((t || u) && not u) ≡ t
in_and_out true true h = absurd (true≢false (h refl))
in_and_out false true h = refl
in_and_out true false h = refl
in_and_out false false h = refl

not_true : (t : Bool) → not t ≡ true → t ≡ false
not_true true e = absurd (true≢false (sym e))
not_true false e = refl

unplugged_in : (plugged : List ℕ) (first n b : ℕ) → are_unplugged plugged first n ≡ true → is_between first (first + n) b ≡ true → is_in b plugged ≡ false
unplugged_in plugged first n b u e =
    elim (cases_lt b first) [
      | inl l ↦ absurd (true≢false (sym e ∙ between_below first (first + n) b l))
      | inr f ↦ elim (cases_lt b (first + n)) [
        | inl l ↦ not_true (is_in b plugged) (range-list_all (λ k. not (is_in k plugged)) first n u b f l)
        | inr g ↦ absurd (true≢false (sym e ∙ between_above first (first + n) b g))
      ]
    ]

pub without_with : (region first n : ℕ) (plugged : List ℕ) → IsRisingBelow region plugged → first + n ≤ region → are_unplugged plugged first n ≡ true → without_range first n (with_range first n plugged) ≡ plugged
without_with region first n plugged r h u =
    without_range-below first n region (with_range first n plugged) (rising-with_range first n region plugged r h)
    ∙ numbers_agree (λ b. is_in b (with_range first n plugged) && not (is_between first (first + n) b)) (λ b. is_in b plugged) region
    (λ b l. ap (λ (t : Bool). t && not (is_between first (first + n) b)) (is_in-with_range first n plugged b) ∙ in_and_out (is_in b plugged) (is_between first (first + n) b) (unplugged_in plugged first n b u))
    ∙ sym r

-- all that lie below an end, taken out
pub without_all : (m : ℕ) (xs : List ℕ) → IsRisingBelow m xs → without_range 0 m xs ≡ []
without_all m xs r =
    without_range-below 0 m m xs r
    ∙ numbers_agree (λ b. is_in b xs && not (is_between 0 (0 + m) b)) (λ b. false) m
    (λ b l. ap (λ (t : Bool). is_in b xs && not t) (between_inside 0 (0 + m) b (omega arith) (omega (arith, l))) ∙ and-false (is_in b xs))
    ∙ numbers_where-none (λ b. false) m (λ b. refl)

-- so many of a list have something, as many as there are places that do
count_places : {X : Type 0} (xs : List (Option X)) (a : ℕ) (p : ℕ → Bool) → ((i : ℕ) → i < length xs → p (a + i) ≡ is_some (get_or xs i None)) → length (filter p (range_with_len a (length xs))) ≡ count_by is_some xs
count_places [] a p h = refl
count_places (x ∷ xs) a p h =
    let here : p a ≡ is_some x = rw add-zero at (h 0 (omega arith)) in
    let rest : length (filter p (range_with_len (a + 1) (length xs))) ≡ count_by is_some xs =
    count_places xs (a + 1) p (λ i l. (let shift : a + 1 + i ≡ a + suc i = omega arith in ap p shift ∙ h (suc i) (omega (arith, l)))) in
    length_front (p a) (is_some x) a (filter p (range_with_len (a + 1) (length xs))) (count_by is_some xs) here rest ∙ sym (sum_by-cons (λ o. cond (is_some o) 1 0) x xs)
  where
    length_front : (t u : Bool) (a : ℕ) (ys : List ℕ) (n : ℕ) → t ≡ u → length ys ≡ n → length (cond t (a ∷ ys) ys) ≡ cond u 1 0 + n
    length_front true true a ys n e q = omega (arith, q)
    length_front false false a ys n e q = omega (arith, q)
    length_front true false a ys n e q = absurd (true≢false e)
    length_front false true a ys n e q = absurd (true≢false (sym e))

pub count_live : {X : Type 0} (xs : List (Option X)) → count_by is_some xs ≡ length (numbers_where (λ k. is_some (get_or xs k None)) (length xs))
count_live xs = sym (count_places xs 0 (λ k. is_some (get_or xs k None)) (λ i l. ap (λ (k : ℕ). is_some (get_or xs k None)) (zero-add i)))
