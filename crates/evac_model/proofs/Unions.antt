-- Lists of numbers taken together, and ranges taken in and out.
use Rattle.std.proofs.Common.{◌≡◌, ℕ, zero, suc, ◌+◌, ◌<◌, ◌≤◌, max, Bool, true, false, cond, not, ◌&&◌, ◌||◌, List, [], ◌∷◌, refl, sym, ap, subst, ◌∙◌, arith, inl, inr}
use Rattle.std.specs.List.{filter, range_with_len}
use Rattle.std.proofs.lemmas.Bool.{cases_lt, cases_eq, ne_eqb, or_from}
use Rattle.std.proofs.Math.Bool.{or-false}
use Rattle.std.proofs.Math.Dec.{eqb}
use Rattle.evac_model.specs.Numbers.{is_in, is_between, numbers_where, end_of, united, with_range, without_range, IsRisingBelow}
use Rattle.evac_model.proofs.Filters.{filter-filter}
use Rattle.evac_model.proofs.Members.{is_in-filter, is_in-range_with_len}
use Rattle.evac_model.proofs.Ranges.{between_inside, between_below, between_above, between_none}
use Rattle.evac_model.proofs.Numbers.{numbers_agree, numbers_rising, is_in-numbers_where, is_in-numbers_where_past}

-- those of a range that pass, where none from a number on does
filter_range_cut : (p : ℕ → Bool) (a n m : ℕ) → n ≤ m → ((b : ℕ) → a + n ≤ b → p b ≡ false) → filter p (range_with_len a m) ≡ filter p (range_with_len a n)
filter_range_cut p a zero zero h none = refl
filter_range_cut p a zero (suc m) h none =
    let here : p a ≡ false = none a (omega arith) in
    let rest : filter p (range_with_len (a + 1) m) ≡ filter p (range_with_len (a + 1) zero) = filter_range_cut p (a + 1) zero m (omega arith) (λ b x. none b (omega arith)) in
    rw (here, rest) refl
filter_range_cut p a (suc n) zero h none = absurd (omega arith)
filter_range_cut p a (suc n) (suc m) h none =
    let rest : filter p (range_with_len (a + 1) m) ≡ filter p (range_with_len (a + 1) n) = filter_range_cut p (a + 1) n m (omega arith) (λ b x. none b (omega arith)) in
    ap (λ (xs : List ℕ). cond (p a) (a ∷ xs) xs) rest

-- two bounds above all that pass keep the same of them
pub numbers_bound : (p : ℕ → Bool) (n m : ℕ) → ((b : ℕ) → n ≤ b → p b ≡ false) → ((b : ℕ) → m ≤ b → p b ≡ false) → numbers_where p n ≡ numbers_where p m
numbers_bound p n m hn hm =
    elim (cases_lt n m) [
      | inl l ↦ sym (filter_range_cut p 0 n m (omega arith) (λ b x. hn b (omega arith)))
      | inr g ↦ filter_range_cut p 0 m n g (λ b x. hm b (omega arith))
    ]

-- no number from the end on stands in a list
pub is_in-end : (xs : List ℕ) (b : ℕ) → end_of xs ≤ b → is_in b xs ≡ false
is_in-end [] b h = refl
is_in-end (x ∷ xs) b h =
    let other : eqb b x ≡ false = ne_eqb b x (λ e. omega (arith, e, h)) in
    let rest : is_in b xs ≡ false = is_in-end xs b (omega (arith, h)) in
    or_from (eqb b x) (is_in b xs) other rest

-- the numbers of two lists below a bound
pub united_below : (xs ys : List ℕ) (m : ℕ) → ((b : ℕ) → m ≤ b → is_in b xs ≡ false) → ((b : ℕ) → m ≤ b → is_in b ys ≡ false) → united xs ys ≡ numbers_where (λ b. is_in b xs || is_in b ys) m
united_below xs ys m x y =
    numbers_bound (λ b. is_in b xs || is_in b ys) (max (end_of xs) (end_of ys)) m
    (λ b h. or_from (is_in b xs) (is_in b ys) (is_in-end xs b (omega (arith, h))) (is_in-end ys b (omega (arith, h))))
    (λ b h. or_from (is_in b xs) (is_in b ys) (x b h) (y b h))

-- no number from the bound on stands in a rising list
pub rising_past : (m : ℕ) (xs : List ℕ) → IsRisingBelow m xs → (b : ℕ) → m ≤ b → is_in b xs ≡ false
rising_past m xs r b h = ap (is_in b) r ∙ is_in-numbers_where_past (λ k. is_in k xs) m b h

pub range_past : (first n m : ℕ) → first + n ≤ m → (b : ℕ) → m ≤ b → is_in b (range_with_len first n) ≡ false
range_past first n m h b l = is_in-range_with_len b first n ∙ between_above first (first + n) b (omega (arith, h, l))

-- nothing is taken in
pub united_none : (m : ℕ) (xs : List ℕ) → IsRisingBelow m xs → united xs [] ≡ xs
united_none m xs r =
    united_below xs [] m (rising_past m xs r) (λ b h. refl)
    ∙ numbers_agree (λ b. is_in b xs || is_in b []) (λ b. is_in b xs) m (λ b l. or-false (is_in b xs))
    ∙ sym r

-- a list with a range, below a bound
pub with_range-below : (first n m : ℕ) (xs : List ℕ) → ((b : ℕ) → m ≤ b → is_in b xs ≡ false) → first + n ≤ m → with_range first n xs ≡ numbers_where (λ b. is_in b xs || is_between first (first + n) b) m
with_range-below first n m xs past h =
    united_below xs (range_with_len first n) m past (range_past first n m h)
    ∙ numbers_agree (λ b. is_in b xs || is_in b (range_with_len first n)) (λ b. is_in b xs || is_between first (first + n) b) m
    (λ b l. ap (λ (t : Bool). is_in b xs || t) (is_in-range_with_len b first n))

pub rising-with_range : (first n m : ℕ) (xs : List ℕ) → IsRisingBelow m xs → first + n ≤ m → IsRisingBelow m (with_range first n xs)
rising-with_range first n m xs r h =
    subst (IsRisingBelow m) (sym (with_range-below first n m xs (rising_past m xs r) h))
    (numbers_rising (λ b. is_in b xs || is_between first (first + n) b) m)

pub is_in-united : (xs ys : List ℕ) (b : ℕ) → is_in b (united xs ys) ≡ (is_in b xs || is_in b ys)
is_in-united xs ys b =
    elim (cases_lt b (max (end_of xs) (end_of ys))) [
      | inl l ↦ is_in-numbers_where (λ k. is_in k xs || is_in k ys) (max (end_of xs) (end_of ys)) b l
      | inr g ↦
          is_in-numbers_where_past (λ k. is_in k xs || is_in k ys) (max (end_of xs) (end_of ys)) b g
          ∙ sym (or_from (is_in b xs) (is_in b ys) (is_in-end xs b (omega (arith, g))) (is_in-end ys b (omega (arith, g))))
    ]

pub is_in-with_range : (first n : ℕ) (xs : List ℕ) (b : ℕ) → is_in b (with_range first n xs) ≡ (is_in b xs || is_between first (first + n) b)
is_in-with_range first n xs b =
    is_in-united xs (range_with_len first n) b ∙ ap (λ (t : Bool). is_in b xs || t) (is_in-range_with_len b first n)

-- a list without a range
pub without_range-numbers : (p : ℕ → Bool) (first n m : ℕ) → without_range first n (numbers_where p m) ≡ numbers_where (λ b. p b && not (is_between first (first + n) b)) m
without_range-numbers p first n m = filter-filter (λ b. not (is_between first (first + n) b)) p (range_with_len 0 m)

pub without_range-below : (first n m : ℕ) (xs : List ℕ) → IsRisingBelow m xs → without_range first n xs ≡ numbers_where (λ b. is_in b xs && not (is_between first (first + n) b)) m
without_range-below first n m xs r =
    ap (without_range first n) r ∙ without_range-numbers (λ b. is_in b xs) first n m

pub rising-without_range : (first n m : ℕ) (xs : List ℕ) → IsRisingBelow m xs → IsRisingBelow m (without_range first n xs)
rising-without_range first n m xs r =
    subst (IsRisingBelow m) (sym (without_range-below first n m xs r)) (numbers_rising (λ b. is_in b xs && not (is_between first (first + n) b)) m)

pub is_in-without_range : (first n : ℕ) (xs : List ℕ) (b : ℕ) → is_in b (without_range first n xs) ≡ (is_in b xs && not (is_between first (first + n) b))
is_in-without_range first n xs b = is_in-filter (λ k. not (is_between first (first + n) k)) b xs

-- a test that all pass keeps all
filter_all : (p : ℕ → Bool) → ((b : ℕ) → p b ≡ true) → (xs : List ℕ) → filter p xs ≡ xs
filter_all p all [] = refl
filter_all p all (x ∷ xs) = rw (all x, filter_all p all xs) refl

-- a range of no number is taken out
pub without_none : (first : ℕ) (xs : List ℕ) → without_range first 0 xs ≡ xs
without_none first xs = filter_all (λ b. not (is_between first (first + 0) b)) (λ b. ap not (between_none first b)) xs

-- the numbers that pass, where they are those of a range
filter_range_run : (p : ℕ → Bool) (first n a k : ℕ) → ((b : ℕ) → a ≤ b → b < first → p b ≡ false) → ((b : ℕ) → first ≤ b → b < first + n → p b ≡ true) → ((b : ℕ) → first + n ≤ b → p b ≡ false) → a ≤ first → first + n ≤ a + k → filter p (range_with_len a k) ≡ range_with_len first n
filter_range_run p first zero a zero below inside above f l = refl
filter_range_run p first (suc n) a zero below inside above f l = absurd (omega arith)
filter_range_run p first zero a (suc k) below inside above f l =
    elim (cases_eq a first) [
      | inl e ↦
          let here : p a ≡ false = above a (omega (arith, e)) in
          let rest : filter p (range_with_len (a + 1) k) ≡ [] = filter_range_run p (first + 1) zero (a + 1) k (λ b x y. absurd (omega (arith, e, x, y))) (λ b x y. absurd (omega (arith, x, y))) (λ b x. above b (omega (arith, x))) (omega (arith, e)) (omega arith) in
          rw (here, rest) refl
      | inr ne ↦
          let here : p a ≡ false = below a (omega arith) (omega (arith, ne, f)) in
          let rest : filter p (range_with_len (a + 1) k) ≡ [] = filter_range_run p first zero (a + 1) k (λ b x y. below b (omega (arith, x)) y) inside above (omega (arith, ne, f)) (omega arith) in
          rw (here, rest) refl
    ]
filter_range_run p first (suc n) a (suc k) below inside above f l =
    elim (cases_eq a first) [
      | inl e ↦
          let here : p a ≡ true = inside a (omega (arith, e)) (omega (arith, e)) in
          let rest : filter p (range_with_len (a + 1) k) ≡ range_with_len (first + 1) n = filter_range_run p (first + 1) n (a + 1) k (λ b x y. absurd (omega (arith, e, x, y))) (λ b x y. inside b (omega (arith, x)) (omega (arith, y))) (λ b x. above b (omega (arith, x))) (omega (arith, e)) (omega arith) in
          rw (here, rest) (ap (λ (x : ℕ). x ∷ range_with_len (first + 1) n) e)
      | inr ne ↦
          let here : p a ≡ false = below a (omega arith) (omega (arith, ne, f)) in
          let rest : filter p (range_with_len (a + 1) k) ≡ range_with_len first (suc n) = filter_range_run p first (suc n) (a + 1) k (λ b x y. below b (omega (arith, x)) y) inside above (omega (arith, ne, f)) (omega arith) in
          rw (here, rest) refl
    ]

-- a range, as the numbers between its ends
pub numbers-range : (p : ℕ → Bool) (first n m : ℕ) → first + n ≤ m → ((b : ℕ) → b < m → p b ≡ is_between first (first + n) b) → numbers_where p m ≡ range_with_len first n
numbers-range p first n m h same =
    numbers_agree p (λ b. is_between first (first + n) b) m same
    ∙ filter_range_run (λ b. is_between first (first + n) b) first n 0 m (λ b x y. between_below first (first + n) b y) (λ b x y. between_inside first (first + n) b x y) (λ b x. between_above first (first + n) b x) (omega arith) (omega arith)

-- a range is rising
pub range_rising : (first n : ℕ) → IsRisingBelow (first + n) (range_with_len first n)
range_rising first n = sym (numbers-range (λ b. is_in b (range_with_len first n)) first n (first + n) (omega arith) (λ b l. is_in-range_with_len b first n))
