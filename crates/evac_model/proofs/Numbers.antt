-- The numbers that pass a test, as a list.
use Rattle.std.proofs.Common.{◌≡◌, ◌≢◌, ℕ, zero, suc, ◌+◌, ◌<◌, ◌≤◌, Bool, true, false, cond, List, [], ◌∷◌, length, refl, sym, ap, ◌∙◌, arith, inl, inr}
use Rattle.std.specs.List.{filter, range_with_len}
use Rattle.std.proofs.lemmas.Bool.{cases_eq, eq-eqb, ne_eqb}
use Rattle.std.proofs.Math.Dec.{eqb}
use Rattle.std.proofs.lemmas.List.FromFn.{length-range_with_len}
use Rattle.evac_model.specs.Numbers.{numbers_where, is_in, IsRisingBelow}
use Rattle.evac_model.proofs.Filters.{length-filter-le}

-- two tests that agree on n numbers keep the same of them
filter_range_agree : (p q : ℕ → Bool) (a n : ℕ) → ((b : ℕ) → a ≤ b → b < a + n → p b ≡ q b) → filter p (range_with_len a n) ≡ filter q (range_with_len a n)
filter_range_agree p q a zero h = refl
filter_range_agree p q a (suc n) h =
    let here : p a ≡ q a = h a (omega arith) (omega arith) in
    let rest : filter p (range_with_len (a + 1) n) ≡ filter q (range_with_len (a + 1) n) = filter_range_agree p q (a + 1) n (λ b x y. h b (omega arith) (omega arith)) in
    rw (here, rest) refl

pub numbers_agree : (p q : ℕ → Bool) (n : ℕ) → ((b : ℕ) → b < n → p b ≡ q b) → numbers_where p n ≡ numbers_where q n
numbers_agree p q n h = filter_range_agree p q 0 n (λ b x y. h b (omega (arith, y)))

-- a number is not in a list for another in front of it, or for itself in front of it
is_in_other : (b a : ℕ) (xs : List ℕ) (t : Bool) → eqb b a ≡ false → is_in b (cond t (a ∷ xs) xs) ≡ is_in b xs
is_in_other b a xs true e = rw e refl
is_in_other b a xs false e = refl

is_in_here : (b a : ℕ) (xs : List ℕ) (t : Bool) → eqb b a ≡ true → is_in b xs ≡ false → is_in b (cond t (a ∷ xs) xs) ≡ t
is_in_here b a xs true e n = rw e refl
is_in_here b a xs false e n = n

-- a number outside a range is none of those kept of it
is_in_below : (p : ℕ → Bool) (a n b : ℕ) → b < a → is_in b (filter p (range_with_len a n)) ≡ false
is_in_below p a zero b h = refl
is_in_below p a (suc n) b h =
    is_in_other b a (filter p (range_with_len (a + 1) n)) (p a) (ne_eqb b a (λ e. omega (arith, e, h))) ∙ is_in_below p (a + 1) n b (omega arith)

is_in_above : (p : ℕ → Bool) (a n b : ℕ) → a + n ≤ b → is_in b (filter p (range_with_len a n)) ≡ false
is_in_above p a zero b h = refl
is_in_above p a (suc n) b h =
    is_in_other b a (filter p (range_with_len (a + 1) n)) (p a) (ne_eqb b a (λ e. omega (arith, e, h))) ∙ is_in_above p (a + 1) n b (omega arith)

-- a number of a range is kept if it passes
is_in_range : (p : ℕ → Bool) (a n b : ℕ) → a ≤ b → b < a + n → is_in b (filter p (range_with_len a n)) ≡ p b
is_in_range p a zero b h l = absurd (omega arith)
is_in_range p a (suc n) b h l =
    elim (cases_eq b a) [
      | inl e ↦ is_in_here b a (filter p (range_with_len (a + 1) n)) (p a) (eq-eqb b a e) (is_in_below p (a + 1) n b (omega (arith, e))) ∙ ap p (sym e)
      | inr ne ↦ is_in_other b a (filter p (range_with_len (a + 1) n)) (p a) (ne_eqb b a ne) ∙ is_in_range p (a + 1) n b (omega (arith, ne)) (omega arith)
    ]

pub is_in-numbers_where : (p : ℕ → Bool) (n b : ℕ) → b < n → is_in b (numbers_where p n) ≡ p b
is_in-numbers_where p n b h = is_in_range p 0 n b (omega arith) (omega (arith, h))

pub is_in-numbers_where_past : (p : ℕ → Bool) (n b : ℕ) → n ≤ b → is_in b (numbers_where p n) ≡ false
is_in-numbers_where_past p n b h = is_in_above p 0 n b (omega (arith, h))

-- they are rising
pub numbers_rising : (p : ℕ → Bool) (n : ℕ) → IsRisingBelow n (numbers_where p n)
numbers_rising p n = numbers_agree p (λ b. is_in b (numbers_where p n)) n (λ b l. sym (is_in-numbers_where p n b l))

-- no more are kept than there are
pub length-numbers_where : (p : ℕ → Bool) (n : ℕ) → length (numbers_where p n) ≤ n
length-numbers_where p n = omega (arith, length-filter-le p (range_with_len 0 n), length-range_with_len 0 n)

-- where one number more passes, one more is kept
length_cond_more : (t : Bool) (a : ℕ) (xs ys : List ℕ) → length ys ≡ length xs + 1 → length (cond t (a ∷ ys) ys) ≡ length (cond t (a ∷ xs) xs) + 1
length_cond_more true a xs ys e = omega (arith, e)
length_cond_more false a xs ys e = e

length_filter_one_more : (p q : ℕ → Bool) (a n b : ℕ) → p b ≡ false → q b ≡ true → ((k : ℕ) → k ≢ b → q k ≡ p k) → a ≤ b → b < a + n → length (filter q (range_with_len a n)) ≡ length (filter p (range_with_len a n)) + 1
length_filter_one_more p q a zero b pb qb others h l = absurd (omega arith)
length_filter_one_more p q a (suc n) b pb qb others h l =
    elim (cases_eq b a) [
      | inl e ↦
          let pa : p a ≡ false = ap p (sym e) ∙ pb in
          let qa : q a ≡ true = ap q (sym e) ∙ qb in
          let rest : filter q (range_with_len (a + 1) n) ≡ filter p (range_with_len (a + 1) n) = filter_range_agree q p (a + 1) n (λ k x y. others k (λ z. omega (arith, z, e, x))) in
          rw (pa, qa, rest) (omega arith)
      | inr ne ↦
          let here : q a ≡ p a = others a (λ z. ne (sym z)) in
          let rest : length (filter q (range_with_len (a + 1) n)) ≡ length (filter p (range_with_len (a + 1) n)) + 1 = length_filter_one_more p q (a + 1) n b pb qb others (omega (arith, ne)) (omega arith) in
          rw here (length_cond_more (p a) a (filter p (range_with_len (a + 1) n)) (filter q (range_with_len (a + 1) n)) rest)
    ]

pub length-numbers_where_more : (p q : ℕ → Bool) (n b : ℕ) → b < n → p b ≡ false → q b ≡ true → ((k : ℕ) → k ≢ b → q k ≡ p k) → length (numbers_where q n) ≡ length (numbers_where p n) + 1
length-numbers_where_more p q n b l pb qb others = length_filter_one_more p q 0 n b pb qb others (omega arith) (omega (arith, l))

-- those of a range that pass, where just its first n numbers do
filter_range_front : (p : ℕ → Bool) (a n m : ℕ) → n ≤ m → ((k : ℕ) → a ≤ k → k < a + n → p k ≡ true) → ((k : ℕ) → a + n ≤ k → p k ≡ false) → filter p (range_with_len a m) ≡ range_with_len a n
filter_range_front p a zero zero h all none = refl
filter_range_front p a zero (suc m) h all none =
    let here : p a ≡ false = none a (omega arith) in
    let rest : filter p (range_with_len (a + 1) m) ≡ [] = filter_range_front p (a + 1) zero m (omega arith) (λ k x y. absurd (omega arith)) (λ k x. none k (omega arith)) in
    rw (here, rest) refl
filter_range_front p a (suc n) zero h all none = absurd (omega arith)
filter_range_front p a (suc n) (suc m) h all none =
    let here : p a ≡ true = all a (omega arith) (omega arith) in
    let rest : filter p (range_with_len (a + 1) m) ≡ range_with_len (a + 1) n = filter_range_front p (a + 1) n m (omega arith) (λ k x y. all k (omega arith) (omega arith)) (λ k x. none k (omega arith)) in
    rw (here, rest) refl

pub numbers_where-front : (p : ℕ → Bool) (n m : ℕ) → n ≤ m → ((k : ℕ) → k < n → p k ≡ true) → ((k : ℕ) → n ≤ k → p k ≡ false) → numbers_where p m ≡ range_with_len 0 n
numbers_where-front p n m h all none = filter_range_front p 0 n m h (λ k x y. all k (omega (arith, y))) (λ k x. none k (omega (arith, x)))

-- none of them, where none passes
pub numbers_where-none : (p : ℕ → Bool) (n : ℕ) → ((k : ℕ) → p k ≡ false) → numbers_where p n ≡ []
numbers_where-none p n none = numbers_where-front p 0 n (omega arith) (λ k l. absurd (omega (arith, l))) (λ k l. none k)
