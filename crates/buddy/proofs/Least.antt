-- The least number of a kind, if there is one.
use Rattle.std.proofs.Common.{◌≡◌, ℕ, zero, suc, ◌+◌, ◌<◌, ◌≤◌, Bool, true, false, cond, List, [], ◌∷◌, ◌++◌, Option, None, Some, refl, sym, ap, ◌∙◌, arith, inl, inr, ◌⊎◌}
use Rattle.std.specs.List.{filter, flat_map, range_with_len, slice_get}
use Rattle.std.specs.Option.{option_or, option_map}
use Rattle.std.proofs.lemmas.List.Elements.{filter-append}
use Rattle.std.proofs.lemmas.Bool.{cases_eq}
use Rattle.buddy.specs.Choice.{first_choice}

abbrev pub IsLeast : (ℕ → Type 0) → Option ℕ → Type 0
IsLeast P None = (n : ℕ) → ¬ P n
IsLeast P (Some m) = P m × ((n : ℕ) → P n → m ≤ n)

-- one kind has one least number
pub least_same : (P : ℕ → Type 0) (r t : Option ℕ) → IsLeast P r → IsLeast P t → r ≡ t
least_same P None None h k = refl
least_same P None (Some n) h k = absurd (h n k.0)
least_same P (Some m) None h k = absurd (k m h.0)
least_same P (Some m) (Some n) h k =
    let up : m ≤ n = h.1 n k.0 in
    let down : n ≤ m = k.1 m h.0 in
    let e : m ≡ n = omega arith in ap (λ (x : ℕ). Some x) e

pub least_like : (P Q : ℕ → Type 0) (r : Option ℕ) → ((n : ℕ) → P n → Q n) → ((n : ℕ) → Q n → P n) → IsLeast P r → IsLeast Q r
least_like P Q None there back h = λ n q. h n (back n q)
least_like P Q (Some m) there back h = (there m h.0, λ n q. h.1 n (back n q))

-- the lower kind's least, else the other's
pub least_or : (P Q R : ℕ → Type 0) (r t : Option ℕ) → ((x y : ℕ) → P x → Q y → x ≤ y) → ((n : ℕ) → P n → R n) → ((n : ℕ) → Q n → R n) → ((n : ℕ) → R n → P n ⊎ Q n) → IsLeast P r → IsLeast Q t → IsLeast R (option_or r t)
least_or P Q R None None order p q parts h k = λ n x. elim (parts n x) [ inl a ↦ h n a | inr b ↦ k n b ]
least_or P Q R None (Some m) order p q parts h k =
    (q m k.0, λ n x. elim (parts n x) [ inl a ↦ absurd (h n a) | inr b ↦ k.1 n b ])
least_or P Q R (Some m) t order p q parts h k =
    (p m h.0, λ n x. elim (parts n x) [ inl a ↦ h.1 n a | inr b ↦ order m n h.0 b ])

-- a kind that begins at c
pub least_add : (c : ℕ) (P Q : ℕ → Type 0) (r : Option ℕ) → ((n : ℕ) → P n → Q (c + n)) → ((n : ℕ) → Q n → (m : ℕ) × (n ≡ c + m) × P m) → IsLeast P r → IsLeast Q (option_map (λ n. c + n) r)
least_add c P Q None there back h = λ n q. let x = back n q in h x.0 x.2
least_add c P Q (Some m) there back h =
    (there m h.0, λ n q. let x = back n q in let l : m ≤ x.0 = h.1 x.0 x.2 in omega (arith, x.1, l))

-- nothing, where a test fails
pub least_if : (b : Bool) (P : ℕ → Type 0) (r : Option ℕ) → IsLeast P r → IsLeast (λ n. (b ≡ true) × P n) (cond b r None)
least_if true P r h = least_like P (λ n. (true ≡ true) × P n) r (λ n p. (refl, p)) (λ n p. p.1) h
least_if false P r h = λ n p. let e : false ≡ true = p.0 in cc

-- the first of those of a range that pass
first_here : (q : ℕ → Bool) (a n : ℕ) (t : Bool) (xs : List ℕ) → q a ≡ t → IsLeast (λ x. (a + 1 ≤ x) × (x < a + 1 + n) × (q x ≡ true)) (slice_get xs 0) → IsLeast (λ x. (a ≤ x) × (x < a + suc n) × (q x ≡ true)) (slice_get (cond t (a ∷ xs) xs) 0)
first_here q a n true xs e h = ((omega arith, omega arith, e), λ x p. p.0)
first_here q a n false xs e h =
    least_like (λ x. (a + 1 ≤ x) × (x < a + 1 + n) × (q x ≡ true)) (λ x. (a ≤ x) × (x < a + suc n) × (q x ≡ true)) (slice_get xs 0)
    (λ x p. (omega (arith, p.0), omega (arith, p.1), p.2))
    (λ x p. elim (cases_eq x a) [
      | inl same ↦ let f : q x ≡ false = ap q same ∙ e in let g : q x ≡ true = p.2 in let c : true ≡ false = sym g ∙ f in absurd (cc)
      | inr other ↦ (omega (arith, p.0, other), omega (arith, p.1), p.2)
    ]) h

pub first_of_range : (q : ℕ → Bool) (a n : ℕ) → IsLeast (λ x. (a ≤ x) × (x < a + n) × (q x ≡ true)) (slice_get (filter q (range_with_len a n)) 0)
first_of_range q a zero = λ x p. omega (arith, p.0, p.1)
first_of_range q a (suc n) = first_here q a n (q a) (filter q (range_with_len (a + 1) n)) refl (first_of_range q (a + 1) n)

-- the first of lists joined
first_append : (xs ys : List ℕ) → slice_get (xs ++ ys) 0 ≡ option_or (slice_get xs 0) (slice_get ys 0)
first_append [] ys = refl
first_append (x ∷ xs) ys = refl

pub first-flat_map : (p : ℕ → Bool) (f : ℕ → List ℕ) (orders : List ℕ) → slice_get (filter p (flat_map f orders)) 0 ≡ first_choice (λ k. slice_get (filter p (f k)) 0) orders
first-flat_map p f [] = refl
first-flat_map p f (k ∷ orders) =
    ap (λ (xs : List ℕ). slice_get xs 0) (filter-append p (f k) (flat_map f orders))
    ∙ first_append (filter p (f k)) (filter p (flat_map f orders))
    ∙ ap (λ (o : Option ℕ). option_or (slice_get (filter p (f k)) 0) o) (first-flat_map p f orders)

pub first_choice_agree : (f g : ℕ → Option ℕ) → ((k : ℕ) → f k ≡ g k) → (orders : List ℕ) → first_choice f orders ≡ first_choice g orders
first_choice_agree f g h [] = refl
first_choice_agree f g h (k ∷ orders) = rw (h k, first_choice_agree f g h orders) refl
