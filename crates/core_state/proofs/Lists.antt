-- Lists read by `slice_get`, and sums over lists of which one member is replaced.
use Rattle.std.proofs.Common.{◌≡◌, ℕ, zero, suc, ◌+◌, ◌<◌, ◌≤◌, ◌≢◌, ◌⊎◌, List, [], ◌∷◌, ◌++◌, length, set, refl, ap, ◌∙◌, inl, inr, ⊎_elim, arith, Some}
use Rattle.std.specs.List.{sum_by, slice_get}
use Rattle.std.proofs.lemmas.List.Sums.{sum_by-cons}
use Rattle.std.proofs.lemmas.Option.{same_Some, none-some}
use mathlib.Core.Logic.{dite}
use native.Mathlib.Decide.{ℕ_discrete}

module _ {A : Type 0} where
  -- what stands at a place, after another was written
  pub at_set : (l : List A) (i j : ℕ) (a b : A) → slice_get (set l i a) j ≡ Some b → ((j ≡ i) × (a ≡ b)) ⊎ ((j ≢ i) × (slice_get l j ≡ Some b))
  at_set [] i j a b e = absurd (none-some b e)
  at_set (x ∷ xs) zero zero a b e = inl (refl, same_Some a b e)
  at_set (x ∷ xs) zero (suc j) a b e = inr ((λ h. omega arith), e)
  at_set (x ∷ xs) (suc i) zero a b e = inr ((λ h. omega arith), e)
  at_set (x ∷ xs) (suc i) (suc j) a b e = ⊎_elim (λ t. inl (ap suc t.0, t.1)) (λ t. let n = t.0 in inr ((λ h. n (omega arith)), t.1)) (at_set xs i j a b e)

  -- a sum over a list of which one member is replaced
  pub sum_by_replaced : (f : A → ℕ) (l : List A) (i : ℕ) (a b : A) → slice_get l i ≡ Some a → sum_by f (set l i b) + f a ≡ sum_by f l + f b
  sum_by_replaced f [] i a b e = absurd (none-some a e)
  sum_by_replaced f (x ∷ xs) zero a b e = let s : f x ≡ f a = ap f (same_Some x a e) in omega (arith, sum_by-cons f b xs, sum_by-cons f x xs)
  sum_by_replaced f (x ∷ xs) (suc i) a b e = omega (arith, sum_by-cons f x (set xs i b), sum_by-cons f x xs, sum_by_replaced f xs i a b e)

  -- where the member that comes in weighs the same, the sum stays
  pub sum_by_kept : (f : A → ℕ) (l : List A) (i : ℕ) (a b : A) → slice_get l i ≡ Some a → f b ≡ f a → sum_by f (set l i b) ≡ sum_by f l
  sum_by_kept f l i a b e s = omega (arith, sum_by_replaced f l i a b e)

  pub member_le_sum_by : (f : A → ℕ) (l : List A) (i : ℕ) (a : A) → slice_get l i ≡ Some a → f a ≤ sum_by f l
  member_le_sum_by f [] i a e = absurd (none-some a e)
  member_le_sum_by f (x ∷ xs) zero a e = let s : f x ≡ f a = ap f (same_Some x a e) in omega (arith, sum_by-cons f x xs)
  member_le_sum_by f (x ∷ xs) (suc i) a e = omega (arith, sum_by-cons f x xs, member_le_sum_by f xs i a e)

  pub two_members_le_sum_by : (f : A → ℕ) (l : List A) (i j : ℕ) (a b : A) → i ≢ j → slice_get l i ≡ Some a → slice_get l j ≡ Some b → f a + f b ≤ sum_by f l
  two_members_le_sum_by f [] i j a b n e g = absurd (none-some a e)
  two_members_le_sum_by f (x ∷ xs) zero zero a b n e g = absurd (n refl)
  two_members_le_sum_by f (x ∷ xs) zero (suc j) a b n e g = let s : f x ≡ f a = ap f (same_Some x a e) in omega (arith, sum_by-cons f x xs, member_le_sum_by f xs j b g)
  two_members_le_sum_by f (x ∷ xs) (suc i) zero a b n e g = let s : f x ≡ f b = ap f (same_Some x b g) in omega (arith, sum_by-cons f x xs, member_le_sum_by f xs i a e)
  two_members_le_sum_by f (x ∷ xs) (suc i) (suc j) a b n e g = omega (arith, sum_by-cons f x xs, two_members_le_sum_by f xs i j a b (λ q. n (ap suc q)) e g)

  -- a sum that isn't 0 has a member that weighs something
  pub sum_by_member : (f : A → ℕ) (l : List A) → 0 < sum_by f l → (i : ℕ) × (a : A) × (slice_get l i ≡ Some a) × (0 < f a)
  sum_by_member f [] p = absurd (omega arith)
  sum_by_member f (x ∷ xs) p = dite (ℕ_discrete (f x) 0)
      (λ z. let r = sum_by_member f xs (let s = sum_by-cons f x xs in omega arith) in (suc r.0, r.1, r.2, r.3))
      (λ ne. (0, x, refl, omega arith))

  -- a sum of nothing but zeros
  pub sum_by_none : (f : A → ℕ) (l : List A) → ((i : ℕ) (a : A) → slice_get l i ≡ Some a → f a ≡ 0) → sum_by f l ≡ 0
  sum_by_none f [] h = refl
  sum_by_none f (x ∷ xs) h = let a = h 0 x refl in omega (arith, sum_by-cons f x xs, sum_by_none f xs (λ i v e. h (suc i) v e))

  pub within : (l : List A) (i : ℕ) (a : A) → slice_get l i ≡ Some a → i < length l
  within [] i a e = absurd (none-some a e)
  within (x ∷ xs) zero a e = omega arith
  within (x ∷ xs) (suc i) a e = omega (arith, within xs i a e)

  pub set_here : (l : List A) (i : ℕ) (a : A) → i < length l → slice_get (set l i a) i ≡ Some a
  set_here [] i a h = absurd (omega arith)
  set_here (x ∷ xs) zero a h = refl
  set_here (x ∷ xs) (suc i) a h = set_here xs i a (omega arith)

  pub set_else : (l : List A) (i j : ℕ) (a : A) → j ≢ i → slice_get (set l i a) j ≡ slice_get l j
  set_else [] i j a n = refl
  set_else (x ∷ xs) zero zero a n = absurd (n refl)
  set_else (x ∷ xs) zero (suc j) a n = refl
  set_else (x ∷ xs) (suc i) zero a n = refl
  set_else (x ∷ xs) (suc i) (suc j) a n = set_else xs i j a (λ e. n (ap suc e))

  pub at_longer : (l m : List A) (i : ℕ) (a : A) → slice_get l i ≡ Some a → slice_get (l ++ m) i ≡ Some a
  at_longer [] m i a e = absurd (none-some a e)
  at_longer (x ∷ xs) m zero a e = e
  at_longer (x ∷ xs) m (suc i) a e = at_longer xs m i a e

  pub at_append : (l m : List A) (k : ℕ) (a : A) → slice_get (l ++ m) k ≡ Some a → (slice_get l k ≡ Some a) ⊎ ((j : ℕ) × (slice_get m j ≡ Some a))
  at_append [] m k a e = inr (k, e)
  at_append (x ∷ xs) m zero a e = inl e
  at_append (x ∷ xs) m (suc k) a e = at_append xs m k a e

  pub at_beyond : (l m : List A) (k : ℕ) (a : A) → slice_get m k ≡ Some a → slice_get (l ++ m) (length l + k) ≡ Some a
  at_beyond [] m k a e = let q : zero + k ≡ k = omega arith in ap (λ j. slice_get m j) q ∙ e
  at_beyond (x ∷ xs) m k a e = let q : suc (length xs) + k ≡ suc (length xs + k) = omega arith in ap (λ j. slice_get (x ∷ (xs ++ m)) j) q ∙ at_beyond xs m k a e

  pub at_snoc : (l : List A) (a b : A) (j : ℕ) → slice_get (l ++ a ∷ []) j ≡ Some b → (slice_get l j ≡ Some b) ⊎ (a ≡ b)
  at_snoc [] a b zero e = inr (same_Some a b e)
  at_snoc [] a b (suc j) e = absurd (none-some b e)
  at_snoc (x ∷ xs) a b zero e = inl e
  at_snoc (x ∷ xs) a b (suc j) e = at_snoc xs a b j e

  pub set_longer : (l m : List A) (i : ℕ) (a : A) → i < length l → set (l ++ m) i a ≡ set l i a ++ m
  set_longer [] m i a h = absurd (omega arith)
  set_longer (x ∷ xs) m zero a h = refl
  set_longer (x ∷ xs) m (suc i) a h = ap (λ l. x ∷ l) (set_longer xs m i a (omega arith))

  pub set_last : (l : List A) (a b : A) → set (l ++ a ∷ []) (length l) b ≡ l ++ b ∷ []
  set_last [] a b = refl
  set_last (x ∷ xs) a b = ap (λ l. x ∷ l) (set_last xs a b)

  pub at_last : (l : List A) (a : A) → slice_get (l ++ a ∷ []) (length l) ≡ Some a
  at_last [] a = refl
  at_last (x ∷ xs) a = at_last xs a
