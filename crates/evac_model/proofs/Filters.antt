-- What filters leave of lists.
use Rattle.std.proofs.Common.{◌≡◌, ℕ, ◌+◌, ◌≤◌, Bool, true, false, cond, ◌&&◌, List, [], ◌∷◌, length, refl, ap, ◌∙◌, arith}
use Rattle.std.specs.List.{filter}
use Rattle.std.proofs.lemmas.List.Sums.{length-filter, count_by-le-length}

module _ {X : Type 0} where
  pub filter_cond : (p : X → Bool) (t : Bool) (x : X) (xs : List X) → filter p (cond t (x ∷ xs) xs) ≡ cond (t && p x) (x ∷ filter p xs) (filter p xs)
  filter_cond p true x xs = refl
  filter_cond p false x xs = refl

  -- two filters are one
  pub filter-filter : (p q : X → Bool) (xs : List X) → filter p (filter q xs) ≡ filter (λ x. q x && p x) xs
  filter-filter p q [] = refl
  filter-filter p q (x ∷ xs) =
      filter_cond p (q x) x (filter q xs) ∙ ap (λ (ys : List X). cond (q x && p x) (x ∷ ys) ys) (filter-filter p q xs)

  -- a list has at most one member more for a member that may come in front
  pub length_cond : (t : Bool) (x : X) (xs : List X) (n : ℕ) → length xs ≤ n → length (cond t (x ∷ xs) xs) ≤ n + 1
  length_cond true x xs n h = omega arith
  length_cond false x xs n h = omega arith

  -- a filter adds nothing
  pub length-filter-le : (p : X → Bool) (xs : List X) → length (filter p xs) ≤ length xs
  length-filter-le p xs = omega (arith, length-filter p xs, count_by-le-length p xs)
