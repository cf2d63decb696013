-- Whether an option has a value, as a test, and lists of options.
use Rattle.std.proofs.Common.{◌≡◌, ℕ, zero, suc, ◌<◌, true, false, List, [], ◌∷◌, length, get_or, Option, None, Some, refl, arith}
use Rattle.std.specs.Option.{is_some, IsSomeAnd}
use Rattle.std.proofs.lemmas.Bool.{true≢false, false≢true}
use Rattle.std.proofs.lemmas.Option.{none-some}

module _ {A : Type 0} where
  pub none_from_test : (o : Option A) → is_some o ≡ false → o ≡ None
  none_from_test None e = refl
  none_from_test (Some x) e = absurd (true≢false e)

  pub some_from_test : (o : Option A) → is_some o ≡ true → (x : A) × (o ≡ Some x)
  some_from_test None e = absurd (false≢true e)
  some_from_test (Some x) e = (x, refl)

  -- the value of which P holds
  pub some_and : (o : Option A) (P : A → Type 0) → IsSomeAnd o P → (x : A) × (o ≡ Some x) × P x
  some_and None P p = absurd p
  some_and (Some x) P p = (x, refl, p)

  -- where a list has a value, it has a place
  pub some_within : (xs : List (Option A)) (i : ℕ) (x : A) → get_or xs i None ≡ Some x → i < length xs
  some_within [] i x e = absurd (none-some x e)
  some_within (y ∷ xs) zero x e = omega arith
  some_within (y ∷ xs) (suc i) x e = omega (arith, some_within xs i x e)
