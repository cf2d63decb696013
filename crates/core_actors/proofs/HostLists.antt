-- Items of a list, and those behind them.
use Rattle.std.proofs.Common.{◌≡◌, ℕ, zero, suc, ◌<◌, ◌==◌, ◌||◌, Bool, true, false, List, [], ◌∷◌, length, drop, slice_get, refl, sym, ap, ◌∙◌, arith, Some}
use Rattle.std.proofs.Math.Bool.{or-true}
use Rattle.std.proofs.lemmas.Bool.{eq-eqb}
use Rattle.evac_model.specs.Numbers.{is_in, AreDistinct}
use Rattle.core_actors.specs.Hosts.{first_of}

head_in : (x b : ℕ) (xs : List ℕ) → b ≡ x → is_in b (x ∷ xs) ≡ true
head_in x b xs e = ap (λ (t : Bool). t || is_in b xs) (eq-eqb b x e)

tail_in : (x b : ℕ) (xs : List ℕ) → is_in b xs ≡ true → is_in b (x ∷ xs) ≡ true
tail_in x b xs h = ap (λ (t : Bool). b == x || t) h ∙ or-true (b == x)

-- an item is one of the list, also behind those before it
pub got_in : (xs : List ℕ) (i b : ℕ) → slice_get xs i ≡ Some b → is_in b xs ≡ true
got_in [] zero b e = absurd (cc)
got_in [] (suc i) b e = absurd (cc)
got_in (x ∷ xs) zero b e = head_in x b xs (let same : x ≡ b = cc in sym same)
got_in (x ∷ xs) (suc i) b e = tail_in x b xs (got_in xs i b e)

pub got_in_rest : (xs : List ℕ) (n b : ℕ) → slice_get xs n ≡ Some b → is_in b (drop n xs) ≡ true
got_in_rest xs zero b e = got_in xs zero b e
got_in_rest [] (suc n) b e = absurd (cc)
got_in_rest (x ∷ xs) (suc n) b e = got_in_rest xs n b e

-- what isn't in a list isn't behind its first items
pub not_in_rest : (xs : List ℕ) (n b : ℕ) → is_in b xs ≡ false → is_in b (drop n xs) ≡ false
not_in_rest xs zero b e = e
not_in_rest [] (suc n) b e = refl
not_in_rest (x ∷ xs) (suc n) b e = not_in_rest xs n b (rest_of (b == x) (is_in b xs) e)
  where
    rest_of : (t u : Bool) → (t || u) ≡ false → u ≡ false
    rest_of true u e = absurd (cc)
    rest_of false u e = e

-- where each number stands once, an item isn't behind itself
pub got_not_behind : (xs : List ℕ) (i n b : ℕ) → AreDistinct xs → slice_get xs i ≡ Some b → i < n → is_in b (drop n xs) ≡ false
got_not_behind [] zero n b d e lt = absurd (cc)
got_not_behind [] (suc i) n b d e lt = absurd (cc)
got_not_behind (x ∷ xs) i zero b d e lt = absurd (omega arith)
got_not_behind (x ∷ xs) zero (suc n) b d e lt =
    let same : x ≡ b = cc in
    not_in_rest xs n b (ap (λ (m : ℕ). is_in m xs) (sym same) ∙ d.0)
got_not_behind (x ∷ xs) (suc i) (suc n) b d e lt = got_not_behind xs i n b d.1 e (omega arith)

-- the first of those behind n items is one of them
pub first_in : (xs : List ℕ) (n : ℕ) → n < length xs → is_in (first_of (drop n xs)) (drop n xs) ≡ true
first_in [] n lt = absurd (omega arith)
first_in (x ∷ xs) zero lt = head_in x x xs refl
first_in (x ∷ xs) (suc n) lt = first_in xs n (omega arith)
