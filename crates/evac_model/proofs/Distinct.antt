-- Lists in which no number stands twice.
use Rattle.std.proofs.Common.{◌≡◌, ℕ, zero, suc, ◌+◌, Bool, true, false, cond, List, [], ◌∷◌, sym, subst, ◌∙◌, arith}
use Rattle.std.specs.List.{filter, range_with_len}
use Rattle.std.proofs.lemmas.Bool.{and_left}
use Rattle.evac_model.specs.Numbers.{is_in, AreDistinct, IsRisingBelow}
use Rattle.evac_model.proofs.Members.{is_in-filter, is_in-range_with_len}
use Rattle.evac_model.proofs.Ranges.{between_below}

-- a range
pub distinct-range_with_len : (a n : ℕ) → AreDistinct (range_with_len a n)
distinct-range_with_len a zero = tt
distinct-range_with_len a (suc n) =
    (is_in-range_with_len a (a + 1) n ∙ between_below (a + 1) (a + 1 + n) a (omega arith), distinct-range_with_len (a + 1) n)

-- those of a list that pass a test
distinct_cond : (b : Bool) (x : ℕ) (xs : List ℕ) → is_in x xs ≡ false → AreDistinct xs → AreDistinct (cond b (x ∷ xs) xs)
distinct_cond true x xs none h = (none, h)
distinct_cond false x xs none h = h

pub distinct-filter : (t : ℕ → Bool) (xs : List ℕ) → AreDistinct xs → AreDistinct (filter t xs)
distinct-filter t [] h = tt
distinct-filter t (x ∷ xs) h =
    distinct_cond (t x) x (filter t xs) (is_in-filter t x xs ∙ and_left _ _ h.0) (distinct-filter t xs h.1)

-- a rising list
pub rising_distinct : (bound : ℕ) (xs : List ℕ) → IsRisingBelow bound xs → AreDistinct xs
rising_distinct bound xs r =
    subst AreDistinct (sym r) (distinct-filter (λ (b : ℕ). is_in b xs) (range_with_len 0 bound) (distinct-range_with_len 0 bound))
