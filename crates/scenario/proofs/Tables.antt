-- A table has a number if and only if the number was named.
use Rattle.std.proofs.Common.{◌≡◌, ℕ, zero, suc, ◌<◌, Bool, true, false, ◌||◌, List, [], ◌∷◌, ◌++◌, length, refl, sym, ◌∙◌, inl, inr, arith, replicate, get_or-set_same, get_or-set_other}
use Rattle.std.specs.Prelude.{nat_eq, slice_index_or, slice_set, Contains}
use Rattle.std.specs.List.{list_any}
use Rattle.std.proofs.lemmas.Bool.{eqb-true, eq-eqb, ne_eqb, cases_eq, cases_lt, or_cases, or_left, or_right, both_ways}
use Rattle.std.proofs.lemmas.List.Folds.{list_any-append}
use Rattle.std.proofs.lemmas.List.{get_or-replicate, get_or_past, length-replicate}
use Rattle.scenario.specs.Tables.{HasJust}

named_from : (names : List ℕ) (k i : ℕ) → i < length names → slice_index_or names i k ≡ k → list_any (nat_eq k) names ≡ true
named_from [] k i h e = absurd (omega arith)
named_from (n ∷ names) k zero h e = or_left (nat_eq k n) (list_any (nat_eq k) names) (eq-eqb k n (sym e))
named_from (n ∷ names) k (suc i) h e = or_right (nat_eq k n) (list_any (nat_eq k) names) (named_from names k i (omega arith) e)

pub any_from_Contains : (names : List ℕ) (k : ℕ) → Contains names k → list_any (nat_eq k) names ≡ true
any_from_Contains names k c = named_from names k c.0 c.1 c.2

pub Contains-from_any : (names : List ℕ) (k : ℕ) → list_any (nat_eq k) names ≡ true → Contains names k
Contains-from_any [] k e = absurd cc
Contains-from_any (n ∷ names) k e = elim (or_cases (nat_eq k n) (list_any (nat_eq k) names) e) [
  | inl here ↦ (0, omega arith, sym (eqb-true k n here))
  | inr there ↦ let c = Contains-from_any names k there in (suc c.0, omega (arith, c.1), c.2)
]

pub has : (table : List Bool) (names : List ℕ) (k : ℕ) → HasJust table names → slice_index_or table k false ≡ true → Contains names k
has table names k just e = Contains-from_any names k (sym (just k) ∙ e)

pub has_not : (table : List Bool) (names : List ℕ) (k : ℕ) → HasJust table names → slice_index_or table k false ≡ false → ¬ Contains names k
has_not table names k just e c = both_ways (list_any (nat_eq k) names) (sym (just k) ∙ e) (any_from_Contains names k c)

pub none_named : (limit : ℕ) → HasJust (replicate limit false) []
none_named limit k = elim (cases_lt k limit) [
  | inl lt ↦ get_or-replicate limit k false false lt
  | inr le ↦ get_or_past (replicate limit false) k false (omega (arith, length-replicate limit false))
]

any-push : (names : List ℕ) (n k : ℕ) → list_any (nat_eq k) (names ++ n ∷ []) ≡ (list_any (nat_eq k) names || (nat_eq k n || false))
any-push names n k = list_any-append (nat_eq k) names (n ∷ [])

or_none : (x y : Bool) → y ≡ false → x ≡ (x || (y || false))
or_none true y e = refl
or_none false y e = rw e

set_index : (table : List Bool) (n k : ℕ) → n < length table → k ≡ n → slice_index_or (slice_set table n true) k false ≡ true
set_index table n k lt e = rw e (get_or-set_same table n true false lt)

pub one_more : (table : List Bool) (names : List ℕ) (n : ℕ) → n < length table → HasJust table names → HasJust (slice_set table n true) (names ++ n ∷ [])
one_more table names n lt just k = elim (cases_eq k n) [
  | inl same ↦ set_index table n k lt same ∙ sym (or_right (list_any (nat_eq k) names) (nat_eq k n || false) (or_left (nat_eq k n) false (eq-eqb k n same))) ∙ sym (any-push names n k)
  | inr other ↦ get_or-set_other table n k true false other ∙ just k ∙ or_none (list_any (nat_eq k) names) (nat_eq k n) (ne_eqb k n other) ∙ sym (any-push names n k)
]
