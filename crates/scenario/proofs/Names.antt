-- A word is one of some names, or none of them.
use Rattle.std.proofs.Common.{◌≡◌, ◌≢◌, ℕ, zero, suc, ◌<◌, true, false, ◌||◌, List, [], ◌∷◌, length, inl, inr, sym, ap, arith}
use Rattle.std.specs.Prelude.{Contains, slice_index_or, ◌==◌}
use Rattle.std.specs.List.{AllByRecursion}
use Rattle.std.specs.Str.{bytes_eq}
use Rattle.std.proofs.lemmas.Bool.{or_cases, or_left, or_right, or_parts, both_ways, eqb-true, eqb-false}
use Rattle.std.proofs.lemmas.List.{nil_from_length}
use Rattle.std.proofs.lemmas.List.Elements.{All-from_recursion, All-contains}
use Rattle.std.proofs.lemmas.Slice.Eq.{bytes_eq-Decides}
use Rattle.evac_model.specs.ScenarioLines.{IsNoneOf}
use Rattle.scenario.specs.Words.{is_one_of}

pub same_text : (a b : List ℕ) → bytes_eq a b ≡ true → a ≡ b
same_text a b e = (bytes_eq-Decides a b).0 e

pub other_text : (a b : List ℕ) → bytes_eq a b ≡ false → a ≢ b
other_text a b e same = both_ways (bytes_eq a b) e ((bytes_eq-Decides a b).1 same)

pub one_of : (names : List (List ℕ)) (word : List ℕ) → is_one_of names word ≡ true → Contains names word
one_of [] word e = absurd cc
one_of (name ∷ names) word e = elim (or_cases (bytes_eq word name) (is_one_of names word) e) [
  | inl here ↦ (0, omega arith, sym (same_text word name here))
  | inr there ↦ let c = one_of names word there in (suc c.0, omega (arith, c.1), c.2)
]

named_at : (names : List (List ℕ)) (word : List ℕ) (i : ℕ) → i < length names → slice_index_or names i word ≡ word → is_one_of names word ≡ true
named_at [] word i h e = absurd (omega arith)
named_at (name ∷ names) word zero h e = or_left (bytes_eq word name) (is_one_of names word) ((bytes_eq-Decides word name).1 (sym e))
named_at (name ∷ names) word (suc i) h e = or_right (bytes_eq word name) (is_one_of names word) (named_at names word i (omega arith) e)

pub none_of : (names : List (List ℕ)) (word : List ℕ) → is_one_of names word ≡ false → ¬ Contains names word
none_of names word e c = both_ways (is_one_of names word) e (named_at names word c.0 c.1 c.2)

-- what holds of each name holds of a word that is one of them
pub each_name : (P : List ℕ → Type 0) (names : List (List ℕ)) (word : List ℕ) → AllByRecursion P names → Contains names word → P word
each_name P names word h c = All-contains P names word (All-from_recursion P names h) c

-- the test by which a word is there and none of these
pub is_none : (names : List (List ℕ)) (word : List ℕ) → (length word == 0 || is_one_of names word) ≡ false → IsNoneOf names word
is_none names word e =
    let parts = or_parts (length word == 0) (is_one_of names word) e in
    (λ empty. eqb-false (length word) 0 parts.0 (ap length empty), none_of names word parts.1)

pub isnt_none : (names : List (List ℕ)) (word : List ℕ) → (length word == 0 || is_one_of names word) ≡ true → ¬ IsNoneOf names word
isnt_none names word e none = elim (or_cases (length word == 0) (is_one_of names word) e) [
  | inl empty ↦ none.0 (nil_from_length word (eqb-true (length word) 0 empty))
  | inr one ↦ none.1 (one_of names word one)
]
