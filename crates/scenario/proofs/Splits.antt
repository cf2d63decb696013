-- Cutting a text at the first place of a byte.
use Rattle.std.proofs.Common.{◌≡◌, ℕ, not, Option, is_some, Bor, ◌+◌, ◌<◌, ◌≤◌, Bool, true, false, cond, ltb, List, [], ◌∷◌, length, take, drop, Some, None, refl, inl, inr, sym, ap, ◌∙◌, arith}
use Rattle.std.specs.List.{slice_split, position, position_or_len}
use Rattle.std.specs.Str.Lines.{lines, lines_of_parts, strip_carriage_return}
use Rattle.std.specs.Bool.{◌==◌}
use Rattle.std.proofs.lemmas.Bool.{ltb-true, ltb-false, cond-false, ne_eqb, eqb-false, cases_eq}
use Rattle.std.proofs.lemmas.Option.{cond_some}
use Rattle.std.proofs.lemmas.List.{length-drop}
use Rattle.std.proofs.lemmas.List.Sums.{fails_before_first}
use Rattle.std.proofs.lemmas.List.Splits.{slice_split_first, slice_split_none, length-slice_split}
use Rattle.evac_model.specs.ScenarioLines.{words}
use Rattle.scenario.specs.Lines.{IsSplit}
use Rattle.scenario.specs.Words.{parts_left, words_left}

pub cut_some : (p : ℕ → Bool) (xs : List ℕ) (i : ℕ) → position p xs ≡ Some i → (i < length xs) × (slice_split p xs ≡ take i xs ∷ slice_split p (drop (i + 1) xs))
cut_some p xs i e =
    let b = cond_some (ltb (position_or_len p xs) (length xs)) (position_or_len p xs) i e in
    let lt : position_or_len p xs < length xs = ltb-true _ _ b.0 in
    let at : position_or_len p xs ≡ i = b.1 in
    (rw (← at) lt, rw (← at) (slice_split_first p xs 0 lt))

cond_none : (b : Bool) (i : ℕ) → cond b (Some i) None ≡ None → b ≡ false
cond_none true i e = absurd cc
cond_none false i e = refl

pub cut_none : (p : ℕ → Bool) (xs : List ℕ) → position p xs ≡ None → slice_split p xs ≡ xs ∷ []
cut_none p xs e =
    let b = cond_none (ltb (position_or_len p xs) (length xs)) (position_or_len p xs) e in
    let le : length xs ≤ position_or_len p xs = ltb-false _ _ b in
    slice_split_none p xs (λ k d h. fails_before_first p xs k d (omega arith))

pub some_parts : (p : ℕ → Bool) (xs : List ℕ) → 0 < length (slice_split p xs)
some_parts p xs = omega (arith, length-slice_split p xs)

-- the words of a line are its parts between spaces
pub left_words : (rest : Option (Bor (List ℕ))) → parts_left 32 rest ≡ words_left rest
left_words None = refl
left_words (Some text) = refl

lines_more : (x : List ℕ) (parts : List (List ℕ)) → 0 < length parts → lines_of_parts (x ∷ parts) ≡ strip_carriage_return x ∷ lines_of_parts parts
lines_more x [] h = absurd (omega arith)
lines_more x (y ∷ ys) h = refl

pub line_some : (text : List ℕ) (i : ℕ) → position (λ b. b == 10) text ≡ Some i → lines text ≡ strip_carriage_return (take i text) ∷ lines (drop (i + 1) text)
line_some text i e =
    let c = (cut_some (λ b. b == 10) text i e).1 in
    ap lines_of_parts c ∙ lines_more (take i text) (slice_split (λ b. b == 10) (drop (i + 1) text)) (some_parts (λ b. b == 10) (drop (i + 1) text))

last_line : (x : List ℕ) → 0 < length x → lines_of_parts (x ∷ []) ≡ x ∷ []
last_line x h = cond-false (length x == 0) [] (x ∷ []) (ne_eqb (length x) 0 (λ e. omega arith))

pub line_none : (text : List ℕ) → 0 < length text → position (λ b. b == 10) text ≡ None → lines text ≡ text ∷ []
line_none text h e = ap lines_of_parts (cut_none (λ b. b == 10) text e) ∙ last_line text h

pub split_some : (text line rest : List ℕ) (i : ℕ) → position (λ b. b == 10) text ≡ Some i → line ≡ strip_carriage_return (take i text) → rest ≡ drop (i + 1) text → IsSplit text line rest
split_some text line rest i e l r =
    let lt = (cut_some (λ b. b == 10) text i e).0 in
    record { lines = rw (l, r) (line_some text i e); shorter = rw r (omega (arith, length-drop (i + 1) text)) }

pub split_none : (text rest : List ℕ) → 0 < length text → position (λ b. b == 10) text ≡ None → rest ≡ [] → IsSplit text text rest
split_none text rest h e r = record { lines = rw r (line_none text h e); shorter = rw r h }

not_empty : (n : ℕ) → 0 < n → false ≡ (n == 0)
not_empty n h = sym (ne_eqb n 0 (λ e. omega arith))

none_ended : (b : Bool) → false ≡ not b → b ≡ true
none_ended true e = refl
none_ended false e = absurd cc

some_ended : (b : Bool) → true ≡ not b → b ≡ false
some_ended true e = absurd cc
some_ended false e = refl

pub ended_is : (rest : Option (Bor (List ℕ))) (b : Bool) → is_some rest ≡ not b → b ≡ (length (words_left rest) == 0)
ended_is None b e = none_ended b e
ended_is (Some text) b e = some_ended b e ∙ not_empty (length (words text.now)) (some_parts (λ c. c == 32) text.now)

pub positive : (n : ℕ) → false ≡ (n == 0) → 0 < n
positive n e = elim (cases_eq n 0) [ inl z ↦ absurd (eqb-false n 0 (sym e) z) | inr nz ↦ omega arith ]
