-- Reading values one after the other.
use Rattle.std.proofs.Common.{◌≡◌, ℕ, suc, ◌+◌, ◌-◌, ◌<◌, List, [], ◌∷◌, ◌++◌, length, Option, Some, None, refl, sym, ap, ◌∙◌, append_assoc, arith}
use Rattle.std.proofs.lemmas.List.{append-nil, length_push}
use Rattle.scenario.specs.Numbers.{number_of}
use Rattle.scenario.specs.Reading.{◌>>=◌, values_of}

-- what was read before, and what is still read
abbrev pub with_front : List ℕ → Option (List ℕ) → Option (List ℕ)
with_front front read = read >>= λ xs. Some (front ++ xs)

regroup : (front : List ℕ) (n : ℕ) (read : Option (List ℕ)) → with_front front (read >>= λ xs. Some (n ∷ xs)) ≡ with_front (front ++ n ∷ []) read
regroup front n (Some xs) = ap (λ (ys : List ℕ). Some ys) (simp append_assoc)
regroup front n None = refl

pub goes_on : (front : List ℕ) (word : List ℕ) (rest before : List (List ℕ)) (n : ℕ) (total : Option (List ℕ)) → length front < 8 → before ≡ word ∷ rest → number_of word ≡ Some n
    → with_front front (values_of (8 - length front) before) ≡ total → with_front (front ++ n ∷ []) (values_of (8 - length (front ++ n ∷ [])) rest) ≡ total
unfolding values_of
goes_on front word rest before n total lt cut h so_far =
    let k : 8 - length front ≡ suc (8 - length (front ++ n ∷ [])) = omega (arith, length_push front n) in
    let one : with_front front (values_of (8 - length front) before) ≡ with_front (front ++ n ∷ []) (values_of (8 - length (front ++ n ∷ [])) rest) = rw (cut, k, h) (regroup front n (values_of (8 - length (front ++ n ∷ [])) rest)) in
    sym one ∙ so_far

no_room : (before : List (List ℕ)) → 0 < length before → values_of 0 before ≡ None
unfolding values_of
no_room [] h = absurd (omega arith)
no_room (word ∷ rest) h = refl

pub is_full : (front : List ℕ) (before : List (List ℕ)) (total : Option (List ℕ)) → length front ≡ 8 → 0 < length before
    → with_front front (values_of (8 - length front) before) ≡ total → total ≡ None
is_full front before total eq some so_far =
    let k : 8 - length front ≡ 0 = omega arith in
    let one : with_front front (values_of (8 - length front) before) ≡ None = rw (k, no_room before some) refl in
    sym so_far ∙ one

pub fails : (front : List ℕ) (word : List ℕ) (rest before : List (List ℕ)) (total : Option (List ℕ)) → length front < 8 → before ≡ word ∷ rest → number_of word ≡ None
    → with_front front (values_of (8 - length front) before) ≡ total → total ≡ None
unfolding values_of
fails front word rest before total lt cut h so_far =
    let k : 8 - length front ≡ suc (8 - (length front + 1)) = omega arith in
    let one : with_front front (values_of (8 - length front) before) ≡ None = rw (cut, k, h) refl in
    sym so_far ∙ one

pub is_done : (front : List ℕ) (room : ℕ) (rest : List (List ℕ)) (total : Option (List ℕ)) → rest ≡ [] → with_front front (values_of room rest) ≡ total → total ≡ Some front
unfolding values_of
is_done front room rest total e so_far =
    let one : with_front front (values_of room rest) ≡ Some front = rw e (ap (λ (ys : List ℕ). Some ys) (append-nil front)) in
    sym so_far ∙ one
