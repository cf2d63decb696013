-- Which numbers stand in a list, and lists in which no number stands twice.
use Rattle.std.proofs.Common.{◌≡◌, ℕ, ◌+◌, ◌<◌, Bool, true, false, ◌||◌, List, [], ◌∷◌, ◌++◌, take, drop, reverse, length, get_or, refl, sym, ap, ◌∙◌, subst}
use Rattle.std.specs.List.{list_any, concat}
use Rattle.std.proofs.Math.Dec.{eqb}
use Rattle.std.proofs.lemmas.Bool.{eqb-true, eq-eqb, or_parts, or_from, or_left, or_right, both_ways, false_from_ne_true}
use Rattle.std.proofs.lemmas.List.{take_more, drop_more, take-append-drop, reverse-append}
use Rattle.evac_model.specs.Numbers.{is_in, AreDistinct}
use Rattle.std.proofs.Math.Bool.{or-false, or_comm}
use Rattle.evac_model.proofs.Members.{is_in-append}

reverse_cons : (x : ℕ) (xs : List ℕ) → reverse (x ∷ xs) ≡ reverse xs ++ x ∷ []
reverse_cons x xs = reverse-append (x ∷ []) xs

pub is_in-reverse : (b : ℕ) (xs : List ℕ) → is_in b (reverse xs) ≡ is_in b xs
is_in-reverse b [] = refl
is_in-reverse b (x ∷ xs) =
    ap (is_in b) (reverse_cons x xs) ∙ (is_in-append b (reverse xs) (x ∷ []) ∙ (ap (λ (t : Bool). t || (eqb b x || false)) (is_in-reverse b xs) ∙ ap (λ (t : Bool). is_in b xs || t) (or-false (eqb b x)) ∙ or_comm (is_in b xs) (eqb b x)))

-- one more number of a list
pub is_in_more : (b : ℕ) (xs : List ℕ) (i : ℕ) → i < length xs → is_in b (take (i + 1) xs) ≡ (is_in b (take i xs) || eqb b (get_or xs i 0))
is_in_more b xs i within =
    ap (is_in b) (take_more xs i 0 within) ∙ (is_in-append b (take i xs) (get_or xs i 0 ∷ []) ∙ ap (λ (t : Bool). is_in b (take i xs) || t) (or-false (eqb b (get_or xs i 0))))

-- the numbers of all lists
pub is_in-concat : (b : ℕ) (xss : List (List ℕ)) → is_in b (concat xss) ≡ list_any (is_in b) xss
is_in-concat b [] = refl
is_in-concat b (xs ∷ xss) =
    is_in-append b xs (concat xss) ∙ ap (λ (t : Bool). is_in b xs || t) (is_in-concat b xss)

-- the parts of a list without a number that stands twice
pub distinct_left : (xs ys : List ℕ) → AreDistinct (xs ++ ys) → AreDistinct xs
distinct_left [] ys h = tt
distinct_left (x ∷ xs) ys h = ((or_parts _ _ (sym (is_in-append x xs ys) ∙ h.0)).0, distinct_left xs ys h.1)

pub distinct_right : (xs ys : List ℕ) → AreDistinct (xs ++ ys) → AreDistinct ys
distinct_right [] ys h = h
distinct_right (x ∷ xs) ys h = distinct_right xs ys h.1

pub distinct_apart : (b : ℕ) (xs ys : List ℕ) → AreDistinct (xs ++ ys) → is_in b ys ≡ true → is_in b xs ≡ false
distinct_apart b [] ys h there = refl
distinct_apart b (x ∷ xs) ys h there =
    let rest : is_in b xs ≡ false = distinct_apart b xs ys h.1 there in
    let none : is_in x ys ≡ false = (or_parts _ _ (sym (is_in-append x xs ys) ∙ h.0)).1 in
    let other : eqb b x ≡ false = false_from_ne_true (eqb b x) (λ e. both_ways (is_in b ys) (ap (λ (z : ℕ). is_in z ys) (eqb-true b x e) ∙ none) there) in
    or_from _ _ other rest

-- and the whole of two such lists that share none
distinct_push : (xs : List ℕ) (b : ℕ) → AreDistinct xs → is_in b xs ≡ false → AreDistinct (xs ++ b ∷ [])
distinct_push [] b h none = (refl, tt)
distinct_push (x ∷ xs) b h none =
    let parts : (eqb b x ≡ false) × (is_in b xs ≡ false) = or_parts (eqb b x) (is_in b xs) none in
    let other : eqb x b ≡ false = false_from_ne_true (eqb x b) (λ e. both_ways (eqb b x) parts.0 (eq-eqb b x (sym (eqb-true x b e)))) in
    (is_in-append x xs (b ∷ []) ∙ or_from _ _ h.0 (or_from _ _ other refl), distinct_push xs b h.1 parts.1)

pub distinct-reverse : (xs : List ℕ) → AreDistinct xs → AreDistinct (reverse xs)
distinct-reverse [] h = tt
distinct-reverse (x ∷ xs) h =
    subst AreDistinct (sym (reverse_cons x xs)) (distinct_push (reverse xs) x (distinct-reverse xs h.1) (is_in-reverse x xs ∙ h.0))

-- a number of a list is in it, and not among those before it where none stands twice
is_in_rest : (xs : List ℕ) (i : ℕ) → i < length xs → is_in (get_or xs i 0) (drop i xs) ≡ true
is_in_rest xs i within =
    ap (is_in (get_or xs i 0)) (drop_more xs i 0 within) ∙ or_left (eqb (get_or xs i 0) (get_or xs i 0)) _ (eq-eqb (get_or xs i 0) (get_or xs i 0) refl)

pub is_in-get_or : (xs : List ℕ) (i : ℕ) → i < length xs → is_in (get_or xs i 0) xs ≡ true
is_in-get_or xs i within =
    ap (is_in (get_or xs i 0)) (sym (take-append-drop i xs)) ∙ (is_in-append (get_or xs i 0) (take i xs) (drop i xs) ∙ or_right _ _ (is_in_rest xs i within))

pub is_in_before : (xs : List ℕ) (i : ℕ) → i < length xs → AreDistinct xs → is_in (get_or xs i 0) (take i xs) ≡ false
is_in_before xs i within h =
    distinct_apart (get_or xs i 0) (take i xs) (drop i xs) (subst AreDistinct (sym (take-append-drop i xs)) h) (is_in_rest xs i within)
