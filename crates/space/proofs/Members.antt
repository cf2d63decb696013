-- Which numbers stand in which lists of lists.
use Rattle.std.proofs.Common.{◌≡◌, ℕ, zero, suc, ◌<◌, Bool, true, false, ◌&&◌, ◌||◌, List, [], ◌∷◌, ◌++◌, map, take, drop, length, get_or, set, refl, sym, ap, subst, ◌∙◌, arith, ◌⊎◌, inl, inr}
use Rattle.std.specs.List.{filter, list_any, concat}
use Rattle.std.proofs.Math.Dec.{eqb}
use Rattle.std.proofs.lemmas.List.{take-append-drop}
use Rattle.std.proofs.lemmas.List.Elements.{filter-append}
use Rattle.std.proofs.lemmas.Bool.{eq-eqb, or_parts, or_cases, or_from, or_left, or_right, both_ways, false_from_ne_true, true≢false}
use Rattle.evac_model.specs.Numbers.{is_in, AreDistinct}
use Rattle.evac_model.proofs.Distinct.{distinct-filter}
use Rattle.frame_cache.proofs.Members.{is_in-concat, distinct_left, distinct_right, distinct_apart}
use Rattle.evac_model.proofs.Members.{is_in-append, is_in-filter}
use Rattle.std.proofs.Math.Bool.{or_assoc, and-or_distrib_right}

pub any-filter : (t : ℕ → Bool) (f : ℕ) (xss : List (List ℕ)) → list_any (is_in f) (map (filter t) xss) ≡ (list_any (is_in f) xss && t f)
any-filter t f [] = refl
any-filter t f (xs ∷ xss) =
    ap (λ (b : Bool). is_in f (filter t xs) || b) (any-filter t f xss)
    ∙ (ap (λ (b : Bool). b || (list_any (is_in f) xss && t f)) (is_in-filter t f xs)
    ∙ sym (and-or_distrib_right (is_in f xs) (list_any (is_in f) xss) (t f)))

-- a filter that keeps all
pub filter_all : (t : ℕ → Bool) (xs : List ℕ) → ((f : ℕ) → is_in f xs ≡ true → t f ≡ true) → filter t xs ≡ xs
filter_all t [] h = refl
filter_all t (x ∷ xs) h =
    let here : t x ≡ true = h x (or_left _ _ (eq-eqb x x refl)) in
    let rest : filter t xs ≡ xs = filter_all t xs (λ f there. h f (or_right _ _ there)) in
    rw (here, rest) refl

pub filter_each_all : (t : ℕ → Bool) (xss : List (List ℕ)) → ((f : ℕ) → list_any (is_in f) xss ≡ true → t f ≡ true) → map (filter t) xss ≡ xss
filter_each_all t [] h = refl
filter_each_all t (xs ∷ xss) h =
    let here : filter t xs ≡ xs = filter_all t xs (λ f there. h f (or_left _ _ there)) in
    let rest : map (filter t) xss ≡ xss = filter_each_all t xss (λ f there. h f (or_right _ _ there)) in
    rw (here, rest) refl

pub get_or-filter_each : (t : ℕ → Bool) (xss : List (List ℕ)) (who : ℕ) → get_or (map (filter t) xss) who [] ≡ filter t (get_or xss who [])
get_or-filter_each t [] who = refl
get_or-filter_each t (xs ∷ xss) zero = refl
get_or-filter_each t (xs ∷ xss) (suc who) = get_or-filter_each t xss who

-- a list put in another's place
pub any-set_in : (f : ℕ) (xss : List (List ℕ)) (who : ℕ) (xs : List ℕ) → list_any (is_in f) (set xss who xs) ≡ true → (is_in f xs ≡ true) ⊎ (list_any (is_in f) xss ≡ true)
any-set_in f [] who xs h = inr h
any-set_in f (ys ∷ yss) zero xs h =
    elim (or_cases (is_in f xs) (list_any (is_in f) yss) h) [
      | inl here ↦ inl here
      | inr there ↦ inr (or_right _ _ there)
    ]
any-set_in f (ys ∷ yss) (suc who) xs h =
    elim (or_cases (is_in f ys) (list_any (is_in f) (set yss who xs)) h) [
      | inl here ↦ inr (or_left _ _ here)
      | inr there ↦ elim (any-set_in f yss who xs there) [ inl new ↦ inl new | inr old ↦ inr (or_right _ _ old) ]
    ]

or_swap : (x y z : Bool) → (x || (y || z)) ≡ (y || (x || z))
or_swap true true z = refl
or_swap true false z = refl
or_swap false y z = refl

-- the number is of the list put in, or of the lists but the one replaced
pub any-set_empty : (f : ℕ) (xss : List (List ℕ)) (who : ℕ) (xs : List ℕ) → who < length xss → get_or xss who [] ≡ [] → list_any (is_in f) (set xss who xs) ≡ (is_in f xs || list_any (is_in f) xss)
any-set_empty f [] who xs l e = absurd (omega arith)
any-set_empty f (ys ∷ yss) zero xs l e =
    ap (λ (zs : List ℕ). is_in f xs || (is_in f zs || list_any (is_in f) yss)) (sym e)
any-set_empty f (ys ∷ yss) (suc who) xs l e =
    ap (λ (b : Bool). is_in f ys || b) (any-set_empty f yss who xs (omega arith) e)
    ∙ or_swap (is_in f ys) (is_in f xs) (list_any (is_in f) yss)

pub any-set_rest : (f : ℕ) (xss : List (List ℕ)) (who x : ℕ) (xs : List ℕ) → get_or xss who [] ≡ x ∷ xs → list_any (is_in f) xss ≡ (eqb f x || list_any (is_in f) (set xss who xs))
any-set_rest f [] who x xs e = cc
any-set_rest f (ys ∷ yss) zero x xs e =
    ap (λ (zs : List ℕ). is_in f zs || list_any (is_in f) yss) e ∙ (or_assoc (eqb f x) (is_in f xs) (list_any (is_in f) yss))
any-set_rest f (ys ∷ yss) (suc who) x xs e =
    ap (λ (b : Bool). is_in f ys || b) (any-set_rest f yss who x xs e)
    ∙ or_swap (is_in f ys) (eqb f x) (list_any (is_in f) (set yss who xs))

-- lists in which no number stands twice
concat_filter : (t : ℕ → Bool) (xss : List (List ℕ)) → concat (map (filter t) xss) ≡ filter t (concat xss)
concat_filter t [] = refl
concat_filter t (xs ∷ xss) = ap (λ (ys : List ℕ). filter t xs ++ ys) (concat_filter t xss) ∙ sym (filter-append t xs (concat xss))

pub distinct-filter_each : (t : ℕ → Bool) (xss : List (List ℕ)) → AreDistinct (concat xss) → AreDistinct (concat (map (filter t) xss))
distinct-filter_each t xss h = subst AreDistinct (sym (concat_filter t xss)) (distinct-filter t (concat xss) h)

distinct_join : (xs ys : List ℕ) → AreDistinct xs → AreDistinct ys → ((f : ℕ) → is_in f xs ≡ true → is_in f ys ≡ false) → AreDistinct (xs ++ ys)
distinct_join [] ys dx dy apart = dy
distinct_join (x ∷ xs) ys dx dy apart = (
  is_in-append x xs ys ∙ or_from _ _ dx.0 (apart x (or_left _ _ (eq-eqb x x refl))),
  distinct_join xs ys dx.1 dy (λ f h. apart f (or_right _ _ h)),
)

pub any-get_or : (f : ℕ) (xss : List (List ℕ)) (who : ℕ) → is_in f (get_or xss who []) ≡ true → list_any (is_in f) xss ≡ true
any-get_or f [] who h = h
any-get_or f (xs ∷ xss) zero h = or_left _ _ h
any-get_or f (xs ∷ xss) (suc who) h = or_right _ _ (any-get_or f xss who h)

-- a list put in another's place has numbers of that one, or such as stand in none
pub distinct-set : (xss : List (List ℕ)) (who : ℕ) (xs : List ℕ) → AreDistinct (concat xss) → AreDistinct xs → ((f : ℕ) → is_in f xs ≡ true → (is_in f (get_or xss who []) ≡ true) ⊎ (list_any (is_in f) xss ≡ false)) → AreDistinct (concat (set xss who xs))
distinct-set [] who xs d new from = d
distinct-set (ys ∷ yss) zero xs d new from =
    distinct_join xs (concat yss) new (distinct_right ys (concat yss) d) (λ f h.
    elim (from f h) [
      | inl here ↦ false_from_ne_true (is_in f (concat yss)) (λ t. both_ways (is_in f ys) (distinct_apart f ys (concat yss) d t) here)
      | inr none ↦ is_in-concat f yss ∙ (or_parts _ _ none).1
    ])
distinct-set (ys ∷ yss) (suc who) xs d new from =
    let rest : AreDistinct (concat (set yss who xs)) = distinct-set yss who xs (distinct_right ys (concat yss) d) new (λ f h. elim (from f h) [
      | inl here ↦ inl here
      | inr none ↦ inr (or_parts _ _ none).1
    ]) in
    let old_apart : (f : ℕ) → is_in f ys ≡ true → list_any (is_in f) yss ≡ true → ⊥ = λ f h there.
    both_ways (is_in f ys) (distinct_apart f ys (concat yss) d (is_in-concat f yss ∙ there)) h in
    distinct_join ys (concat (set yss who xs)) (distinct_left ys (concat yss) d) rest (λ f h.
    is_in-concat f (set yss who xs) ∙ false_from_ne_true (list_any (is_in f) (set yss who xs)) (λ t. elim (any-set_in f yss who xs t) [
      | inl new_one ↦ elim (from f new_one) [
        | inl here ↦ old_apart f h (any-get_or f yss who here)
        | inr none ↦ both_ways (is_in f ys) (or_parts _ _ none).0 h
      ]
      | inr old_one ↦ old_apart f h old_one
    ]))

-- the first number of a list stands in no list once it is taken off
pub any-rest_none : (xss : List (List ℕ)) (who x : ℕ) (xs : List ℕ) → AreDistinct (concat xss) → get_or xss who [] ≡ x ∷ xs → list_any (is_in x) (set xss who xs) ≡ false
any-rest_none [] who x xs d e = refl
any-rest_none (ys ∷ yss) zero x xs d e =
    let whole : AreDistinct ((x ∷ xs) ++ concat yss) = subst (λ (zs : List ℕ). AreDistinct (zs ++ concat yss)) e d in
    let parts : (is_in x xs ≡ false) × (is_in x (concat yss) ≡ false) = or_parts _ _ (sym (is_in-append x xs (concat yss)) ∙ whole.0) in
    or_from _ _ parts.0 (sym (is_in-concat x yss) ∙ parts.1)
any-rest_none (ys ∷ yss) (suc who) x xs d e =
    let here : is_in x (get_or yss who []) ≡ true = ap (is_in x) e ∙ or_left _ _ (eq-eqb x x refl) in
    or_from _ _ (distinct_apart x ys (concat yss) d (is_in-concat x yss ∙ any-get_or x yss who here)) (any-rest_none yss who x xs (distinct_right ys (concat yss) d) e)

pub distinct-get_or : (xss : List (List ℕ)) (who : ℕ) → AreDistinct (concat xss) → AreDistinct (get_or xss who [])
distinct-get_or [] who d = tt
distinct-get_or (xs ∷ xss) zero d = distinct_left xs (concat xss) d
distinct-get_or (xs ∷ xss) (suc who) d = distinct-get_or xss who (distinct_right xs (concat xss) d)

-- where the new list has a number as the old one did, so do all lists
pub any-set_same : (f : ℕ) (xss : List (List ℕ)) (who : ℕ) (xs : List ℕ) → is_in f xs ≡ is_in f (get_or xss who []) → list_any (is_in f) (set xss who xs) ≡ list_any (is_in f) xss
any-set_same f [] who xs e = refl
any-set_same f (ys ∷ yss) zero xs e = ap (λ (t : Bool). t || list_any (is_in f) yss) e
any-set_same f (ys ∷ yss) (suc who) xs e = ap (λ (t : Bool). is_in f ys || t) (any-set_same f yss who xs e)

-- a number of the new list
pub any-set_new : (f : ℕ) (xss : List (List ℕ)) (who : ℕ) (xs : List ℕ) → who < length xss → is_in f xs ≡ true → list_any (is_in f) (set xss who xs) ≡ true
any-set_new f [] who xs l e = absurd (omega arith)
any-set_new f (ys ∷ yss) zero xs l e = or_left _ _ e
any-set_new f (ys ∷ yss) (suc who) xs l e = or_right _ _ (any-set_new f yss who xs (omega arith) e)

-- a number that only the old list had, and that the new one hasn't
pub any-set_gone : (f : ℕ) (xss : List (List ℕ)) (who : ℕ) (xs : List ℕ) → AreDistinct (concat xss) → is_in f (get_or xss who []) ≡ true → is_in f xs ≡ false → list_any (is_in f) (set xss who xs) ≡ false
any-set_gone f [] who xs d there e = absurd (true≢false (sym there))
any-set_gone f (ys ∷ yss) zero xs d there e =
    or_from _ _ e (sym (is_in-concat f yss) ∙ false_from_ne_true (is_in f (concat yss)) (λ t. both_ways (is_in f ys) (distinct_apart f ys (concat yss) d t) there))
any-set_gone f (ys ∷ yss) (suc who) xs d there e =
    or_from _ _ (distinct_apart f ys (concat yss) d (is_in-concat f yss ∙ any-get_or f yss who there)) (any-set_gone f yss who xs (distinct_right ys (concat yss) d) there e)

-- the first numbers of a list
pub is_in_take : (f n : ℕ) (xs : List ℕ) → is_in f (take n xs) ≡ true → is_in f xs ≡ true
is_in_take f n xs h =
    ap (is_in f) (sym (take-append-drop n xs)) ∙ is_in-append f (take n xs) (drop n xs) ∙ or_left _ _ h

pub distinct-take : (n : ℕ) (xs : List ℕ) → AreDistinct xs → AreDistinct (take n xs)
distinct-take n xs d = distinct_left (take n xs) (drop n xs) (subst AreDistinct (sym (take-append-drop n xs)) d)
