-- The orders of a part's free runs.
use Rattle.std.proofs.Common.{◌≡◌, ℕ, zero, suc, ◌^◌, ◌≤◌, ◌<◌, Bool, true, false, eqb, leb, ◌&&◌, List, [], ◌∷◌, ◌++◌, length, take, drop, replicate, Option, Some, None, bit_or, refl, sym, ap, ◌∙◌, arith, inl, inr}
use Rattle.std.specs.List.{list_all}
use Rattle.std.proofs.lemmas.Bool.{and_parts, and_right, and_from, cases_Bool, cond-true, cond-false, le-leb, leb-true, eq-eqb, ne_eqb, eqb-true, both_ways, cases_eq}
use Rattle.std.proofs.lemmas.Nat.{or_lt, le_or_l, le_or_r, pow_below, pow_pos}
use Rattle.std.proofs.lemmas.List.{take_at, drop_at, take-append-drop, take-replicate, drop-replicate, length-take-le, length-drop, replicate-append-replicate}
use Rattle.std.proofs.lemmas.List.Folds.{list_all-append}
use Rattle.buddy.specs.Parts.{is_whole}
use Rattle.buddy.specs.TreeInside.{orders_of, alike, flags}
use Rattle.buddy.proofs.Powers.{pow_double, pow_le}
use Rattle.buddy.proofs.Flags.{all_of_true, true_from_all}

-- a part that is a run as a whole, and one that isn't
pub orders_of-whole : (t n : ℕ) (free : List Bool) → is_whole t n free ≡ true → orders_of t n free ≡ 2 ^ n
orders_of-whole t zero free h = cond-true (is_whole t 0 free) 1 0 h
orders_of-whole t (suc k) free h = cond-true (is_whole t (suc k) free) (2 ^ suc k) _ h

pub orders_of-split : (t k : ℕ) (free : List Bool) → is_whole t (suc k) free ≡ false → orders_of t (suc k) free ≡ bit_or (orders_of t k (take (2 ^ k) free)) (orders_of t k (drop (2 ^ k) free))
orders_of-split t k free h = cond-false (is_whole t (suc k) free) (2 ^ suc k) _ h

-- no order is above the part's, and that is there only where the part is a run as a whole
orders_small : (t n : ℕ) (free : List Bool) → (orders_of t n free ≤ 2 ^ n) × (is_whole t n free ≡ false → orders_of t n free < 2 ^ n)
orders_small t zero free =
    elim (cases_Bool (is_whole t 0 free)) [
      | inl w ↦ (omega (arith, cond-true {A = ℕ} (is_whole t 0 free) 1 0 w), λ z. absurd (both_ways _ z w))
      | inr w ↦ (omega (arith, cond-false {A = ℕ} (is_whole t 0 free) 1 0 w), λ z. omega (arith, cond-false {A = ℕ} (is_whole t 0 free) 1 0 w))
    ]
orders_small t (suc k) free =
    let low = orders_small t k (take (2 ^ k) free) in
    let high = orders_small t k (drop (2 ^ k) free) in
    let below = pow_below k (suc k) (omega arith) in
    let both = or_lt (suc k) (orders_of t k (take (2 ^ k) free)) (orders_of t k (drop (2 ^ k) free)) (omega (arith, low.0, below)) (omega (arith, high.0, below)) in
    elim (cases_Bool (is_whole t (suc k) free)) [
      | inl w ↦ (omega (arith, orders_of-whole t (suc k) free w), λ z. absurd (both_ways _ z w))
      | inr w ↦ (omega (arith, orders_of-split t k free w, both), λ z. omega (arith, orders_of-split t k free w, both))
    ]

pub orders_of_le : (t n : ℕ) (free : List Bool) → orders_of t n free ≤ 2 ^ n
orders_of_le t n free = (orders_small t n free).0

pub whole_from_orders : (t n : ℕ) (free : List Bool) → orders_of t n free ≡ 2 ^ n → is_whole t n free ≡ true
whole_from_orders t n free e =
    elim (cases_Bool (is_whole t n free)) [
      | inl w ↦ w
      | inr w ↦ absurd (omega (arith, e, (orders_small t n free).1 w))
    ]

-- a part with no free frame, and one with all frames free
pub none_all : (n : ℕ) → list_all (λ (b : Bool). b) (replicate (2 ^ n) false) ≡ false
none_all n = first_false (2 ^ n) (pow_pos n)
  where
    first_false : (m : ℕ) → 0 < m → list_all (λ (b : Bool). b) (replicate m false) ≡ false
    first_false zero h = absurd (omega arith)
    first_false (suc m) h = refl

pub orders_of_none : (t n : ℕ) → orders_of t n (replicate (2 ^ n) false) ≡ 0
orders_of_none t zero = cond-false (is_whole t 0 (replicate (2 ^ 0) false)) 1 0 (and_right _ _ (none_all 0))
orders_of_none t (suc k) =
    let low : take (2 ^ k) (replicate (2 ^ suc k) false) ≡ replicate (2 ^ k) false = take-replicate (2 ^ k) (2 ^ suc k) false (pow_le k (suc k) (omega arith)) in
    let high : drop (2 ^ k) (replicate (2 ^ suc k) false) ≡ replicate (2 ^ k) false = drop-replicate (2 ^ k) (2 ^ suc k) false ∙ ap (λ (m : ℕ). replicate m false) (omega (arith, pow_double k)) in
    orders_of-split t k (replicate (2 ^ suc k) false) (and_right _ _ (none_all (suc k)))
    ∙ ap (λ (xs : List Bool). bit_or (orders_of t k xs) (orders_of t k (drop (2 ^ k) (replicate (2 ^ suc k) false)))) low
    ∙ ap (λ (xs : List Bool). bit_or (orders_of t k (replicate (2 ^ k) false)) (orders_of t k xs)) high
    ∙ ap (λ (m : ℕ). bit_or m m) (orders_of_none t k)

pub orders_of_all : (t n : ℕ) → n ≤ t → orders_of t n (replicate (2 ^ n) true) ≡ 2 ^ n
orders_of_all t n h = orders_of-whole t n (replicate (2 ^ n) true) (and_from _ _ (le-leb n t h) (all_of_true (2 ^ n)))

-- where no order is there, no frame is free
pub none_from_orders : (t n : ℕ) (free : List Bool) → length free ≡ 2 ^ n → orders_of t n free ≡ 0 → free ≡ replicate (2 ^ n) false
none_from_orders t zero free l e = one_place free l e
  where
    one_place : (free : List Bool) → length free ≡ 2 ^ 0 → orders_of t 0 free ≡ 0 → free ≡ replicate (2 ^ 0) false
    one_place [] l e = absurd (omega arith)
    one_place (false ∷ []) l e = refl
    one_place (true ∷ []) l e = absurd (omega (arith, e, cond-true {A = ℕ} (is_whole t 0 (true ∷ [])) 1 0 (and_from _ _ (le-leb 0 t (omega arith)) refl)))
    one_place (x ∷ y ∷ free) l e = absurd (omega arith)
none_from_orders t (suc k) free l e =
    elim (cases_Bool (is_whole t (suc k) free)) [
      | inl w ↦ absurd (omega (arith, e, orders_of-whole t (suc k) free w, pow_pos (suc k)))
      | inr w ↦
          let both : bit_or (orders_of t k (take (2 ^ k) free)) (orders_of t k (drop (2 ^ k) free)) ≡ 0 = sym (orders_of-split t k free w) ∙ e in
          let low : take (2 ^ k) free ≡ replicate (2 ^ k) false = none_from_orders t k (take (2 ^ k) free) (length-take-le (2 ^ k) free (omega (arith, l, pow_double k))) (omega (arith, both, le_or_l (orders_of t k (take (2 ^ k) free)) (orders_of t k (drop (2 ^ k) free)))) in
          let high : drop (2 ^ k) free ≡ replicate (2 ^ k) false = none_from_orders t k (drop (2 ^ k) free) (omega (arith, length-drop (2 ^ k) free, l, pow_double k)) (omega (arith, both, le_or_r (orders_of t k (take (2 ^ k) free)) (orders_of t k (drop (2 ^ k) free)))) in
          sym (take-append-drop (2 ^ k) free)
          ∙ ap (λ (xs : List Bool). xs ++ drop (2 ^ k) free) low
          ∙ ap (λ (xs : List Bool). replicate (2 ^ k) false ++ xs) high
          ∙ replicate-append-replicate (2 ^ k) (2 ^ k) false
          ∙ ap (λ (m : ℕ). replicate m false) (sym (pow_double k))
    ]

pub all_from_orders : (t n : ℕ) (free : List Bool) → length free ≡ 2 ^ n → orders_of t n free ≡ 2 ^ n → free ≡ replicate (2 ^ n) true
all_from_orders t n free l e =
    true_from_all free (and_parts _ _ (whole_from_orders t n free e)).1 ∙ ap (λ (m : ℕ). replicate m true) l

-- what the bits say of alike frames is so
pub flags_same : (t n : ℕ) (free : List Bool) → length free ≡ 2 ^ n → flags (alike t n (orders_of t n free)) n free ≡ free
flags_same t n free l =
    elim (cases_eq (orders_of t n free) 0) [
      | inl z ↦
          ap (λ (o : Option Bool). flags o n free) (cond-true (eqb (orders_of t n free) 0) (Some false) _ (eq-eqb _ _ z))
          ∙ sym (none_from_orders t n free l z)
      | inr nz ↦
          ap (λ (o : Option Bool). flags o n free) (cond-false (eqb (orders_of t n free) 0) (Some false) _ (ne_eqb _ _ nz))
          ∙ elim (cases_Bool (leb n t && eqb (orders_of t n free) (2 ^ n))) [
            | inl w ↦
                ap (λ (o : Option Bool). flags o n free) (cond-true (leb n t && eqb (orders_of t n free) (2 ^ n)) (Some true) None w)
                ∙ sym (all_from_orders t n free l (eqb-true _ _ (and_parts _ _ w).1))
            | inr w ↦ ap (λ (o : Option Bool). flags o n free) (cond-false (leb n t && eqb (orders_of t n free) (2 ^ n)) (Some true) None w)
          ]
    ]

-- the orders of a part, from those of its halves
free_whole : (t n : ℕ) (free : List Bool) → is_whole t n free ≡ true → (n ≤ t) × (list_all (λ (b : Bool). b) free ≡ true)
free_whole t n free w =
    let both = and_parts (leb n t) (list_all (λ (b : Bool). b) free) w in (leb-true n t both.0, both.1)

whole_free : (t n : ℕ) (free : List Bool) → n ≤ t → list_all (λ (b : Bool). b) free ≡ true → is_whole t n free ≡ true
whole_free t n free h all = and_from (leb n t) (list_all (λ (b : Bool). b) free) (le-leb n t h) all

pub orders_of_join_whole : (t k : ℕ) (low high : List Bool) → suc k ≤ t → orders_of t k low ≡ 2 ^ k → orders_of t k high ≡ 2 ^ k → orders_of t (suc k) (low ++ high) ≡ 2 ^ suc k
orders_of_join_whole t k low high h a b =
    let in_low = free_whole t k low (whole_from_orders t k low a) in
    let in_high = free_whole t k high (whole_from_orders t k high b) in
    orders_of-whole t (suc k) (low ++ high)
    (whole_free t (suc k) (low ++ high) h (list_all-append (λ (x : Bool). x) low high ∙ and_from (list_all (λ (b : Bool). b) low) (list_all (λ (b : Bool). b) high) in_low.1 in_high.1))

pub orders_of_join : (t k : ℕ) (low high : List Bool) → length low ≡ 2 ^ k → length high ≡ 2 ^ k → (suc k ≤ t → orders_of t k low ≡ 2 ^ k → orders_of t k high ≡ 2 ^ k → ⊥) → orders_of t (suc k) (low ++ high) ≡ bit_or (orders_of t k low) (orders_of t k high)
orders_of_join t k low high l m none =
    elim (cases_Bool (is_whole t (suc k) (low ++ high))) [
      | inl w ↦
          let whole = free_whole t (suc k) (low ++ high) w in
          let both = and_parts (list_all (λ (b : Bool). b) low) (list_all (λ (b : Bool). b) high) (sym (list_all-append (λ (x : Bool). x) low high) ∙ whole.1) in
          let within : k ≤ t = omega (arith, whole.0) in
          absurd (none whole.0 (orders_of-whole t k low (whole_free t k low within both.0)) (orders_of-whole t k high (whole_free t k high within both.1)))
      | inr w ↦
          orders_of-split t k (low ++ high) w
          ∙ ap (λ (xs : List Bool). bit_or (orders_of t k xs) (orders_of t k (drop (2 ^ k) (low ++ high)))) (take_at low high (2 ^ k) l)
          ∙ ap (λ (xs : List Bool). bit_or (orders_of t k low) (orders_of t k xs)) (drop_at low high (2 ^ k) l)
    ]
