-- A hand of blocks: what a set with more blocks has.
use Rattle.std.proofs.Common.{◌≡◌, ◌≢◌, ℕ, ◌+◌, ◌-◌, ◌<◌, ◌≤◌, Bool, true, false, ◌&&◌, ◌||◌, List, [], ◌∷◌, refl, sym, ap, ◌∙◌, arith, inl, inr}
use Rattle.std.specs.List.{range_with_len}
use Rattle.std.proofs.lemmas.Bool.{cases_lt, cases_eq, eq-eqb, ne_eqb, lt-ltb, le-ltb}
use Rattle.std.proofs.Math.Bool.{and-false, and-true, or-false, or-true}
use Rattle.std.proofs.Math.Dec.{eqb, ltb}
use Rattle.evac_model.specs.Numbers.{is_in, is_between, united, without_range, IsRisingBelow}
use Rattle.evac_model.proofs.Numbers.{numbers_agree}
use Rattle.evac_model.proofs.Ranges.{between_inside, between_below, between_above}
use Rattle.evac_model.proofs.Members.{is_in-range_with_len}
use Rattle.evac_model.proofs.Unions.{united_below, united_none, without_none, rising_past}

-- no blocks lie below 0
pub nothing_below : (xs : List ℕ) → ((b : ℕ) → is_in b xs ≡ true → b < 0) → xs ≡ []
nothing_below [] h = refl
nothing_below (x ∷ xs) h =
    let here : is_in x (x ∷ xs) ≡ true = ap (λ (t : Bool). t || is_in x xs) (eq-eqb x x refl) in
    absurd (omega (arith, h x here))

-- the last block of a range lies below a bound, and so do all
pub range_inside : (first n m : ℕ) → 0 < n → ((b : ℕ) → is_in b (range_with_len first n) ≡ true → b < m) → first + n ≤ m
range_inside first n m some h =
    let last : ℕ = first + n - 1 in
    let there : is_in last (range_with_len first n) ≡ true = is_in-range_with_len last first n ∙ between_inside first (first + n) last (omega arith) (omega arith) in
    let below : first + n - 1 < m = h last there in
    omega (arith, some, below)

-- the numbers of a second list below b, and then b too
less_more : (k b : ℕ) → eqb k b ≡ false → ltb k (b + 1) ≡ ltb k b
less_more k b ne =
    elim (cases_lt k b) [
      | inl l ↦ lt-ltb k (b + 1) (omega arith) ∙ sym (lt-ltb k b l)
      | inr g ↦ elim (cases_eq k b) [
        | inl e ↦ let x : true ≡ false = sym (eq-eqb k b e) ∙ ne in cc
        | inr other ↦ le-ltb k (b + 1) (omega (arith, g, other)) ∙ sym (le-ltb k b g)
      ]
    ]

between_outside : (b k : ℕ) → k ≢ b → is_between b (b + 1) k ≡ false
between_outside b k ne =
    elim (cases_lt k b) [
      | inl l ↦ between_below b (b + 1) k l
      | inr g ↦ between_above b (b + 1) k (omega (arith, g, ne))
    ]

-- before the first
pub added_none : (old more : Bool) (k : ℕ) → old ≡ (old || (more && ltb k 0))
added_none old more k = sym (ap (λ (t : Bool). old || (more && t)) (le-ltb k 0 (omega arith)) ∙ ap (λ (t : Bool). old || t) (and-false more) ∙ or-false old)

-- one number more, which stands in the second list, or doesn't
pub added_more : (old more before : ℕ → Bool) (b : ℕ) → ((k : ℕ) → before k ≡ (old k || (more k && ltb k b))) → more b ≡ true → (k : ℕ) → (before k || is_between b (b + 1) k) ≡ (old k || (more k && ltb k (b + 1)))
added_more old more before b h there k =
    elim (cases_eq k b) [
      | inl e ↦
          ap (λ (t : Bool). before k || t) (between_inside b (b + 1) k (omega (arith, e)) (omega (arith, e))) ∙ or-true (before k)
          ∙ sym (ap (λ (t : Bool). old k || (t && ltb k (b + 1))) (ap more e ∙ there) ∙ ap (λ (t : Bool). old k || t) (lt-ltb k (b + 1) (omega (arith, e))) ∙ or-true (old k))
      | inr ne ↦
          ap (λ (t : Bool). before k || t) (between_outside b k ne) ∙ or-false (before k) ∙ h k
          ∙ ap (λ (t : Bool). old k || (more k && t)) (sym (less_more k b (ne_eqb k b ne)))
    ]

pub added_same : (old more before : ℕ → Bool) (b : ℕ) → ((k : ℕ) → before k ≡ (old k || (more k && ltb k b))) → more b ≡ false → (k : ℕ) → before k ≡ (old k || (more k && ltb k (b + 1)))
added_same old more before b h none k =
    elim (cases_eq k b) [
      | inl e ↦
          h k ∙ ap (λ (t : Bool). old k || (t && ltb k b)) (ap more e ∙ none)
          ∙ sym (ap (λ (t : Bool). old k || (t && ltb k (b + 1))) (ap more e ∙ none))
      | inr ne ↦ h k ∙ ap (λ (t : Bool). old k || (more k && t)) (sym (less_more k b (ne_eqb k b ne)))
    ]

below_end : (end : ℕ) (more : List ℕ) → IsRisingBelow end more → (b : ℕ) → (is_in b more && ltb b end) ≡ is_in b more
below_end end more r b =
    elim (cases_lt b end) [
      | inl l ↦ ap (λ (t : Bool). is_in b more && t) (lt-ltb b end l) ∙ and-true (is_in b more)
      | inr g ↦ ap (λ (t : Bool). t && ltb b end) (rising_past end more r b g) ∙ sym (rising_past end more r b g)
    ]

none_past : (m b : ℕ) (t : Bool) → (t ≡ true → b < m) → m ≤ b → t ≡ false
none_past m b true h g = absurd (omega (arith, h refl, g))
none_past m b false h g = refl

-- all of the second list
pub added_all : (m end : ℕ) (old more after : List ℕ) → IsRisingBelow m old → IsRisingBelow end more → IsRisingBelow m after → ((b : ℕ) → is_in b more ≡ true → b < m) → ((k : ℕ) → is_in k after ≡ (is_in k old || (is_in k more && ltb k end))) → after ≡ united old more
added_all m end old more after r s a below has =
    a ∙ numbers_agree (λ b. is_in b after) (λ b. is_in b old || is_in b more) m (λ b l.
    has b ∙ ap (λ (t : Bool). is_in b old || t) (below_end end more s b))
    ∙ sym (united_below old more m (rising_past m old r) (λ b h. none_past m b (is_in b more) (below b) h))

-- no block is taken out
pub without_nothing : (first n : ℕ) (xs : List ℕ) → first + n ≤ 0 → without_range first n xs ≡ xs
without_nothing first n xs h =
    let z : n ≡ 0 = omega arith in
    ap (λ (k : ℕ). without_range first k xs) z ∙ without_none first xs

-- no block is taken in
pub united_nothing : (m : ℕ) (xs ys : List ℕ) → IsRisingBelow m xs → ((b : ℕ) → is_in b ys ≡ true → b < 0) → xs ≡ united xs ys
united_nothing m xs ys r h = sym (ap (united xs) (nothing_below ys h) ∙ united_none m xs r)

-- a hand that takes in an empty range
pub united_empty : (m : ℕ) (xs : List ℕ) (first n : ℕ) → IsRisingBelow m xs → n ≤ 0 → xs ≡ united xs (range_with_len first n)
united_empty m xs first n r h =
    let z : n ≡ 0 = omega arith in
    sym (ap (λ (k : ℕ). united xs (range_with_len first k)) z ∙ united_none m xs r)
