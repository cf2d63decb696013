-- Ranges of numbers, as tests.
use Rattle.std.proofs.Common.{◌≡◌, ◌≢◌, ℕ, zero, suc, ◌+◌, ◌<◌, ◌≤◌, Bool, true, false, not, ◌&&◌, ◌||◌, refl, sym, ap, ◌∙◌, arith, inl, inr}
use Rattle.std.specs.List.{list_all, range_with_len}
use Rattle.std.proofs.Math.Bool.{or-true, or-false, and-true, and-false}
use Rattle.std.proofs.Math.Dec.{eqb}
use Rattle.std.proofs.lemmas.Bool.{cases_lt, cases_eq, leb-true, ltb-true, eq-eqb, ne_eqb, and_parts}
use Rattle.std.proofs.lemmas.Bool.Decides.{nat_tests}
use Rattle.evac_model.specs.Numbers.{is_between}

pub between_inside : (first last b : ℕ) → first ≤ b → b < last → is_between first last b ≡ true
between_inside first last b f l = grind (arith, nat_tests)

pub between_below : (first last b : ℕ) → b < first → is_between first last b ≡ false
between_below first last b h = grind (arith, nat_tests)

pub between_above : (first last b : ℕ) → last ≤ b → is_between first last b ≡ false
between_above first last b h = grind (arith, nat_tests)

pub between_bounds : (first last b : ℕ) → is_between first last b ≡ true → (first ≤ b) × (b < last)
between_bounds first last b h = let p = and_parts _ _ h in (leb-true _ _ p.0, ltb-true _ _ p.1)

-- a longer range has one number more
between_more : (first b k : ℕ) → k ≢ b → is_between first (b + 1) k ≡ is_between first b k
between_more first b k h =
    elim (cases_lt k first) [
      | inl l ↦ between_below first (b + 1) k l ∙ sym (between_below first b k l)
      | inr f ↦ elim (cases_lt k b) [
        | inl l ↦ between_inside first (b + 1) k f (omega arith) ∙ sym (between_inside first b k f l)
        | inr g ↦ between_above first (b + 1) k (omega arith) ∙ sym (between_above first b k g)
      ]
    ]

pub between_empty : (first k : ℕ) → is_between first first k ≡ false
between_empty first k =
    elim (cases_lt k first) [ inl l ↦ between_below first first k l | inr g ↦ between_above first first k g ]

-- a range of no number, and of one
pub between_none : (first k : ℕ) → is_between first (first + 0) k ≡ false
between_none first k =
    elim (cases_lt k first) [ inl l ↦ between_below first (first + 0) k l | inr g ↦ between_above first (first + 0) k (omega arith) ]

pub between_one : (first k : ℕ) → is_between first (first + 1) k ≡ eqb k first
between_one first k =
    elim (cases_eq k first) [
      | inl e ↦ between_inside first (first + 1) k (omega (arith, e)) (omega (arith, e)) ∙ sym (eq-eqb k first e)
      | inr ne ↦ between_more first first k ne ∙ between_empty first k ∙ sym (ne_eqb k first ne)
    ]

-- a test that all numbers of a range pass
pub list_all-range : (test : ℕ → Bool) (first n : ℕ) → ((b : ℕ) → first ≤ b → b < first + n → test b ≡ true) → list_all test (range_with_len first n) ≡ true
list_all-range test first zero h = refl
list_all-range test first (suc n) h =
    let here : test first ≡ true = h first (omega arith) (omega arith) in
    rw here (list_all-range test (first + 1) n (λ b f l. h b (omega arith) (omega arith)))

pub range-list_all : (test : ℕ → Bool) (first n : ℕ) → list_all test (range_with_len first n) ≡ true → (b : ℕ) → first ≤ b → b < first + n → test b ≡ true
range-list_all test first zero h b f l = absurd (omega arith)
range-list_all test first (suc n) h b f l =
    let parts = and_parts (test first) (list_all test (range_with_len (first + 1) n)) h in
    elim (cases_eq b first) [
      | inl e ↦ ap test e ∙ parts.0
      | inr ne ↦ range-list_all test (first + 1) n parts.1 b (omega (arith, ne)) (omega arith)
    ]

-- old, before and after are tests: before has the range below b too, and after has b
pub with_more : (old before after : ℕ → Bool) (first b : ℕ) → first ≤ b → ((k : ℕ) → before k ≡ (old k || is_between first b k)) → after b ≡ true → ((k : ℕ) → k ≢ b → after k ≡ before k) → (k : ℕ) → after k ≡ (old k || is_between first (b + 1) k)
with_more old before after first b f h here others k =
    elim (cases_eq k b) [
      | inl e ↦
          let inside : is_between first (b + 1) k ≡ true = between_inside first (b + 1) k (omega (arith, e, f)) (omega (arith, e)) in
          ap after e ∙ here ∙ sym (ap (λ (t : Bool). old k || t) inside ∙ or-true (old k))
      | inr ne ↦ others k ne ∙ h k ∙ ap (λ (t : Bool). old k || t) (sym (between_more first b k ne))
    ]

-- before lacks the range below b, and after lacks b
pub without_more : (old before after : ℕ → Bool) (first b : ℕ) → first ≤ b → ((k : ℕ) → before k ≡ (old k && not (is_between first b k))) → after b ≡ false → ((k : ℕ) → k ≢ b → after k ≡ before k) → (k : ℕ) → after k ≡ (old k && not (is_between first (b + 1) k))
without_more old before after first b f h here others k =
    elim (cases_eq k b) [
      | inl e ↦
          let inside : is_between first (b + 1) k ≡ true = between_inside first (b + 1) k (omega (arith, e, f)) (omega (arith, e)) in
          ap after e ∙ here ∙ sym (ap (λ (t : Bool). old k && not t) inside ∙ and-false (old k))
      | inr ne ↦ others k ne ∙ h k ∙ ap (λ (t : Bool). old k && not t) (sym (between_more first b k ne))
    ]

-- the same where b passes already, and where it fails already
pub with_same : (old before : ℕ → Bool) (first b : ℕ) → first ≤ b → ((k : ℕ) → before k ≡ (old k || is_between first b k)) → before b ≡ true → (k : ℕ) → before k ≡ (old k || is_between first (b + 1) k)
with_same old before first b f h here = with_more old before before first b f h here (λ k ne. refl)

pub without_same : (old before : ℕ → Bool) (first b : ℕ) → first ≤ b → ((k : ℕ) → before k ≡ (old k && not (is_between first b k))) → before b ≡ false → (k : ℕ) → before k ≡ (old k && not (is_between first (b + 1) k))
without_same old before first b f h here = without_more old before before first b f h here (λ k ne. refl)

-- an empty range adds and takes nothing
pub with_none : (t : Bool) (first k : ℕ) → t ≡ (t || is_between first first k)
with_none t first k = sym (ap (λ (x : Bool). t || x) (between_empty first k) ∙ or-false t)

pub without_none : (t : Bool) (first k : ℕ) → t ≡ (t && not (is_between first first k))
without_none t first k = sym (ap (λ (x : Bool). t && not x) (between_empty first k) ∙ and-true t)
