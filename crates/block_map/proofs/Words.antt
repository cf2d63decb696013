-- Bits set and cleared in words.
use Rattle.std.proofs.Common.{◌≡◌, ◌≢◌, ℕ, ◌*◌, ◌/◌, ◌%◌, ◌^◌, ◌<◌, true, false, List, length, get_or, set, replicate, refl, sym, ap, ◌∙◌, arith, inl, inr, bit_and, bit_or, w64}
use Rattle.std.specs.Int.{bit_at, bit_not}
use Rattle.std.proofs.lemmas.Bool.{cases_lt, cases_eq, eq-eqb, ne_eqb}
use Rattle.std.proofs.Math.Dec.{eqb}
use Rattle.std.proofs.lemmas.List.{get_or-set_same, get_or-set_other, get_or-replicate, get_or_past, length-replicate}
use Rattle.std.proofs.lemmas.Nat.Bits.{bit_at-zero, bit_at_set_same, bit_at_set_other, bit_at_clear_same, bit_at_clear_other}
use Rattle.block_map.specs.Bits.{has_bit}

-- a word written in the place of b's word is where b's bit is read
has_bit_word : (words : List ℕ) (b word k : ℕ) → b / 64 < length words → k / 64 ≡ b / 64 → has_bit (set words (b / 64) word) k ≡ eqb (bit_at word (k % 64)) 1
unfolding has_bit
has_bit_word words b word k h e =
    ap (λ (i : ℕ). eqb (bit_at (get_or (set words (b / 64) word) i 0) (k % 64)) 1) e
    ∙ ap (λ (w : ℕ). eqb (bit_at w (k % 64)) 1) (get_or-set_same words (b / 64) word 0 h)

-- other words stay as they are
has_bit_other_word : (words : List ℕ) (b word k : ℕ) → k / 64 ≢ b / 64 → has_bit (set words (b / 64) word) k ≡ has_bit words k
unfolding has_bit
has_bit_other_word words b word k ne =
    ap (λ (w : ℕ). eqb (bit_at w (k % 64)) 1) (get_or-set_other words (b / 64) (k / 64) word 0 ne)

-- another bit is in another word or at another place
other_place : (b k : ℕ) → k ≢ b → k / 64 ≡ b / 64 → k % 64 ≢ b % 64
other_place b k ne e z = ne (omega (arith, e, z))

-- a bit of a word stays where the word has the same bit at its place
has_bit_same_word : (words : List ℕ) (b word k : ℕ) → b / 64 < length words → k / 64 ≡ b / 64 → bit_at word (k % 64) ≡ bit_at (get_or words (b / 64) 0) (k % 64) → has_bit (set words (b / 64) word) k ≡ has_bit words k
unfolding has_bit
has_bit_same_word words b word k h e w =
    has_bit_word words b word k h e
    ∙ ap (λ (x : ℕ). eqb x 1) w
    ∙ ap (λ (i : ℕ). eqb (bit_at (get_or words i 0) (k % 64)) 1) (sym e)

pub has_bit_set_here : (words : List ℕ) (b : ℕ) → b < 64 * length words → has_bit (set words (b / 64) (bit_or (get_or words (b / 64) 0) (1 * 2 ^ (b % 64) % 2 ^ 64))) b ≡ true
has_bit_set_here words b h =
    let word = bit_or (get_or words (b / 64) 0) (1 * 2 ^ (b % 64) % 2 ^ 64) in
    has_bit_word words b word b (omega arith) refl ∙ eq-eqb _ _ (bit_at_set_same w64 (get_or words (b / 64) 0) (b % 64) (omega arith))

pub has_bit_set_others : (words : List ℕ) (b : ℕ) → b < 64 * length words → (k : ℕ) → k ≢ b → has_bit (set words (b / 64) (bit_or (get_or words (b / 64) 0) (1 * 2 ^ (b % 64) % 2 ^ 64))) k ≡ has_bit words k
has_bit_set_others words b h k ne =
    let word = bit_or (get_or words (b / 64) 0) (1 * 2 ^ (b % 64) % 2 ^ 64) in
    elim (cases_eq (k / 64) (b / 64)) [
      | inl e ↦ has_bit_same_word words b word k (omega arith) e (bit_at_set_other w64 (get_or words (b / 64) 0) (b % 64) (omega arith) (k % 64) (other_place b k ne e))
      | inr other ↦ has_bit_other_word words b word k other
    ]

pub has_bit_clear_here : (words : List ℕ) (b : ℕ) → b < 64 * length words → has_bit (set words (b / 64) (bit_and (get_or words (b / 64) 0) (bit_not w64 (1 * 2 ^ (b % 64) % 2 ^ 64)))) b ≡ false
has_bit_clear_here words b h =
    let word = bit_and (get_or words (b / 64) 0) (bit_not w64 (1 * 2 ^ (b % 64) % 2 ^ 64)) in
    let none = bit_at_clear_same w64 (get_or words (b / 64) 0) (b % 64) (omega arith) in
    has_bit_word words b word b (omega arith) refl ∙ ne_eqb _ _ (λ z. omega (arith, z, none))

pub has_bit_clear_others : (words : List ℕ) (b : ℕ) → b < 64 * length words → (k : ℕ) → k ≢ b → has_bit (set words (b / 64) (bit_and (get_or words (b / 64) 0) (bit_not w64 (1 * 2 ^ (b % 64) % 2 ^ 64)))) k ≡ has_bit words k
has_bit_clear_others words b h k ne =
    let word = bit_and (get_or words (b / 64) 0) (bit_not w64 (1 * 2 ^ (b % 64) % 2 ^ 64)) in
    elim (cases_eq (k / 64) (b / 64)) [
      | inl e ↦ has_bit_same_word words b word k (omega arith) e (bit_at_clear_other w64 (get_or words (b / 64) 0) (b % 64) (omega arith) (k % 64) (omega arith) (other_place b k ne e))
      | inr other ↦ has_bit_other_word words b word k other
    ]

-- words of zeros have no bit set
pub has_bit-replicate : (n k : ℕ) → has_bit (replicate n 0) k ≡ false
unfolding has_bit
has_bit-replicate n k =
    let zero_word : get_or (replicate n 0) (k / 64) 0 ≡ 0 =
    elim (cases_lt (k / 64) n) [
      | inl l ↦ get_or-replicate n (k / 64) 0 0 l
      | inr g ↦ get_or_past (replicate n 0) (k / 64) 0 (omega (arith, length-replicate {A = ℕ} n 0))
    ] in
    ap (λ (w : ℕ). eqb (bit_at w (k % 64)) 1) zero_word ∙ ap (λ (x : ℕ). eqb x 1) (bit_at-zero (k % 64))
