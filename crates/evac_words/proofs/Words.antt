-- Words and what they say, each from the other; and the word after each step, as a sum of what the
-- word before said.
use Rattle.std.proofs.Common.{◌≡◌, ℕ, ◌+◌, ◌*◌, ◌/◌, ◌^◌, ◌<◌, Bool, true, false, ◌==◌, bit_or, refl, sym, ◌∙◌, ap, arith}
use Rattle.std.specs.Int.Bits.{or_zero_r}
use Rattle.std.proofs.lemmas.Bool.Decides.{nat_tests}
use Rattle.std.proofs.lemmas.Nat.{or_shr}
use Rattle.std.proofs.lemmas.Nat.Bits.{bit_at_or, bit_at_lowest, bit_at-lt}
use Rattle.evac_words.specs.declared.flags.Flags.{Flags}
use Rattle.evac_words.specs.Word.{taken_bit, moving_bit, mapped_bit, unmovable_bit, pins_of, frame_of, bound_of, flags_of, bit_of, word_of, FitsWord}

-- ---- both ways

pub bit_of-lt : (b : Bool) → bit_of b < 2
bit_of-lt true = omega arith
bit_of-lt false = omega arith

pub bit_of-test : (n : ℕ) → n < 2 → bit_of (n == 1) ≡ n
bit_of-test n below = grind (arith, nat_tests)

pub test-bit_of : (b : Bool) → (bit_of b == 1) ≡ b
test-bit_of true = refl
test-bit_of false = refl

-- each flag of a word, written back, is its bit
record BitsAgree (w : ℕ) : Type 0 where
  taken_is : bit_of (flags_of w).taken ≡ taken_bit w
  moving_is : bit_of (flags_of w).moving ≡ moving_bit w
  mapped_is : bit_of (flags_of w).mapped ≡ mapped_bit w
  unmovable_is : bit_of (flags_of w).unmovable ≡ unmovable_bit w

bits_agree : (w : ℕ) → BitsAgree w
bits_agree w = record {
  taken_is = bit_of-test (taken_bit w) (omega arith);
  moving_is = bit_of-test (moving_bit w) (omega arith);
  mapped_is = bit_of-test (mapped_bit w) (omega arith);
  unmovable_is = bit_of-test (unmovable_bit w) (omega arith);
}

pub word_of-flags_of : (w : ℕ) → word_of (flags_of w) ≡ w
word_of-flags_of w = let bits = bits_agree w in omega arith

pub word_from_flags : (w : ℕ) (f : Flags) → flags_of w ≡ f → w ≡ word_of f
word_from_flags w f says = sym (word_of-flags_of w) ∙ ap word_of says

-- flags with these fields
abbrev flags : (taken moving mapped unmovable : Bool) (pins frame bound : ℕ) → Flags
flags taken moving mapped unmovable pins frame bound =
    record { taken = taken; moving = moving; mapped = mapped; unmovable = unmovable; pins = pins; frame = frame; bound = bound }

same_flags : (t t' m m' p p' u u' : Bool) (k k' f f' b b' : ℕ) → t ≡ t' → m ≡ m' → p ≡ p' → u ≡ u' → k ≡ k' → f ≡ f' → b ≡ b' →
    flags t m p u k f b ≡ flags t' m' p' u' k' f' b'
same_flags t t' m m' p p' u u' k k' f f' b b' taken_is moving_is mapped_is unmovable_is pins_is frame_is bound_is = cc

pub flags_of-word_of : (f : Flags) → FitsWord f → flags_of (word_of f) ≡ f
flags_of-word_of f fits =
    let pins_fit = fits.pins_fit in
    let frame_fits = fits.frame_fits in
    let t = bit_of-lt f.taken in
    let m = bit_of-lt f.moving in
    let p = bit_of-lt f.mapped in
    let u = bit_of-lt f.unmovable in
    let taken_is : taken_bit (word_of f) ≡ bit_of f.taken = omega arith in
    let moving_is : moving_bit (word_of f) ≡ bit_of f.moving = omega arith in
    let mapped_is : mapped_bit (word_of f) ≡ bit_of f.mapped = omega arith in
    let unmovable_is : unmovable_bit (word_of f) ≡ bit_of f.unmovable = omega arith in
    let pins_is : pins_of (word_of f) ≡ f.pins = omega arith in
    let frame_is : frame_of (word_of f) ≡ f.frame = omega arith in
    let bound_is : bound_of (word_of f) ≡ f.bound = omega arith in
    let taken_same = ap (λ n. n == 1) taken_is ∙ test-bit_of f.taken in
    let moving_same = ap (λ n. n == 1) moving_is ∙ test-bit_of f.moving in
    let mapped_same = ap (λ n. n == 1) mapped_is ∙ test-bit_of f.mapped in
    let unmovable_same = ap (λ n. n == 1) unmovable_is ∙ test-bit_of f.unmovable in
    same_flags _ _ _ _ _ _ _ _ _ _ _ _ _ _ taken_same moving_same mapped_same unmovable_same pins_is frame_is bound_is

pub word_of-lt : (f : Flags) → FitsWord f → word_of f < 2 ^ 64
word_of-lt f fits =
    let t = bit_of-lt f.taken in
    let m = bit_of-lt f.moving in
    let p = bit_of-lt f.mapped in
    let u = bit_of-lt f.unmovable in
    omega arith

pub FitsWord-flags_of : (w : ℕ) → w < 2 ^ 64 → FitsWord (flags_of w)
FitsWord-flags_of w below = record { pins_fit = omega arith; frame_fits = omega arith; bound_fits = omega arith }

-- ---- bit 0 set by `|`

-- the other bits stay
pub half-bit_or : (w : ℕ) → bit_or w 1 / 2 ≡ w / 2
half-bit_or w = or_shr w 1 1 ∙ or_zero_r (w / 2)

pub taken_bit-bit_or : (w : ℕ) → taken_bit (bit_or w 1) ≡ 1
taken_bit-bit_or w =
    omega (arith, bit_at_or w 1 0, bit_at_lowest w, bit_at_lowest (bit_or w 1), bit_at_lowest 1, bit_at-lt w 0)

-- one word says that its page is taken, and else what the other says
pub flags_of-taken : (r w : ℕ) → taken_bit r ≡ 1 → r / 2 ≡ w / 2 → flags_of r ≡ record (flags_of w) { taken = true }
flags_of-taken r w one half =
    let taken_is : (taken_bit r == 1) ≡ true = ap (λ n. n == 1) one in
    let moving_is : moving_bit r ≡ moving_bit w = omega arith in
    let mapped_is : mapped_bit r ≡ mapped_bit w = omega arith in
    let unmovable_is : unmovable_bit r ≡ unmovable_bit w = omega arith in
    let pins_is : pins_of r ≡ pins_of w = omega arith in
    let frame_is : frame_of r ≡ frame_of w = omega arith in
    let bound_is : bound_of r ≡ bound_of w = omega arith in
    cc

pub flags_of-bit_or : (w : ℕ) → flags_of (bit_or w 1) ≡ record (flags_of w) { taken = true }
flags_of-bit_or w = flags_of-taken (bit_or w 1) w (taken_bit-bit_or w) (half-bit_or w)

pub word_of-take : (w : ℕ) → bit_or w 1 ≡ word_of (record (flags_of w) { taken = true })
word_of-take w = word_from_flags (bit_or w 1) (record (flags_of w) { taken = true }) (flags_of-bit_or w)

-- ---- the word after a step

module _ (w r : ℕ) where
  pub after_take_sum : flags_of r ≡ record (flags_of w) { taken = true } →
      r ≡ 1 + 2 * moving_bit w + 4 * mapped_bit w + 8 * unmovable_bit w + 16 * pins_of w + 1024 * frame_of w + 1073741824 * bound_of w
  after_take_sum says =
      let bits = bits_agree w in let word_is = word_from_flags r _ says in omega arith

  pub after_release_sum : (bound : ℕ) → flags_of r ≡ record (flags_of w) { taken = false; bound = bound } →
      r ≡ 2 * moving_bit w + 4 * mapped_bit w + 8 * unmovable_bit w + 16 * pins_of w + 1024 * frame_of w + 1073741824 * bound
  after_release_sum bound says =
      let bits = bits_agree w in let word_is = word_from_flags r _ says in omega arith

  pub after_begin_move_sum : flags_of r ≡ record (flags_of w) { moving = true } →
      r ≡ taken_bit w + 2 + 4 * mapped_bit w + 8 * unmovable_bit w + 16 * pins_of w + 1024 * frame_of w + 1073741824 * bound_of w
  after_begin_move_sum says =
      let bits = bits_agree w in let word_is = word_from_flags r _ says in omega arith

  pub after_remap_sum : (frame : ℕ) → flags_of r ≡ record (flags_of w) { moving = false; frame = frame } →
      r ≡ taken_bit w + 4 * mapped_bit w + 8 * unmovable_bit w + 16 * pins_of w + 1024 * frame + 1073741824 * bound_of w
  after_remap_sum frame says =
      let bits = bits_agree w in let word_is = word_from_flags r _ says in omega arith

  pub after_map_sum : (frame : ℕ) (unmovable : Bool) →
      flags_of r ≡ record (flags_of w) { moving = false; mapped = true; unmovable = unmovable; pins = 0; frame = frame } →
      r ≡ taken_bit w + 4 + 8 * bit_of unmovable + 1024 * frame + 1073741824 * bound_of w
  after_map_sum frame unmovable says =
      let bits = bits_agree w in let word_is = word_from_flags r _ says in omega arith

  pub after_unmap_sum : flags_of r ≡ record (flags_of w) { moving = false; mapped = false; unmovable = false; pins = 0; frame = 0 } →
      r ≡ taken_bit w + 1073741824 * bound_of w
  after_unmap_sum says =
      let bits = bits_agree w in let word_is = word_from_flags r _ says in omega arith

  pub with_pins_sum : (pins : ℕ) → flags_of r ≡ record (flags_of w) { pins = pins } →
      r ≡ taken_bit w + 2 * moving_bit w + 4 * mapped_bit w + 8 * unmovable_bit w + 16 * pins + 1024 * frame_of w + 1073741824 * bound_of w
  with_pins_sum pins says =
      let bits = bits_agree w in let word_is = word_from_flags r _ says in omega arith
