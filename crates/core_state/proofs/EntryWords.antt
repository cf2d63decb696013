-- What is read of an entry word that was taken or packed.
use Rattle.std.proofs.Common.{◌≡◌, ℕ, eqb, ◌+◌, ◌/◌, ◌%◌, ◌<◌, bit_or, refl, arith}
use Rattle.std.proofs.lemmas.Grind.{common_steps}
use Rattle.evac_model.specs.declared.names.Kind.{Kind}
use Rattle.evac_model.specs.Page.{kind_of}
use Rattle.evac_words.specs.Word.{taken_bit, moving_bit, mapped_bit, unmovable_bit, pins_of, frame_of, bound_of}
use Rattle.evac_words.proofs.Words.{half-bit_or, taken_bit-bit_or}
use Rattle.core_state.specs.Words.{unmovable_for, packed, released_word}

-- ---- taken

pub take_again : (w : ℕ) → taken_bit w ≡ 1 → bit_or w 1 ≡ w
take_again w e = omega (arith, half-bit_or w, taken_bit-bit_or w)

pub take_free : (w : ℕ) → taken_bit w ≡ 0 → bit_or w 1 ≡ w + 1
take_free w e = omega (arith, half-bit_or w, taken_bit-bit_or w)

bound-from_half : (w x : ℕ) → w / 2 ≡ x / 2 → bound_of w ≡ bound_of x
bound-from_half w x e = omega arith

pub bound_of-take : (w : ℕ) → bound_of (bit_or w 1) ≡ bound_of w
bound_of-take w = bound-from_half (bit_or w 1) w (half-bit_or w)

-- ---- kinds

pub unmovable_for-fits : (k : Kind) → unmovable_for k < 2
unmovable_for-fits k = grind (arith, common_steps)

pub kind_of-unmovable_for : (k : Kind) → kind_of (eqb (unmovable_for k) 0) ≡ k
kind_of-unmovable_for k = grind (arith, common_steps)

-- ---- flags

-- all that a word says but the taken bit and the bound is what the other says
pub record SameFlags (w x : ℕ) : Type 0 where
  pub moving : moving_bit w ≡ moving_bit x
  pub mapped : mapped_bit w ≡ mapped_bit x
  pub unmovable : unmovable_bit w ≡ unmovable_bit x
  pub pins : pins_of w ≡ pins_of x
  pub frame : frame_of w ≡ frame_of x
  pub low : w / 2 % 536870912 ≡ x / 2 % 536870912

pub same_flags_from_half : (w x : ℕ) → w / 2 ≡ x / 2 → SameFlags w x
same_flags_from_half w x e = record {
  moving = omega arith;
  mapped = omega arith;
  unmovable = omega arith;
  pins = omega arith;
  frame = omega arith;
  low = omega arith;
}

pub same_flags-take : (w : ℕ) → SameFlags (bit_or w 1) w
same_flags-take w = same_flags_from_half (bit_or w 1) w (half-bit_or w)

-- ---- packed

pub record Fits (taken moving mapped unmovable pins frame : ℕ) : Type 0 where
  pub taken_fits : taken < 2
  pub moving_fits : moving < 2
  pub mapped_fits : mapped < 2
  pub unmovable_fits : unmovable < 2
  pub pins_fits : pins < 64
  pub frame_fits : frame < 1048576

module _ (t m p u k f b : ℕ) (r : Fits t m p u k f) where
  pub taken_bit-packed : taken_bit (packed t m p u k f b) ≡ t
  taken_bit-packed = let a = r.taken_fits in omega arith

  pub moving_bit-packed : moving_bit (packed t m p u k f b) ≡ m
  moving_bit-packed = let a = r.taken_fits in let c = r.moving_fits in omega arith

  pub mapped_bit-packed : mapped_bit (packed t m p u k f b) ≡ p
  mapped_bit-packed = let a = r.taken_fits in let c = r.moving_fits in let d = r.mapped_fits in omega arith

  pub unmovable_bit-packed : unmovable_bit (packed t m p u k f b) ≡ u
  unmovable_bit-packed = let a = r.taken_fits in let c = r.moving_fits in let d = r.mapped_fits in let e = r.unmovable_fits in omega arith

  pub pins_of-packed : pins_of (packed t m p u k f b) ≡ k
  pins_of-packed = let a = r.taken_fits in let c = r.moving_fits in let d = r.mapped_fits in let e = r.unmovable_fits in let g = r.pins_fits in omega arith

  pub frame_of-packed : frame_of (packed t m p u k f b) ≡ f
  frame_of-packed = let a = r.taken_fits in let c = r.moving_fits in let d = r.mapped_fits in let e = r.unmovable_fits in let g = r.pins_fits in let h = r.frame_fits in omega arith

  pub bound_of-packed : bound_of (packed t m p u k f b) ≡ b
  bound_of-packed = let a = r.taken_fits in let c = r.moving_fits in let d = r.mapped_fits in let e = r.unmovable_fits in let g = r.pins_fits in let h = r.frame_fits in omega arith

-- ---- released

pub taken_bit-released : (w k b : ℕ) → taken_bit (released_word w k b) ≡ 0
taken_bit-released w k b = omega arith

module _ (w k b : ℕ) (fits : k < 64) where
  released_fits : Fits 0 (moving_bit w) (mapped_bit w) (unmovable_bit w) k (frame_of w)
  released_fits = record { taken_fits = omega arith; moving_fits = omega arith; mapped_fits = omega arith; unmovable_fits = omega arith; pins_fits = fits; frame_fits = omega arith }

  pub moving_bit-released : moving_bit (released_word w k b) ≡ moving_bit w
  moving_bit-released = moving_bit-packed 0 (moving_bit w) (mapped_bit w) (unmovable_bit w) k (frame_of w) b released_fits

  pub mapped_bit-released : mapped_bit (released_word w k b) ≡ mapped_bit w
  mapped_bit-released = mapped_bit-packed 0 (moving_bit w) (mapped_bit w) (unmovable_bit w) k (frame_of w) b released_fits

  pub unmovable_bit-released : unmovable_bit (released_word w k b) ≡ unmovable_bit w
  unmovable_bit-released = unmovable_bit-packed 0 (moving_bit w) (mapped_bit w) (unmovable_bit w) k (frame_of w) b released_fits

  pub pins_of-released : pins_of (released_word w k b) ≡ k
  pins_of-released = pins_of-packed 0 (moving_bit w) (mapped_bit w) (unmovable_bit w) k (frame_of w) b released_fits

  pub frame_of-released : frame_of (released_word w k b) ≡ frame_of w
  frame_of-released = frame_of-packed 0 (moving_bit w) (mapped_bit w) (unmovable_bit w) k (frame_of w) b released_fits

  pub bound_of-released : bound_of (released_word w k b) ≡ b
  bound_of-released = bound_of-packed 0 (moving_bit w) (mapped_bit w) (unmovable_bit w) k (frame_of w) b released_fits
