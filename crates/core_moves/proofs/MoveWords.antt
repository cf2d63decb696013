-- What is read of the word of a held page after a step on its mapping.
use Rattle.std.proofs.Common.{◌≡◌, ℕ, eqb, true, false, ◌+◌, ◌*◌, ◌/◌, ◌%◌, ◌<◌, ◌≢◌, ap, ◌∙◌, refl, arith}
use Rattle.std.proofs.lemmas.Grind.{common_steps}
use Rattle.evac_model.specs.declared.names.Kind.{Kind}
use Rattle.evac_model.specs.Page.{kind_of}
use Rattle.evac_words.specs.Word.{taken_bit, moving_bit, mapped_bit, unmovable_bit, pins_of, frame_of, bound_of}
use Rattle.core_state.specs.Words.{kind_in, unmovable_for, moving_word, remapped_word, mapped_word, unmapped_word}
use Rattle.core_state.specs.Views.{maps_to}
use Rattle.core_state.proofs.EntryWords.{unmovable_for-fits, kind_of-unmovable_for, Fits, moving_bit-packed, mapped_bit-packed, unmovable_bit-packed, pins_of-packed, frame_of-packed, bound_of-packed}

-- ---- which frame a word maps

pub maps_to-unmapped : (f w : ℕ) → mapped_bit w ≡ 0 → maps_to f w ≡ 0
maps_to-unmapped f w e = grind (arith, common_steps)

pub maps_to-other : (f w : ℕ) → frame_of w ≢ f → maps_to f w ≡ 0
maps_to-other f w ne = grind (arith, common_steps)

-- ---- moving

module _ (w : ℕ) where
  moving_fits : Fits (taken_bit w) 1 (mapped_bit w) (unmovable_bit w) (pins_of w) (frame_of w)
  moving_fits = record { taken_fits = omega arith; moving_fits = omega arith; mapped_fits = omega arith; unmovable_fits = omega arith; pins_fits = omega arith; frame_fits = omega arith }

  pub moving_bit-moving : moving_bit (moving_word w) ≡ 1
  moving_bit-moving = moving_bit-packed (taken_bit w) 1 (mapped_bit w) (unmovable_bit w) (pins_of w) (frame_of w) (bound_of w) moving_fits

  pub mapped_bit-moving : mapped_bit (moving_word w) ≡ mapped_bit w
  mapped_bit-moving = mapped_bit-packed (taken_bit w) 1 (mapped_bit w) (unmovable_bit w) (pins_of w) (frame_of w) (bound_of w) moving_fits

  pub unmovable_bit-moving : unmovable_bit (moving_word w) ≡ unmovable_bit w
  unmovable_bit-moving = unmovable_bit-packed (taken_bit w) 1 (mapped_bit w) (unmovable_bit w) (pins_of w) (frame_of w) (bound_of w) moving_fits

  pub pins_of-moving : pins_of (moving_word w) ≡ pins_of w
  pins_of-moving = pins_of-packed (taken_bit w) 1 (mapped_bit w) (unmovable_bit w) (pins_of w) (frame_of w) (bound_of w) moving_fits

  pub frame_of-moving : frame_of (moving_word w) ≡ frame_of w
  frame_of-moving = frame_of-packed (taken_bit w) 1 (mapped_bit w) (unmovable_bit w) (pins_of w) (frame_of w) (bound_of w) moving_fits

  pub bound_of-moving : bound_of (moving_word w) ≡ bound_of w
  bound_of-moving = bound_of-packed (taken_bit w) 1 (mapped_bit w) (unmovable_bit w) (pins_of w) (frame_of w) (bound_of w) moving_fits

  -- the word but for the moving bit stays
  pub moving_word-is : moving_word w + 2 * moving_bit w ≡ w + 2
  moving_word-is = omega arith

-- ---- remapped

module _ (w f : ℕ) (fits : f < 1048576) where
  remapped_fits : Fits (taken_bit w) 0 (mapped_bit w) (unmovable_bit w) (pins_of w) f
  remapped_fits = record { taken_fits = omega arith; moving_fits = omega arith; mapped_fits = omega arith; unmovable_fits = omega arith; pins_fits = omega arith; frame_fits = fits }

  pub mapped_bit-remapped : mapped_bit (remapped_word w f) ≡ mapped_bit w
  mapped_bit-remapped = mapped_bit-packed (taken_bit w) 0 (mapped_bit w) (unmovable_bit w) (pins_of w) f (bound_of w) remapped_fits

  pub unmovable_bit-remapped : unmovable_bit (remapped_word w f) ≡ unmovable_bit w
  unmovable_bit-remapped = unmovable_bit-packed (taken_bit w) 0 (mapped_bit w) (unmovable_bit w) (pins_of w) f (bound_of w) remapped_fits

  pub pins_of-remapped : pins_of (remapped_word w f) ≡ pins_of w
  pins_of-remapped = pins_of-packed (taken_bit w) 0 (mapped_bit w) (unmovable_bit w) (pins_of w) f (bound_of w) remapped_fits

  pub frame_of-remapped : frame_of (remapped_word w f) ≡ f
  frame_of-remapped = frame_of-packed (taken_bit w) 0 (mapped_bit w) (unmovable_bit w) (pins_of w) f (bound_of w) remapped_fits

  pub bound_of-remapped : bound_of (remapped_word w f) ≡ bound_of w
  bound_of-remapped = bound_of-packed (taken_bit w) 0 (mapped_bit w) (unmovable_bit w) (pins_of w) f (bound_of w) remapped_fits

-- ---- mapped

module _ (w f : ℕ) (k : Kind) (fits : f < 1048576) where
  mapped_fits : Fits (taken_bit w) 0 1 (unmovable_for k) 0 f
  mapped_fits = record { taken_fits = omega arith; moving_fits = omega arith; mapped_fits = omega arith; unmovable_fits = unmovable_for-fits k; pins_fits = omega arith; frame_fits = fits }

  pub mapped_bit-mapped : mapped_bit (mapped_word w f k) ≡ 1
  mapped_bit-mapped = mapped_bit-packed (taken_bit w) 0 1 (unmovable_for k) 0 f (bound_of w) mapped_fits

  pub kind_in-mapped : kind_in (mapped_word w f k) ≡ k
  kind_in-mapped = ap (λ (u : ℕ). kind_of (eqb u 0)) (unmovable_bit-packed (taken_bit w) 0 1 (unmovable_for k) 0 f (bound_of w) mapped_fits) ∙ kind_of-unmovable_for k

  pub pins_of-mapped : pins_of (mapped_word w f k) ≡ 0
  pins_of-mapped = pins_of-packed (taken_bit w) 0 1 (unmovable_for k) 0 f (bound_of w) mapped_fits

  pub frame_of-mapped : frame_of (mapped_word w f k) ≡ f
  frame_of-mapped = frame_of-packed (taken_bit w) 0 1 (unmovable_for k) 0 f (bound_of w) mapped_fits

  pub bound_of-mapped : bound_of (mapped_word w f k) ≡ bound_of w
  bound_of-mapped = bound_of-packed (taken_bit w) 0 1 (unmovable_for k) 0 f (bound_of w) mapped_fits

-- ---- unmapped

pub flags-unmapped : (w : ℕ) → unmapped_word w / 2 % 536870912 ≡ 0
flags-unmapped w = omega arith

pub mapped_bit-unmapped : (w : ℕ) → mapped_bit (unmapped_word w) ≡ 0
mapped_bit-unmapped w = omega arith

pub bound_of-unmapped : (w : ℕ) → bound_of (unmapped_word w) ≡ bound_of w
bound_of-unmapped w = omega arith
