-- What the caches keep, and when frames of theirs can be drained to the runs.
use Rattle.std.specs.Prelude.{◌≡◌, ℕ, ◌<◌, ◌≤◌, true, List, [], length, slice_index_or}
use Rattle.std.specs.List.{list_any, concat}
use Rattle.evac_model.specs.Geometry.{IsWithinLimits, frame_count}
use Rattle.evac_model.specs.Numbers.{is_in, AreDistinct, IsRisingBelow}
use Rattle.buddy.specs.FreeFrames.{FreeFrames, IsNeither}

-- 17 caches, of at most 8 frames each
pub record AreCaches (caches : List (List ℕ)) : Type 0 where
  pub callers : length caches ≡ 17
  pub few : (who : ℕ) → length (slice_index_or caches who []) ≤ 8

-- the frame is one of the machine's, and neither free nor kept aside
abbrev pub IsGivable : FreeFrames → (frame : ℕ) → Type 0
IsGivable r frame = (frame < frame_count r.sizes) × IsNeither r frame

-- the machine is within its limits, and the lists of free frames and of those kept aside are rising
pub record AreRising (r : FreeFrames) : Type 0 where
  pub within : IsWithinLimits r.sizes
  pub free : IsRisingBelow (frame_count r.sizes) r.free
  pub aside : IsRisingBelow (frame_count r.sizes) r.aside

-- the frames of all caches differ from one another, and each can be given
pub record IsDrainable (caches : List (List ℕ)) (r : FreeFrames) : Type 0 where
  pub distinct : AreDistinct (concat caches)
  pub givable : (frame : ℕ) → list_any (is_in frame) caches ≡ true → IsGivable r frame

-- the same of one cache
pub record IsDrainableCache (cache : List ℕ) (r : FreeFrames) : Type 0 where
  pub distinct : AreDistinct cache
  pub givable : (frame : ℕ) → is_in frame cache ≡ true → IsGivable r frame
