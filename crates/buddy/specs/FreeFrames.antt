-- The frames of a machine that are free, those that are kept aside, and the blocks that are withdrawn.
use Rattle.std.specs.Prelude.{◌≡◌, ℕ, ◌^◌, Bool, true, false, ◌&&◌, ◌||◌, not, List, [], Option, None, Some}
use Rattle.evac_model.specs.declared.names.Kind.{Kind}
use Rattle.evac_model.specs.Geometry.{Sizes, IsWithinLimits, frame_count}
use Rattle.evac_model.specs.Numbers.{numbers_where, is_in, without_range, IsRisingBelow}
use Rattle.evac_model.specs.SpaceJournal.{is_frame_of, is_frame_in, with_block, without_block}

-- the machine, the kind of pages that managed blocks are online for, the free frames, the frames kept aside
-- and the withdrawn blocks, all of them rising
pub record FreeFrames : Type 0 where
  pub sizes : Sizes
  pub online : Kind
  pub free : List ℕ
  pub aside : List ℕ
  pub withdrawn : List ℕ

-- no frame is free, and no block withdrawn
abbrev pub no_frames : Sizes → Kind → FreeFrames
no_frames s online = record { sizes = s; online = online; free = []; aside = []; withdrawn = [] }

-- behind a take of a run of that order, which may have found none
abbrev pub after_take : (order : ℕ) → Option ℕ → FreeFrames → FreeFrames
after_take order None r = r
after_take order (Some first) r = record r { free = without_range first (2 ^ order) r.free }

-- frames that were neither free nor kept aside are given: those of withdrawn blocks are kept aside, the
-- others are free
abbrev pub with_frames : (ℕ → Bool) → FreeFrames → FreeFrames
with_frames given r = record r {
  free = numbers_where (λ frame. is_in frame r.free || (given frame && not (is_frame_in r.sizes r.withdrawn frame))) (frame_count r.sizes);
  aside = numbers_where (λ frame. is_in frame r.aside || (given frame && is_frame_in r.sizes r.withdrawn frame)) (frame_count r.sizes);
}

-- the block's free frames are put aside
abbrev pub with_withdrawn : (block : ℕ) → FreeFrames → FreeFrames
with_withdrawn block r = record r {
  free = numbers_where (λ frame. is_in frame r.free && not (is_frame_of r.sizes block frame)) (frame_count r.sizes);
  aside = numbers_where (λ frame. is_in frame r.aside || (is_in frame r.free && is_frame_of r.sizes block frame)) (frame_count r.sizes);
  withdrawn = with_block r.sizes block r.withdrawn;
}

-- the block's frames kept aside are free again
abbrev pub with_restored : (block : ℕ) → FreeFrames → FreeFrames
with_restored block r = record r {
  free = numbers_where (λ frame. is_in frame r.free || (is_in frame r.aside && is_frame_of r.sizes block frame)) (frame_count r.sizes);
  aside = numbers_where (λ frame. is_in frame r.aside && not (is_frame_of r.sizes block frame)) (frame_count r.sizes);
  withdrawn = without_block block r.withdrawn;
}

-- the frame is neither free nor kept aside
abbrev pub IsNeither : FreeFrames → (frame : ℕ) → Type 0
IsNeither r frame = (is_in frame r.free ≡ false) × (is_in frame r.aside ≡ false)

-- What always holds: the lists are rising, and in range; a withdrawn block has no free frame, and a frame
-- kept aside is of a withdrawn block.
pub record AreApart (r : FreeFrames) : Type 0 where
  pub within : IsWithinLimits r.sizes
  pub free : IsRisingBelow (frame_count r.sizes) r.free
  pub aside : IsRisingBelow (frame_count r.sizes) r.aside
  pub withdrawn : IsRisingBelow r.sizes.managed r.withdrawn
  pub none_free : (frame : ℕ) → is_in frame r.free ≡ true → is_frame_in r.sizes r.withdrawn frame ≡ false
  pub all_withdrawn : (frame : ℕ) → is_in frame r.aside ≡ true → is_frame_in r.sizes r.withdrawn frame ≡ true
