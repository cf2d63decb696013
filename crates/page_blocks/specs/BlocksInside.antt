-- How the marks of blocks and of frames are kept.
use Rattle.std.specs.Prelude.{◌≡◌, Bool, List, Option, length}
use Rattle.evac_model.specs.Geometry.{Sizes, IsWithinLimits, frame_count}
use Rattle.evac_model.specs.SpaceJournal.{Out}

-- there is a mark for each managed block, and a place for each frame
pub record IsKept (sizes : Sizes) (marks : List Bool) (out : List (Option Out)) : Type 0 where
  pub within : IsWithinLimits sizes
  pub each_block : length marks ≡ sizes.managed
  pub each_frame : length out ≡ frame_count sizes
