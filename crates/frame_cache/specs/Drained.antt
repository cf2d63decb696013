-- Which frames are drained.
use Rattle.std.specs.Prelude.{ℕ, ◌<◌, Bool}
use Rattle.evac_model.specs.declared.names.Kind.{Kind}
use Rattle.evac_model.specs.Geometry.{Sizes}
use Rattle.evac_model.specs.FreeRuns.{fits}
use Rattle.evac_model.specs.SpaceJournal.{is_frame_of}
use Rattle.frame_cache.specs.declared.drained.Drained.{Drained}
use Rattle.frame_cache.specs.declared.drained.Drained.TheVariants.{OfBlock, OfKind}

-- the block is a managed one
abbrev pub IsOfMachine : Sizes → Drained → Type 0
IsOfMachine s (OfBlock b) = b.0 < s.managed
IsOfMachine s (OfKind kind) = Unit {0}

-- whether the frame is drained
abbrev pub is_drained_of : Sizes → (online : Kind) → Drained → (frame : ℕ) → Bool
is_drained_of s online (OfBlock b) frame = is_frame_of s b.0 frame
is_drained_of s online (OfKind kind) frame = fits s online kind frame
