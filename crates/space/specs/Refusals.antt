-- Why an action is refused.
use Rattle.std.specs.Prelude.{◌≡◌, ℕ, List, [], ◌∷◌, filter, Result, Ok, Err, Option, Some}
use Rattle.evac_model.specs.declared.space.IsolateFault.{IsolateFault}
use Rattle.evac_model.specs.declared.space.IsolateFault.TheVariants.{Unmovable, OutOfMemory}
use Rattle.evac_model.specs.declared.space.NotEmpty.{NotEmpty}
use Rattle.evac_model.specs.declared.names.FrameNo.{FrameNo}
use Rattle.evac_model.specs.declared.names.PageNo.{PageNo}
use Rattle.evac_model.specs.Geometry.{Sizes, first_frame}
use Rattle.evac_model.specs.SpaceJournal.{SpaceState, Out}
use Rattle.page_blocks.specs.Marks.{frames_out, frames_out_after, is_unmovable, first_page}

-- the frames of a block that are out, rising, each with what it is out for
abbrev pub frames_out_of : Sizes → SpaceState → (block : ℕ) → List (ℕ × Out)
frames_out_of s st block = frames_out st.out (first_frame s block) s.block

-- the first frame of a block that is out for an unmovable page, and that page
abbrev pub first_unmovable : Sizes → SpaceState → (block : ℕ) → Option (FrameNo × PageNo)
first_unmovable s st block = first_page (filter is_unmovable (frames_out_of s st block))

-- the first frame of a block that is out, or the first one behind a frame, and its page
abbrev pub next_out : Sizes → SpaceState → (block : ℕ) → (after : Option FrameNo) → Option (FrameNo × PageNo)
next_out s st block after = first_page (frames_out_after (record { sizes = s; isolated = st.isolated; out = st.out }) block after)

-- a fault other than want of memory names this frame and its page
abbrev pub IsRefusedBy : Option (FrameNo × PageNo) → IsolateFault → Type 0
IsRefusedBy first (Unmovable frame page) = first ≡ Some (frame, page)
IsRefusedBy first OutOfMemory = Unit {0}

-- whether a block is empty, given its frames that are out
abbrev pub emptiness : List (ℕ × Out) → Result Unit NotEmpty
emptiness [] = Ok tt
emptiness (f ∷ rest) = Err (record { frame = record { 0 = f.0 } })
