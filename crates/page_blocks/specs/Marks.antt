-- Which frames are out, for which page and kind, and which managed blocks are isolated.
use Rattle.std.specs.Prelude.{ℕ, zero, suc, ◌+◌, ◌-◌, max, Bool, false, not, List, [], ◌∷◌, Option, None, Some, Result, Ok, Err, slice_index_or}
use Rattle.evac_model.specs.declared.names.FrameNo.{FrameNo}
use Rattle.evac_model.specs.declared.names.Kind.{Kind}
use Rattle.evac_model.specs.declared.names.PageNo.{PageNo}
use Rattle.evac_model.specs.declared.space.Unmovable.{Unmovable}
use Rattle.evac_model.specs.Geometry.{Sizes, first_frame}
use Rattle.evac_model.specs.Numbers.{numbers_where}
use Rattle.evac_model.specs.Page.{is_movable}
use Rattle.evac_model.specs.SpaceJournal.{Out}

-- the numbers of the marks that are set, below a bound, rising
abbrev pub blocks_marked : List Bool → (managed : ℕ) → List ℕ
blocks_marked marks managed = numbers_where (λ b. slice_index_or marks b false) managed

-- the machine, its isolated blocks, rising, and what each of its frames is out for
pub record Marks : Type 0 where
  pub sizes : Sizes
  pub isolated : List ℕ
  pub out : List (Option Out)

-- a list of frames with one more in front, if that one is out
abbrev pub with_frame : (frame : ℕ) → Option Out → List (ℕ × Out) → List (ℕ × Out)
with_frame frame None rest = rest
with_frame frame (Some o) rest = (frame, o) ∷ rest

-- the frames out among n from first on, rising, with what each is out for
abbrev pub frames_out : List (Option Out) → (first n : ℕ) → List (ℕ × Out)
frames_out out first zero = []
frames_out out first (suc n) = with_frame first (slice_index_or out first None) (frames_out out (first + 1) n)

-- the frames out in a managed block
abbrev pub block_frames_out : Marks → (block : ℕ) → List (ℕ × Out)
block_frames_out m block = frames_out m.out (first_frame m.sizes block) m.sizes.block

-- where the frames of a block behind a frame begin; the frame may be of another block
abbrev pub first_behind : Marks → (block after : ℕ) → ℕ
first_behind m block after = max (first_frame m.sizes block) (after + 1)

-- the frames out in a managed block, all or those behind a frame
abbrev pub frames_out_after : Marks → (block : ℕ) → Option FrameNo → List (ℕ × Out)
frames_out_after m block None = block_frames_out m block
frames_out_after m block (Some after) =
    frames_out m.out (first_behind m block after.0) (first_frame m.sizes block + m.sizes.block - first_behind m block after.0)

-- whether a frame is out for an unmovable page
abbrev pub is_unmovable : ℕ × Out → Bool
is_unmovable f = not (is_movable f.1.kind)

-- whether a block may be isolated, given its frames that are out for unmovable pages: the first of them
-- refuses it
abbrev pub isolation : List (ℕ × Out) → Result Unit Unmovable
isolation [] = Ok tt
isolation (f ∷ rest) = Err (record { frame = record { 0 = f.0 }; page = record { 0 = f.1.page } })

-- the first frame of a list, and the page that it is out for
abbrev pub first_page : List (ℕ × Out) → Option (FrameNo × PageNo)
first_page [] = None
first_page (f ∷ rest) = Some (record { 0 = f.0 }, record { 0 = f.1.page })

-- the page and the kind that a frame is out for
abbrev pub page_and_kind : Option Out → Option (PageNo × Kind)
page_and_kind None = None
page_and_kind (Some o) = Some (record { 0 = o.page }, o.kind)
