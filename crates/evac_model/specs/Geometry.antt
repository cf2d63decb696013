-- The geometry of a machine: its sizes, their limits, and what follows from them.
use Rattle.std.specs.Prelude.{ℕ, ◌+◌, ◌*◌, ◌^◌, ◌<◌, ◌≤◌, List, [], ◌∷◌}
use Rattle.std.specs.List.{AllByRecursion}
use Rattle.evac_model.specs.GeometryLimits.{IsPowerTo512, IsCountTo65536}
use Rattle.evac_model.specs.declared.geometry.GeometryFault.{GeometryFault}
use Rattle.evac_model.specs.declared.geometry.GeometryFault.TheVariants.{Cells, Block, Boot, Managed, Plugged, Pages, Frames, TotalCells}

-- cells in a page, frames in a block, boot blocks, managed blocks, those plugged at the start, page numbers
pub record Sizes : Type 0 where
  pub cells : ℕ
  pub block : ℕ
  pub boot : ℕ
  pub managed : ℕ
  pub plugged : ℕ
  pub pages : ℕ

-- the frames of all blocks, boot blocks first
abbrev pub frame_count : Sizes → ℕ
frame_count s = (s.boot + s.managed) * s.block

-- the limit that a fault names
abbrev pub Meets : Sizes → GeometryFault → Type 0
Meets s Cells = IsPowerTo512 s.cells
Meets s Block = IsPowerTo512 s.block
Meets s Boot = IsCountTo65536 s.boot
Meets s Managed = IsCountTo65536 s.managed
Meets s Plugged = s.plugged ≤ s.managed
Meets s Pages = IsCountTo65536 s.pages
Meets s Frames = frame_count s ≤ 65536
Meets s TotalCells = frame_count s * s.cells ≤ 2 ^ 22

-- every limit is met
pub record IsWithinLimits (s : Sizes) : Type 0 where
  pub cells : Meets s Cells
  pub block : Meets s Block
  pub boot : Meets s Boot
  pub managed : Meets s Managed
  pub plugged : Meets s Plugged
  pub pages : Meets s Pages
  pub frames : Meets s Frames
  pub total_cells : Meets s TotalCells

-- the limits that are tested before a fault's
abbrev pub tested_before : GeometryFault → List GeometryFault
tested_before Cells = []
tested_before Block = Cells ∷ []
tested_before Boot = Cells ∷ Block ∷ []
tested_before Managed = Cells ∷ Block ∷ Boot ∷ []
tested_before Plugged = Cells ∷ Block ∷ Boot ∷ Managed ∷ []
tested_before Pages = Cells ∷ Block ∷ Boot ∷ Managed ∷ Plugged ∷ []
tested_before Frames = Cells ∷ Block ∷ Boot ∷ Managed ∷ Plugged ∷ Pages ∷ []
tested_before TotalCells = Cells ∷ Block ∷ Boot ∷ Managed ∷ Plugged ∷ Pages ∷ Frames ∷ []

-- the fault's limit is the first that is broken
abbrev pub BreaksFirst : Sizes → GeometryFault → Type 0
BreaksFirst s f = AllByRecursion (Meets s) (tested_before f) × ¬ Meets s f

-- the bytes of a block; a cell has 8
abbrev pub block_bytes : Sizes → ℕ
block_bytes s = s.cells * 8 * s.block

-- the first byte of a managed block
abbrev pub address : Sizes → ℕ → ℕ
address s b = (s.boot + b) * block_bytes s

-- the first frame of a managed block
abbrev pub first_frame : Sizes → ℕ → ℕ
first_frame s b = (s.boot + b) * s.block

-- the frame is of a boot block, or of a block that is plugged at the start
abbrev pub IsThereAtStart : Sizes → ℕ → Type 0
IsThereAtStart s frame = frame < (s.boot + s.plugged) * s.block
