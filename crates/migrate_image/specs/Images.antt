-- What an image is, and its one spelling.
use Rattle.std.specs.Prelude.{◌≡◌, ℕ, ◌+◌, ◌*◌, ◌^◌, ◌<◌, ◌≤◌, List, [], ◌∷◌, ◌++◌, length, map}
use Rattle.std.specs.List.{AllByRecursion, flat_map, range_with_len}
use Rattle.evac_model.specs.declared.names.BlockNo.{BlockNo}
use Rattle.evac_model.specs.Geometry.{Sizes, IsWithinLimits, first_frame}
use Rattle.migrate_image.specs.declared.frame.ImageFrame.{ImageFrame}
use Rattle.migrate_image.specs.Fields.{le32, le64, mark}

-- the sizes of the machine, the blocks that are plugged, and the frames with their cells
pub record ImageParts : Type 0 where
  pub geometry : Sizes
  pub plugged : List BlockNo
  pub frames : List ImageFrame

-- the blocks rise from a least one on, and each is below the bound
abbrev pub AreRising : (least bound : ℕ) → List BlockNo → Type 0
AreRising least bound [] = Unit {0}
AreRising least bound (b ∷ bs) = (least ≤ b.0) × (b.0 < bound) × AreRising (b.0 + 1) bound bs

-- the frames of a managed block, rising
abbrev pub block_frames : Sizes → BlockNo → List ℕ
block_frames s b = range_with_len (first_frame s b.0) s.block

-- the frames of boot blocks and of plugged blocks, rising
abbrev pub frames_due : Sizes → List BlockNo → List ℕ
frames_due s plugged = range_with_len 0 (s.boot * s.block) ++ flat_map (block_frames s) plugged

-- the numbers of frames
abbrev pub frame_numbers : List ImageFrame → List ℕ
frame_numbers frames = map (λ f. f.frame.0) frames

-- an image: sizes within their limits, rising plugged blocks, and each frame that is due, once, with all its cells
pub record IsImage (i : ImageParts) : Type 0 where
  pub limits : IsWithinLimits i.geometry
  pub pages : i.geometry.pages ≡ 1
  pub count : length i.plugged ≡ i.geometry.plugged
  pub plugged : AreRising 0 i.geometry.managed i.plugged
  pub frames : frame_numbers i.frames ≡ frames_due i.geometry i.plugged
  pub cells : AllByRecursion (λ f. length f.cells ≡ i.geometry.cells) i.frames

-- the cells of all frames are numbers of 64 bits
abbrev pub HasWords : ImageParts → Type 0
HasWords i = AllByRecursion (λ f. AllByRecursion (λ c. c < 2 ^ 64) f.cells) i.frames

-- a plugged block
abbrev pub block_bytes : BlockNo → List ℕ
block_bytes b = le32 b.0

-- a frame: its number, then its cells
abbrev pub frame_bytes : ImageFrame → List ℕ
frame_bytes f = le32 f.frame.0 ++ flat_map le64 f.cells

-- cells in a page, frames in a block, boot blocks, managed blocks, plugged blocks
abbrev pub size_bytes : Sizes → List ℕ
size_bytes s = le32 s.cells ++ (le32 s.block ++ (le32 s.boot ++ (le32 s.managed ++ le32 s.plugged)))

-- an image: the mark, the sizes, the plugged blocks, the frames
abbrev pub image_bytes : ImageParts → List ℕ
image_bytes i = mark ++ (size_bytes i.geometry ++ (flat_map block_bytes i.plugged ++ flat_map frame_bytes i.frames))
