-- Reading an image field by field, with the first fault that is met.
use Rattle.std.specs.Prelude.{◌≡◌, ℕ, zero, suc, ◌+◌, ◌*◌, ◌^◌, Bool, ◌==◌, ◌&&◌, nat_le, nat_lt, if◌then◌else◌, List, [], ◌∷◌, ◌++◌, length, take, drop, Result, Ok, Err}
use Rattle.std.specs.List.{list_any}
use Rattle.std.specs.Str.{bytes_eq}
use Rattle.byteorder.specs.Endian.{little_number}
use Rattle.evac_model.specs.declared.names.BlockNo.{BlockNo}
use Rattle.evac_model.specs.Geometry.{Sizes, frame_count}
use Rattle.evac_model.specs.Numbers.{is_in, is_between}
use Rattle.migrate_image.specs.declared.frame.ImageFrame.{ImageFrame}
use Rattle.migrate_image.specs.declared.fault.ImageFault.{ImageFault}
use Rattle.migrate_image.specs.declared.fault.ImageFault.TheVariants as faults
use Rattle.migrate_image.specs.Fields.{mark}
use Rattle.migrate_image.specs.Images.{ImageParts, frames_due, frame_numbers}

infixl 10 ◌>>=◌
abbrev pub ◌>>=◌ : {A B : Type 0} → Result A ImageFault → (A → Result B ImageFault) → Result B ImageFault
(Ok x) >>= f = f x
(Err e) >>= f = Err e

-- a fault of the code is the fault of the bytes, unless memory ran out
abbrev pub Fails : {Y : Type 0} → ImageFault → Result Y ImageFault → Type 0
Fails faults.OutOfMemory read = Unit {0}
Fails faults.Truncated read = read ≡ Err faults.Truncated
Fails faults.BadMark read = read ≡ Err faults.BadMark
Fails faults.BadHeader read = read ≡ Err faults.BadHeader
Fails (faults.BadFrame n) read = read ≡ Err (faults.BadFrame n)
Fails (faults.Repeated n) read = read ≡ Err (faults.Repeated n)
Fails faults.Trailing read = read ≡ Err faults.Trailing

-- what the code answered, seen by view, is what reading gives, unless memory ran out
abbrev pub Gives : {X Y : Type 0} → (X → Y) → Result X ImageFault → Result Y ImageFault → Type 0
Gives view (Ok x) read = read ≡ Ok (view x)
Gives view (Err e) read = Fails e read

-- a field is a value and the bytes behind it: here a number of 4 bytes
unfoldable pub le32_at : List ℕ → Result (ℕ × List ℕ) ImageFault
le32_at bytes = if nat_lt (length bytes) 4 then Err faults.Truncated else Ok (little_number 4 bytes, drop 4 bytes)

-- a number of 8 bytes
unfoldable pub le64_at : List ℕ → Result (ℕ × List ℕ) ImageFault
le64_at bytes = if nat_lt (length bytes) 8 then Err faults.Truncated else Ok (little_number 8 bytes, drop 8 bytes)

-- the bytes behind the mark
unfoldable pub mark_at : List ℕ → Result (List ℕ) ImageFault
mark_at bytes =
    if nat_lt (length bytes) 8 then Err faults.Truncated
    else if bytes_eq (take 8 bytes) mark then Ok (drop 8 bytes)
    else Err faults.BadMark

-- a power of two from 1 to 512
abbrev pub is_power : ℕ → Bool
is_power n = list_any (λ p. p == n) (1 ∷ 2 ∷ 4 ∷ 8 ∷ 16 ∷ 32 ∷ 64 ∷ 128 ∷ 256 ∷ 512 ∷ [])

-- whether sizes are within their limits
unfoldable pub is_within : Sizes → Bool
is_within s =
    is_power s.cells && (is_power s.block && (is_between 1 65537 s.boot && (is_between 1 65537 s.managed
    && (nat_le s.plugged s.managed && (is_between 1 65537 s.pages
    && (nat_le (frame_count s) 65536 && nat_le (frame_count s * s.cells) (2 ^ 22)))))))

-- the five sizes; an image has one page
unfoldable pub sizes_at : List ℕ → Result (Sizes × List ℕ) ImageFault
sizes_at bytes = do
  cells ← le32_at bytes
  block ← le32_at cells.1
  boot ← le32_at block.1
  managed ← le32_at boot.1
  plugged ← le32_at managed.1
  Ok (record { cells = cells.0; block = block.0; boot = boot.0; managed = managed.0; plugged = plugged.0; pages = 1 }, plugged.1)

-- they are judged when all are read
unfoldable pub judged : Sizes → Result Sizes ImageFault
judged s = if is_within s then Ok s else Err faults.BadHeader

-- n more blocks behind those read so far, each from least on and below the bound
unfoldable pub blocks_at : (bound : ℕ) → (read : List BlockNo) → (least n : ℕ) → List ℕ → Result (List BlockNo × List ℕ) ImageFault
blocks_at bound read least zero bytes = Ok (read, bytes)
blocks_at bound read least (suc n) bytes = do
  b ← le32_at bytes
  if is_between least bound b.0 then blocks_at bound (read ++ record { 0 = b.0 } ∷ []) (b.0 + 1) n b.1 else Err faults.BadHeader

-- n more cells behind those read so far
unfoldable pub cells_at : (read : List ℕ) → (n : ℕ) → List ℕ → Result (List ℕ × List ℕ) ImageFault
cells_at read zero bytes = Ok (read, bytes)
cells_at read (suc n) bytes = do
  cell ← le64_at bytes
  cells_at (read ++ cell.0 ∷ []) n cell.1

-- the number of the frame that is due, behind the frames with the numbers that were read before
unfoldable pub number_at : (before : List ℕ) → (due : ℕ) → List ℕ → Result (List ℕ) ImageFault
number_at before due bytes = do
  n ← le32_at bytes
  if n.0 == due then Ok n.1 else if is_in n.0 before then Err (faults.Repeated n.0) else Err (faults.BadFrame n.0)

-- the frame that is due
unfoldable pub frame_at : (cells : ℕ) → (before : List ℕ) → (due : ℕ) → List ℕ → Result (ImageFrame × List ℕ) ImageFault
frame_at cells before due bytes = do
  behind ← number_at before due bytes
  content ← cells_at [] cells behind
  Ok (record { frame = record { 0 = due }; cells = content.0 }, content.1)

-- the frames that are due, behind those read so far
unfoldable pub frames_at : (cells : ℕ) → (read : List ImageFrame) → (due : List ℕ) → List ℕ → Result (List ImageFrame × List ℕ) ImageFault
frames_at cells read [] bytes = Ok (read, bytes)
frames_at cells read (n ∷ due) bytes = do
  frame ← frame_at cells (frame_numbers read) n bytes
  frames_at cells (read ++ frame.0 ∷ []) due frame.1

-- an image, and nothing behind it
unfoldable pub image_of : List ℕ → Result ImageParts ImageFault
image_of bytes = do
  behind ← mark_at bytes
  header ← sizes_at behind
  sizes ← judged header.0
  plugged ← blocks_at sizes.managed [] 0 sizes.plugged header.1
  frames ← frames_at sizes.cells [] (frames_due sizes plugged.0) plugged.1
  if length frames.1 == 0 then Ok (record { geometry = sizes; plugged = plugged.0; frames = frames.0 }) else Err faults.Trailing
