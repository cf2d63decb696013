-- The steps of the scanner: where each is allowed, on which word it acts, what it leaves there, and what
-- the seat's view is afterwards.
use Rattle.std.specs.Prelude.{ℕ, ◌<◌, nat_le, ◌==◌, ◌||◌, if◌then◌else◌, Bool, true, List, [], ◌∷◌, ◌++◌, length, slice_set, Option, Some, None}
use Rattle.std.specs.Prelude.{IsSomeAnd}
use Rattle.evac_model.specs.declared.names.FrameNo.{FrameNo}
use Rattle.evac_words.specs.Table.{dirty_index, cell_index}
use Rattle.core_state.specs.declared.keeper.Keeper.{Keeper}
use Rattle.core_state.specs.declared.opening.Opening.{Opening}
use Rattle.core_state.specs.declared.scan.Scan.{Scan}
use Rattle.core_state.specs.declared.scan.Swept.{Swept}
use Rattle.core_state.specs.declared.step.ScanStep.{ScanStep}
use Rattle.core_state.specs.declared.step.ScanStep.TheVariants.{Sweep, Copy}
use Rattle.core_state.specs.declared.view.View.{View}
use Rattle.core_state.specs.Views.{IsSeated}
use Rattle.core_state.specs.Copies.{Copied}
use Rattle.core_state.specs.Image.{copy_at, copy_of}
use Rattle.core_state.specs.Steps.{counted}

-- A sweep of a frame that isn't above the one swept last begins a new pass, and so does the first one.
abbrev pub begins_pass : Option FrameNo → ℕ → Bool
begins_pass None frame = true
begins_pass (Some at) frame = nat_le frame at.0

-- the frame's copy begins anew where its mark was set or the frame is new
abbrev pub image_after_sweep : Scan → ℕ → ℕ → Bool → List Copied
image_after_sweep s frame found fresh = if (found == 1) || fresh then slice_set s.image frame (record (copy_at s frame) { cells = [] }) else s.image

abbrev pub swept : FrameNo → ℕ → Bool → Swept
swept frame found fresh = record { frame = frame; mark = found; fresh = fresh }

abbrev pub after_sweep : Keeper → Scan → FrameNo → Bool → ℕ → Scan
after_sweep k s frame fresh found = record {
  at = Some frame;
  image = image_after_sweep s frame.0 found fresh;
  swept = (if begins_pass s.at frame.0 then [] else s.swept) ++ swept frame found fresh ∷ [];
  passes = if begins_pass s.at frame.0 then counted k s.passes else s.passes;
}

-- the copy of the frame swept last has one cell more
abbrev pub with_cell : Scan → Option FrameNo → ℕ → Scan
with_cell s None found = s
with_cell s (Some at) found = record s { image = slice_set s.image at.0 (record (copy_at s at.0) { cells = copy_of s at.0 ++ found ∷ [] }) }

abbrev pub scan_after : Keeper → Option Scan → ScanStep → ℕ → Option Scan
scan_after k None step found = None
scan_after k (Some s) (Sweep frame fresh) found = Some (after_sweep k s frame fresh found)
scan_after k (Some s) Copy found = Some (with_cell s s.at found)

-- The seat is the scanner's. A sweep is of a frame of the machine; a copy is of the next cell of the
-- frame swept last.
abbrev pub AllowedScan : Opening → View → ScanStep → Type 0
AllowedScan o v (Sweep frame fresh) = IsSeated o v × (frame.0 < o.frames) × IsSomeAnd v.scan (λ s. Unit {0})
AllowedScan o v Copy = IsSeated o v × IsSomeAnd v.scan (λ s. IsSomeAnd s.at (λ at. (at.0 < o.frames) × (length (copy_of s at.0) < o.cells)))

abbrev pub next_cell_index : Opening → Scan → Option FrameNo → ℕ
next_cell_index o s None = 0
next_cell_index o s (Some at) = cell_index o.pages o.frames o.cells at.0 (length (copy_of s at.0))

abbrev pub scan_index : Opening → Option Scan → ScanStep → ℕ
scan_index o None step = 0
scan_index o (Some s) (Sweep frame fresh) = dirty_index o.pages frame.0
scan_index o (Some s) Copy = next_cell_index o s s.at

abbrev pub word_after_scan : ScanStep → ℕ → ℕ
word_after_scan (Sweep frame fresh) found = 0
word_after_scan Copy found = found

abbrev pub view_after_scan : Keeper → View → ScanStep → ℕ → View
view_after_scan k v step found = record v { scan = scan_after k v.scan step found }
