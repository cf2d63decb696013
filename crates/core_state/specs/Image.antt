-- The scanner's image agrees with the cells.
use Rattle.std.specs.Prelude.{◌≡◌, ℕ, ◌<◌, ◌≤◌, List, length, take, slice_index_or, Some}
use Rattle.std.specs.List.{sum_by}
use Rattle.core_state.specs.declared.opening.Opening.{Opening}
use Rattle.core_state.specs.declared.scan.Scan.{Scan}
use Rattle.core_state.specs.declared.view.View.{View}
use Rattle.core_state.specs.Copies.{Copied, nothing_copied}
use Rattle.core_state.specs.Words.{dirty_word_of, cells_of_frame}
use Rattle.core_state.specs.Views.{Has, times_unmarked_in, scans}

-- the copy of the frame; a frame that isn't one of the machine has none
abbrev pub copy_at : Scan → ℕ → Copied
copy_at s frame = slice_index_or s.image frame (nothing_copied 0)

-- the cells of the frame that were copied so far
abbrev pub copy_of : Scan → ℕ → List ℕ
copy_of s frame = (copy_at s frame).cells

-- There is one scanner at most, and each dirty word is 0 or 1. Where a frame's dirty word is 0 and no
-- view has it unmarked, the cells copied so far are the first cells of the frame.
pub record Image (o : Opening) (words : List ℕ) (views : List View) : Type 0 where
  pub one_scanner : sum_by scans views ≤ 1
  pub dirty : (frame : ℕ) → frame < o.frames → dirty_word_of o words frame ≤ 1
  pub copied : (i : ℕ) (v : View) (s : Scan) (frame : ℕ) → Has views i v → v.scan ≡ Some s → frame < o.frames → dirty_word_of o words frame ≡ 0 → times_unmarked_in frame views ≡ 0
      → copy_of s frame ≡ take (length (copy_of s frame)) (cells_of_frame o words frame)
