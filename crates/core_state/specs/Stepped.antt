-- The words and the views after one step of one seat: one word and one view have changed.
use Rattle.std.specs.Prelude.{ℕ, List, slice_index, slice_set}
use Rattle.core_state.specs.declared.keeper.Keeper.{Keeper}
use Rattle.core_state.specs.declared.opening.Opening.{Opening}
use Rattle.core_state.specs.declared.snapshot.Snapshot.{Snapshot}
use Rattle.core_state.specs.declared.step.MoveStep.{MoveStep}
use Rattle.core_state.specs.declared.step.ScanStep.{ScanStep}
use Rattle.core_state.specs.declared.step.Step.{Step}
use Rattle.core_state.specs.declared.view.View.{View}
use Rattle.core_state.specs.Views.{view_of}
use Rattle.core_state.specs.Steps.{word_index, word_after, view_after}
use Rattle.core_state.specs.MoveSteps.{move_index, word_after_move, view_after_move}
use Rattle.core_state.specs.ScanSteps.{scan_index, word_after_scan, view_after_scan}

-- the word that a step of the view would find
abbrev pub word_found : Opening → List ℕ → View → Step → ℕ
word_found o words v step = slice_index words (word_index o v step)

abbrev pub words_after : Opening → List ℕ → View → Step → List ℕ
words_after o words v step = slice_set words (word_index o v step) (word_after v step (word_found o words v step))

abbrev pub views_after : Keeper → Opening → List ℕ → List View → ℕ → View → Step → List View
views_after k o words views seat v step = slice_set views seat (view_after k v step (word_found o words v step))

abbrev pub snapshot_after : Keeper → Opening → Snapshot → ℕ → Step → Snapshot
snapshot_after k o s seat step = record {
  words = words_after o s.words (view_of s.views seat) step;
  views = views_after k o s.words s.views seat (view_of s.views seat) step;
}

abbrev pub words_after_move : List ℕ → View → MoveStep → List ℕ
words_after_move words v step = slice_set words (move_index v) (word_after_move v step)

abbrev pub snapshot_after_move : Keeper → Snapshot → ℕ → MoveStep → Snapshot
snapshot_after_move k s seat step = record {
  words = words_after_move s.words (view_of s.views seat) step;
  views = slice_set s.views seat (view_after_move k (view_of s.views seat) step);
}

-- the word that a step of the scanner finds
abbrev pub scan_found : Opening → List ℕ → View → ScanStep → ℕ
scan_found o words v step = slice_index words (scan_index o v.scan step)

abbrev pub words_after_scan : Opening → List ℕ → View → ScanStep → List ℕ
words_after_scan o words v step = slice_set words (scan_index o v.scan step) (word_after_scan step (scan_found o words v step))

abbrev pub snapshot_after_scan : Keeper → Opening → Snapshot → ℕ → ScanStep → Snapshot
snapshot_after_scan k o s seat step = record {
  words = words_after_scan o s.words (view_of s.views seat) step;
  views = slice_set s.views seat (view_after_scan k (view_of s.views seat) step (scan_found o s.words (view_of s.views seat) step));
}
