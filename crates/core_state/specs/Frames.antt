-- Each frame is mapped once or in one hand.
use Rattle.std.specs.Prelude.{◌≡◌, ℕ, ◌+◌, ◌<◌, ◌≤◌, List, take, drop, Some}
use Rattle.std.specs.List.{sum_by}
use Rattle.core_state.specs.declared.hand.HandFrame.{HandFrame}
use Rattle.core_state.specs.declared.opening.Opening.{Opening}
use Rattle.core_state.specs.declared.view.View.{View}
use Rattle.core_state.specs.Words.{cells_of_frame}
use Rattle.core_state.specs.Views.{Has, hand_frame, times_in_hands, times_unmarked, maps_to, Owns}
use Rattle.core_state.specs.Pages.{Agrees}

abbrev pub all_entry_words : Opening → List ℕ → List ℕ
all_entry_words o words = take o.pages (drop 1 words)

-- how many pages are mapped to the frame
abbrev pub times_mapped : Opening → ℕ → List ℕ → ℕ
times_mapped o frame words = sum_by (λ w. maps_to frame w) (all_entry_words o words)

-- The frames of mapped pages and the frames in all hands are every frame, each once. What a view says
-- that it stored in a frame in hand stands there. A frame that a view wrote and hasn't marked is in its
-- hand, or is that of the page that it holds.
pub record Frames (o : Opening) (words : List ℕ) (views : List View) : Type 0 where
  pub each_once : (frame : ℕ) → frame < o.frames → times_mapped o frame words + times_in_hands frame views ≡ 1
  pub no_other : (frame : ℕ) → o.frames ≤ frame → times_mapped o frame words + times_in_hands frame views ≡ 0
  pub stored : (i : ℕ) (v : View) (frame : ℕ) (x : HandFrame) → Has views i v → hand_frame v frame ≡ Some x → Agrees x.stores (cells_of_frame o words frame)
  pub unmarked : (i : ℕ) (v : View) (frame : ℕ) → Has views i v → 0 < times_unmarked frame v → Owns v frame
