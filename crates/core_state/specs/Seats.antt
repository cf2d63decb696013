-- Each view by itself: it is that of a seat of the machine, with its places.
use Rattle.std.specs.Prelude.{◌≡◌, ◌⊎◌, ℕ, ◌<◌, ◌≤◌, List, length, Some}
use Rattle.std.specs.List.{sum_by}
use Rattle.core_state.specs.declared.hand.HandFrame.{HandFrame}
use Rattle.core_state.specs.declared.held.Held.{Held}
use Rattle.core_state.specs.declared.opening.Opening.{Opening}
use Rattle.core_state.specs.declared.scan.Scan.{Scan}
use Rattle.core_state.specs.declared.view.View.{View}
use Rattle.core_state.specs.Views.{Has, IsSeated, spent, hand_frame, keeps_journal}
use Rattle.core_state.specs.Image.{copy_at}

-- places for so many cells, for loads and for stores
pub record IsHeldRoom (n : ℕ) (h : Held) : Type 0 where
  pub loads : length h.loads ≡ n
  pub stores : length h.stores ≡ n

-- A view of the machine in which the page that is held, each frame in hand and each frame's copy have a
-- place for each cell.
pub record IsSeat (o : Opening) (v : View) : Type 0 where
  pub seated : IsSeated o v
  pub held : (h : Held) → v.held ≡ Some h → IsHeldRoom o.cells h
  pub in_hand : (frame : ℕ) (x : HandFrame) → hand_frame v frame ≡ Some x → length x.stores ≡ o.cells
  pub copies : (s : Scan) (frame : ℕ) → v.scan ≡ Some s → frame < o.frames → (copy_at s frame).places ≡ o.cells

-- Each view is such a view, or the one that a joined seat is left with. One view at most has the
-- journal of the frame space.
pub record Seats (o : Opening) (views : List View) : Type 0 where
  pub each : (i : ℕ) (v : View) → Has views i v → (v ≡ spent) ⊎ IsSeat o v
  pub one_journal : sum_by keeps_journal views ≤ 1
