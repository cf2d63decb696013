-- Blocks whose frames may change hands.
use Rattle.std.specs.Prelude.{◌≡◌, ℕ, ◌<◌, ◌≤◌, true, List, IsSome}
use Rattle.evac_model.specs.Geometry.{Sizes, frame_count}
use Rattle.evac_model.specs.Numbers.{is_in, AreDistinct}
use Rattle.evac_model.specs.SpaceJournal.{is_frame_in}
use Rattle.core_state.specs.declared.opening.Opening.{Opening}
use Rattle.core_state.specs.declared.view.View.{View}
use Rattle.core_state.specs.HandOvers.{IsAtRest}
use Rattle.core_state.specs.Views.{view_of, hand_frame}

-- Both seats are at rest, the one has each frame of the blocks in hand, and the blocks are managed ones, each once.
pub record MayHandBlocks (s : Sizes) (o : Opening) (views : List View) (from to : ℕ) (blocks : List ℕ) : Type 0 where
  pub frames : frame_count s ≤ o.frames
  pub giver_rests : IsAtRest o (view_of views from)
  pub receiver_rests : IsAtRest o (view_of views to)
  pub managed : (block : ℕ) → is_in block blocks ≡ true → block < s.managed
  pub distinct : AreDistinct blocks
  pub in_hand : (frame : ℕ) → is_frame_in s blocks frame ≡ true → IsSome (hand_frame (view_of views from) frame)
