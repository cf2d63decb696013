-- The views after a step on the mapping of a held page.
use Rattle.std.specs.Prelude.{ℕ, ◌^◌, ◌≤◌, List, slice_set}
use Rattle.core_state.specs.declared.keeper.Keeper.{Keeper}
use Rattle.core_state.specs.declared.opening.Opening.{Opening}
use Rattle.core_state.specs.declared.step.MoveStep.{MoveStep}
use Rattle.core_state.specs.declared.view.View.{View}
use Rattle.core_state.specs.MoveSteps.{view_after_move}

-- the number of each frame has room in an entry word
pub record FramesFit (o : Opening) : Type 0 where
  pub few : o.frames ≤ 2 ^ 20

-- the view of the seat that steps has changed
abbrev pub views_after_move : Keeper → List View → ℕ → View → MoveStep → List View
views_after_move k views seat v step = slice_set views seat (view_after_move k v step)
