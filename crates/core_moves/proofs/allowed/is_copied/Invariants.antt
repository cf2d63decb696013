use Rattle.std.proofs.Common.{◌≡◌, ℕ, ◌<◌, slice_index_or, None, Some}
use Rattle.core_state.specs.MoveSteps.{known_cell}
use Rattle.core_moves.proofs.allowed.is_copied.Given as goal

-- the cells so far are known, and their values are stored in the frame
abbrev pub invariant-loop-cell : goal.invariant-loop-cell
invariant-loop-cell l = (cell : ℕ) → cell < l.cell → (value : ℕ) × (known_cell l.h cell ≡ Some value) × (slice_index_or l.x.stores cell None ≡ Some value)
