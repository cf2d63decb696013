use Rattle.std.proofs.Common.{◌≡◌, ◌+◌, ℕ, ◌<◌, Some, slice_index}
use Rattle.core_state.specs.Settled.{taken_cell}
use Rattle.core_state.proofs.allowed_cells.are_known.Given as goal

abbrev pub invariant-loop-i : goal.invariant-loop-i
invariant-loop-i l = (i : ℕ) → i < l.i → taken_cell l.h (l.first + i) ≡ Some (slice_index l.values i)
