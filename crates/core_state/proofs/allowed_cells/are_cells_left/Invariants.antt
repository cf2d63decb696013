use Rattle.std.proofs.Common.{ℕ, ◌<◌}
use Rattle.core_state.specs.Settled.{IsLeftWith}
use Rattle.core_state.specs.Wanted.{wanted_at}
use Rattle.core_state.proofs.allowed_cells.are_cells_left.Given as goal

abbrev pub invariant-loop-cell : goal.invariant-loop-cell
invariant-loop-cell l = (cell : ℕ) → cell < l.cell → IsLeftWith l.h cell (wanted_at l.wanted cell)
