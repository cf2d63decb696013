use Rattle.std.proofs.Common.{◌≡◌, ℕ, ◌<◌, slice_index_or, None, Some}
use Rattle.core_moves.proofs.allowed.are_zeros.Given as goal

-- zero is stored in the cells so far
abbrev pub invariant-loop-cell : goal.invariant-loop-cell
invariant-loop-cell l = (cell : ℕ) → cell < l.cell → slice_index_or l.stores cell None ≡ Some 0
