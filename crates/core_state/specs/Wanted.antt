-- What a call wants to stand in the cells that it leaves, cell by cell.
use Rattle.std.specs.Prelude.{ℕ, Option}
use Rattle.core_state.specs.declared.allowed_cells.Wanted.{Wanted}
use Rattle.core_state.specs.declared.allowed_cells.Wanted.TheVariants.{Nothing, Zeros, Values, One}
use Rattle.core_state.specs.Settled.{no_cell, zero_cells, value_at, one_cell}

abbrev pub wanted_at : Wanted → ℕ → Option ℕ
wanted_at Nothing = no_cell
wanted_at Zeros = zero_cells
wanted_at (Values first values) = value_at first values
wanted_at (One cell value) = one_cell cell value
