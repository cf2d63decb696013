-- What stands in the cells.
use Rattle.std.specs.Prelude.{ℕ, ◌<◌, ◌^◌, List, slice_index}
use Rattle.evac_words.specs.Table.{cell_index}
use Rattle.machine.specs.World.{Setting}

-- each cell of each frame has a number of 64 bits
abbrev pub HaveNumbersInCells : Setting → List ℕ → Type 0
HaveNumbersInCells c words = (frame cell : ℕ) → frame < c.opening.frames → cell < c.opening.cells → slice_index words (cell_index c.opening.pages c.opening.frames c.opening.cells frame cell) < 2 ^ 64
