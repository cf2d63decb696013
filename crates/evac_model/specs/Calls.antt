-- Which calls fit a machine.
use Rattle.std.specs.Prelude.{ℕ, ◌+◌, ◌<◌, ◌≤◌, length}
use Rattle.evac_model.specs.declared.call.Call.{Call}
use Rattle.evac_model.specs.declared.call.Call.TheVariants.{Alloc, Free, Read, Write, Add, Pin, Unpin}
use Rattle.evac_model.specs.Geometry.{Sizes}

-- 1 to 8 cells, all of them in a page
abbrev pub AreCells : Sizes → ℕ → ℕ → Type 0
AreCells s first count = (1 ≤ count) × (count ≤ 8) × (first + count ≤ s.cells)

-- the cells that a call names are in a page of the machine
abbrev pub IsCallFor : Sizes → Call → Type 0
IsCallFor s (Alloc kind) = Unit {0}
IsCallFor s Free = Unit {0}
IsCallFor s (Read first count) = AreCells s first count
IsCallFor s (Write first values) = AreCells s first (length values)
IsCallFor s (Add cell value) = cell < s.cells
IsCallFor s Pin = Unit {0}
IsCallFor s Unpin = Unit {0}
