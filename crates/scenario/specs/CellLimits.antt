-- Which calls name no number above a limit.
use Rattle.std.specs.Prelude.{ℕ, ◌≤◌}
use Rattle.evac_model.specs.declared.call.Call.{Call}
use Rattle.evac_model.specs.declared.call.Call.TheVariants.{Alloc, Free, Read, Write, Add, Pin, Unpin}

-- no cell and no count of cells that the call names is above the limit
abbrev pub NamesUpTo : ℕ → Call → Type 0
NamesUpTo most (Alloc kind) = Unit {0}
NamesUpTo most Free = Unit {0}
NamesUpTo most (Read first count) = (first ≤ most) × (count ≤ most)
NamesUpTo most (Write first values) = first ≤ most
NamesUpTo most (Add cell value) = cell ≤ most
NamesUpTo most Pin = Unit {0}
NamesUpTo most Unpin = Unit {0}
