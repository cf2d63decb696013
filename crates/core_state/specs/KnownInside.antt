-- How what is known of cells is kept: nothing before a place, and nothing from another on.
use Rattle.std.specs.Prelude.{◌≡◌, ◌-◌, ◌≤◌, None, length, take, drop, replicate}
use Rattle.core_state.specs.declared.known_cells.KnownCells.TheInside.{Inside}

pub record AreWithin (a : Inside) : Type 0 where
  pub low : a.from ≤ length a.items.items
  pub high : a.to ≤ length a.items.items
  pub before : take a.from a.items.items ≡ replicate a.from None
  pub behind : drop a.to a.items.items ≡ replicate (length a.items.items - a.to) None
