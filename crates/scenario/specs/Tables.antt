-- Sets of small numbers, as tables of yes and no.
use Rattle.std.specs.Prelude.{◌≡◌, ℕ, nat_eq, Bool, false, List, slice_index_or}
use Rattle.std.specs.List.{list_any}

-- the table has just these numbers
abbrev pub HasJust : List Bool → List ℕ → Type 0
HasJust table names = (k : ℕ) → slice_index_or table k false ≡ list_any (nat_eq k) names
