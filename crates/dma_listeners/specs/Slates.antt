-- What is seen of a backing that fails at listed calls.
use Rattle.std.specs.Prelude.{ℕ, List}
use Rattle.evac_model.specs.Counts.{Calls, first_of_calls}

-- a slate: its calls, and how many failed
pub record SlateState : Type 0 where
  pub calls : Calls
  pub faults : ℕ

-- a slate before its first call
abbrev pub fresh_slate : List ℕ → SlateState
fresh_slate fails = record { calls = first_of_calls fails; faults = 0 }
