-- What a backing was asked to give back.
use Rattle.std.specs.Prelude.{ℕ, List, [], ◌∷◌, ◌++◌, Option}
use Rattle.std.specs.Option.{option_map}
use Rattle.evac_model.specs.HostCommands.{BlockRange}

-- n blocks from first on were asked for, behind the ranges before, where these are told
abbrev pub asked_more : (first n : ℕ) → Option (List BlockRange) → Option (List BlockRange)
asked_more first n asked = option_map (λ ranges. ranges ++ record { first = first; count = n } ∷ []) asked
