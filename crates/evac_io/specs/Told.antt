-- What calls do to the bytes that are told of a source or a sink. An untold one stays untold.
use Rattle.std.specs.Prelude.{◌≡◌, ℕ, ◌<◌, List, [], ◌++◌, length, ⊤, Option, None, Some}
use Rattle.std.specs.Option.{option_map}

-- the bytes that were left are these, and then those that are left now
abbrev pub Gives : Option (List ℕ) → Option (List ℕ) → List ℕ → Type 0
Gives before after bytes = before ≡ option_map (λ rest. bytes ++ rest) after

-- the bytes taken are those from before, and then these
abbrev pub Takes : Option (List ℕ) → Option (List ℕ) → List ℕ → Type 0
Takes before after bytes = after ≡ option_map (λ front. front ++ bytes) before

-- no byte is left, where it is told
abbrev pub IsAtEnd : Option (List ℕ) → Type 0
IsAtEnd None = ⊤
IsAtEnd (Some bytes) = bytes ≡ []

-- more than so many bytes are left, where it is told
abbrev pub IsLongerThan : Option (List ℕ) → ℕ → Type 0
IsLongerThan None limit = ⊤
IsLongerThan (Some bytes) limit = limit < length bytes
