-- The first line of an input, and what comes behind it.
use Rattle.std.specs.Prelude.{◌≡◌, ℕ, ◌<◌, List, ◌∷◌, length}
use Rattle.std.specs.Str.Lines.{lines}

-- the line comes first, and the lines of the rest come behind it
pub record IsSplit (text line rest : List ℕ) : Type 0 where
  pub lines : lines text ≡ line ∷ lines rest
  pub shorter : length rest < length text
