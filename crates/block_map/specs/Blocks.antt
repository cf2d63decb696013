-- The plugged blocks of a machine, as a rising list of their numbers.
use Rattle.std.specs.Prelude.{◌≡◌, ℕ, ◌+◌, ◌<◌, ◌≤◌, true, false, List}
use Rattle.evac_model.specs.Geometry.{Sizes}
use Rattle.evac_model.specs.Numbers.{is_in}
use Rattle.evac_model.specs.DeviceAnswer.{range_state}

-- the machine, and the numbers of its plugged blocks, rising
pub record Blocks : Type 0 where
  pub sizes : Sizes
  pub plugged : List ℕ

-- each block of a range of n blocks is plugged
abbrev pub IsAllPlugged : (first n : ℕ) → List ℕ → Type 0
IsAllPlugged first n plugged = (b : ℕ) → first ≤ b → b < first + n → is_in b plugged ≡ true

-- no block of a range of n blocks is plugged
abbrev pub IsNonePlugged : (first n : ℕ) → List ℕ → Type 0
IsNonePlugged first n plugged = (b : ℕ) → first ≤ b → b < first + n → is_in b plugged ≡ false

-- The state of a range of n blocks, as a memory device tells it. It opens where it is named, since a range may be long.
unfoldable pub state_told : List ℕ → (first n : ℕ) → ℕ
state_told plugged first n = range_state plugged first n
