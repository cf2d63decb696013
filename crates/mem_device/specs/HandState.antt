-- What is seen of a hand of blocks.
use Rattle.std.specs.Prelude.{ℕ, List}

-- the blocks in hand, rising, and for how many blocks, from 0 on, there is room
pub record HandState : Type 0 where
  pub blocks : List ℕ
  pub room : ℕ
