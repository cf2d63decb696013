-- What is seen of a listener that keeps one bit a block.
use Rattle.std.specs.Prelude.{ℕ, List}

-- the blocks of the region, those that are mapped, rising, the most that may be, and how often a range was refused
pub record DmaState : Type 0 where
  pub region : ℕ
  pub mapped : List ℕ
  pub limit : ℕ
  pub refusals : ℕ
