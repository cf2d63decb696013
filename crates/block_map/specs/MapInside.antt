-- What the words and the count of a block map keep.
use Rattle.std.specs.Prelude.{◌≡◌, ℕ, ◌+◌, ◌/◌, List, length}
use Rattle.evac_model.specs.Geometry.{Sizes, IsWithinLimits}
use Rattle.evac_model.specs.DeviceBlocks.{device_blocks}
use Rattle.evac_model.specs.Numbers.{numbers_where}
use Rattle.block_map.specs.Bits.{has_bit}

-- there is a word for each 64 blocks and one more, and the count is that of the plugged blocks
pub record IsKept (sizes : Sizes) (words : List ℕ) (count : ℕ) : Type 0 where
  pub within : IsWithinLimits sizes
  pub room : length words ≡ device_blocks sizes / 64 + 1
  pub counted : count ≡ length (numbers_where (has_bit words) (device_blocks sizes))
