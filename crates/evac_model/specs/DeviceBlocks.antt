-- The blocks that a memory device plugs and unplugs. They lie one behind another in the managed region, and today
-- each is a managed block.
use Rattle.std.specs.Prelude.{ℕ, ◌*◌}
use Rattle.evac_model.specs.Geometry.{Sizes, block_bytes, address}

-- how many there are, and how many of them, from 0 on, are plugged at the start
abbrev pub device_blocks : Sizes → ℕ
device_blocks s = s.managed

abbrev pub plugged_at_start : Sizes → ℕ
plugged_at_start s = s.plugged

-- the bytes of one
abbrev pub device_block_bytes : Sizes → ℕ
device_block_bytes s = block_bytes s

-- the first byte of one; that of number 0 is the region's first
abbrev pub device_address : Sizes → (block : ℕ) → ℕ
device_address s b = address s b

-- the bytes of the region
abbrev pub region_bytes : Sizes → ℕ
region_bytes s = device_blocks s * device_block_bytes s
