-- What is seen of a device.
use Rattle.std.specs.Prelude.{◌≢◌, ℕ, ◌%◌, ◌<◌, ◌⊎◌, List, []}
use Rattle.evac_model.specs.declared.device_journal.DeviceAct.TheVariants.{Requested}
use Rattle.evac_model.specs.declared.device_journal.DeviceAction.{DeviceAction}
use Rattle.evac_model.specs.Geometry.{Sizes}
use Rattle.evac_model.specs.DeviceBlocks.{device_block_bytes, region_bytes}
use Rattle.evac_model.specs.DeviceAnswer.{DeviceState, device_after, device_at_start}

-- the machine, the actions so far, what backs the blocks, and what holds the unplugged ones
pub record DeviceView (B H : Type 0) : Type 0 where
  pub sizes : Sizes
  pub journal : List DeviceAction
  pub backing : B
  pub hand : H

-- the state that the actions leave
abbrev pub device_state : {B H : Type 0} → DeviceView B H → DeviceState
device_state v = device_after v.sizes (device_at_start v.sizes) v.journal

-- the host asked for so many bytes
abbrev pub requested_action : ℕ → DeviceAction
requested_action size = record { act = Requested size; notices = [] }

-- no multiple of the block size, or above the region's size
abbrev pub IsBadSize : Sizes → ℕ → Type 0
IsBadSize s size = (size % device_block_bytes s ≢ 0) ⊎ (region_bytes s < size)
