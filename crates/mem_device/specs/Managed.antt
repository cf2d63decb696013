-- The memory that a device manages.
use Rattle.std.specs.Prelude.{◌≡◌, ℕ, ◌≤◌, true, false, List, Some, Result, Ok, Err}
use Rattle.evac_model.specs.declared.names.BlockNo.{BlockNo}
use Rattle.evac_model.specs.declared.device.Request.TheVariants as requests
use Rattle.evac_model.specs.declared.device.Response.{Response}
use Rattle.evac_model.specs.declared.device.Response.TheVariants.{Ack}
use Rattle.evac_model.specs.Geometry.{Sizes, IsWithinLimits}
use Rattle.evac_model.specs.DeviceBlocks.{device_blocks}
use Rattle.evac_model.specs.Numbers.{IsRisingBelow}
use Rattle.evac_model.specs.DeviceAnswer.{DeviceState, unplug_answer}
use Rattle.evac_model.specs.DeviceAnswer.{unplugged_blocks}
use Rattle.evac_model.specs.DeviceAnswer.{asks_backing}
use Rattle.mem_device.specs.declared.memory.Memory.{Memory}

module _ {B H : Type 0} where
  -- the state of the device
  abbrev pub state_in : Memory B H → DeviceState
  state_in m = record { plugged = m.map.plugged; requested = m.requested; migrating = m.migrating }

  -- the hand has exactly the unplugged blocks, and room for each block, and the backing backs each
  pub record IsManaged (blocks : H → List ℕ) (room : H → ℕ) (backs : B → ℕ) (m : Memory B H) : Type 0 where
    pub within : IsWithinLimits m.map.sizes
    pub rising : IsRisingBelow (device_blocks m.map.sizes) m.map.plugged
    pub unplugged : blocks m.hand ≡ unplugged_blocks m.map.sizes m.map.plugged
    pub roomy : device_blocks m.map.sizes ≤ room m.hand
    pub backed : device_blocks m.map.sizes ≤ backs m.backing

-- the response to a request that is done, or the one that refuses it
abbrev pub cause_answer : Result BlockNo Response → Response
cause_answer (Ok first) = Ack 0
cause_answer (Err response) = response

-- an UNPLUG gets as far as the backing, whose failure decides, or is refused in any case
abbrev pub IsUnplugCause : Sizes → DeviceState → (addr count : ℕ) → Result BlockNo Response → Type 0
IsUnplugCause s d addr count (Ok first) = asks_backing s d (Some (requests.Unplug addr count)) ≡ true
IsUnplugCause s d addr count (Err response) =
    (asks_backing s d (Some (requests.Unplug addr count)) ≡ false) × (unplug_answer s d false addr count ≡ response)
