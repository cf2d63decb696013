-- How a machine is kept.
use Rattle.std.specs.Prelude.{◌≡◌, ℕ}
use Rattle.evac_model.specs.Counts.{Calls}
use Rattle.evac_model.specs.Numbers.{is_in, IsRisingBelow}
use Rattle.machine.specs.declared.action.Heard.{Heard}
use Rattle.machine.specs.declared.parts.Parts.{Parts}
use Rattle.machine.specs.Consistent.{IsSetting, IsConsistent}
use Rattle.machine.specs.Made.{Made}
use Rattle.machine.specs.World.{Setting, World, MachineState, calls_now, is_held}

-- the calls of a backing before the first one
abbrev pub none_made : Calls → Calls
none_made calls = record calls { made = 0 }

abbrev pub setting_of : Parts → Setting
setting_of a = record { opening = a.core.opening; sizes = a.space.sizes; online = a.space.online; space = a.space.opening; owners = a.owners; backing = none_made a.device.backing.calls }

abbrev pub world_of : Parts → World
world_of a = record { snapshot = a.core.snapshot; space = a.space.journal; device = a.device.journal }

abbrev pub state_of : Parts → MachineState
state_of a = record { setting = setting_of a; world = world_of a }

-- the parts behind an action, and what is heard of it
abbrev pub made_of : Parts → Heard → Made
made_of a heard = record { world = world_of a; heard = heard }

-- The world is consistent, the device is of the same machine, its backing's calls are those of its journal, and the blocks in
-- hand are those that the driver holds, rising, with room for each block.
pub record IsMachine (a : Parts) : Type 0 where
  pub set : IsSetting (setting_of a)
  pub consistent : IsConsistent (setting_of a) (world_of a)
  pub device : a.device.sizes ≡ a.space.sizes
  pub backing : a.device.backing.calls ≡ calls_now (setting_of a) (world_of a)
  pub held : (block : ℕ) → is_in block a.held.blocks ≡ is_held (setting_of a) (world_of a) block
  pub rising : IsRisingBelow a.space.sizes.managed a.held.blocks
  pub room : a.held.room ≡ a.space.sizes.managed
