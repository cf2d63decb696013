-- What a run begins with, and what its actions change.
use Rattle.std.specs.Prelude.{ℕ, ◌+◌, ◌≤◌, ◌&&◌, Bool, List, IsSome}
use Rattle.evac_model.specs.declared.device_journal.DeviceAction.{DeviceAction}
use Rattle.evac_model.specs.declared.names.Kind.{Kind}
use Rattle.evac_model.specs.declared.space.SpaceAction.{SpaceAction}
use Rattle.evac_model.specs.Counts.{Calls}
use Rattle.evac_model.specs.DeviceAnswer.{DeviceState, device_after, device_at_start, unplugged_blocks}
use Rattle.evac_model.specs.DeviceJournal.{calls_after}
use Rattle.evac_model.specs.Geometry.{Sizes}
use Rattle.evac_model.specs.Numbers.{is_in}
use Rattle.evac_model.specs.SpaceJournal.{SpaceState, space_after}
use Rattle.core_state.specs.declared.opening.Opening.{Opening}
use Rattle.core_state.specs.declared.snapshot.Snapshot.{Snapshot}
use Rattle.core_state.specs.Views.{view_of, hand_frame}

-- What a run begins with: the words and the views, the sizes of the machine, the kind of pages that managed blocks are
-- online for, the frame space, how many owners there are, and the calls of the device's backing, before the first one.
pub record Setting : Type 0 where
  pub opening : Opening
  pub sizes : Sizes
  pub online : Kind
  pub space : SpaceState
  pub owners : ℕ
  pub backing : Calls

-- What actions change: the words and the views, the actions of the frame space, and those of the memory device.
pub record World : Type 0 where
  pub snapshot : Snapshot
  pub space : List SpaceAction
  pub device : List DeviceAction

-- what the run began with, and the world as it stands
pub record MachineState : Type 0 where
  pub setting : Setting
  pub world : World

-- ---- seats

-- The seats are the driver's, which is the first, the owners' at their numbers, the scanner's, that of who keeps the
-- free frames, and that of who keeps the unplugged ones.
abbrev pub scanner_seat : Setting → ℕ
scanner_seat c = c.owners + 1

abbrev pub free_seat : Setting → ℕ
free_seat c = c.owners + 2

abbrev pub unplugged_seat : Setting → ℕ
unplugged_seat c = c.owners + 3

abbrev pub IsOwnerSeat : Setting → (seat : ℕ) → Type 0
IsOwnerSeat c seat = (1 ≤ seat) × (seat ≤ c.owners)

-- the driver's seat, or an owner's
abbrev pub IsActorSeat : Setting → (seat : ℕ) → Type 0
IsActorSeat c seat = seat ≤ c.owners

-- the seat has the frame in hand
abbrev pub HasFrame : World → (seat frame : ℕ) → Type 0
HasFrame w seat frame = IsSome (hand_frame (view_of w.snapshot.views seat) frame)

-- ---- what the journals leave

-- the frame space behind a journal, and as it stands
abbrev pub space_at : Setting → List SpaceAction → SpaceState
space_at c journal = space_after c.sizes c.online c.space journal

abbrev pub space_now : Setting → World → SpaceState
space_now c w = space_at c w.space

-- the memory device behind a journal, and as it stands
abbrev pub device_at : Sizes → List DeviceAction → DeviceState
device_at s journal = device_after s (device_at_start s) journal

abbrev pub device_now : Setting → World → DeviceState
device_now c w = device_at c.sizes w.device

-- the calls of the device's backing behind a journal, and as they stand
abbrev pub calls_at : Setting → List DeviceAction → Calls
calls_at c journal = calls_after c.sizes (device_at_start c.sizes) c.backing journal

abbrev pub calls_now : Setting → World → Calls
calls_now c w = calls_at c w.device

-- the blocks that aren't plugged
abbrev pub unplugged_now : Setting → World → List ℕ
unplugged_now c w = unplugged_blocks c.sizes (device_now c w).plugged

-- whether the driver holds the block: it is plugged, and offline
abbrev pub is_held : Setting → World → (block : ℕ) → Bool
is_held c w block = is_in block (space_now c w).offline && is_in block (device_now c w).plugged
