-- What a device keeps.
use Rattle.std.specs.Prelude.{◌≡◌, ℕ, List, [], Option}
use Rattle.evac_model.specs.declared.device_journal.DeviceAction.{DeviceAction}
use Rattle.evac_model.specs.DeviceAnswer.{device_after, device_at_start}
use Rattle.mem_device.specs.Managed.{IsManaged, state_in}
use Rattle.mem_device.specs.declared.memory.Memory.{Memory}

-- the memory is managed, its state is what the journal leaves, and there are no listeners
pub record IsDevice {L B H : Type 0} (blocks : H → List ℕ) (room : H → ℕ) (backs : B → ℕ) (m : Memory B H) (listeners : List (Option L)) (journal : List DeviceAction) : Type 0 where
  pub managed : IsManaged blocks room backs m
  pub state : state_in m ≡ device_after m.map.sizes (device_at_start m.map.sizes) journal
  pub alone : listeners ≡ []
