-- What a memory device answers to a request, and what its actions leave (Virtio 1.2, 5.15.6; the order of
-- causes is the project's own).
use Rattle.std.specs.Prelude.{ℕ, ◌+◌, ◌-◌, ◌*◌, ◌/◌, ◌%◌, Bool, true, false, ◌==◌, ◌&&◌, ◌||◌, not, nat_le, nat_lt, if◌then◌else◌, List, [], ◌∷◌, length, take, drop, Option, None, Some}
use Rattle.std.specs.List.{range_with_len, list_all}
use Rattle.evac_model.specs.declared.device.Config.{Config}
use Rattle.evac_model.specs.declared.device.Request.{Request}
use Rattle.evac_model.specs.declared.device.Request.TheVariants as requests
use Rattle.evac_model.specs.declared.device.Response.{Response}
use Rattle.evac_model.specs.declared.device.Response.TheVariants.{Ack, Nack, Busy, Error}
use Rattle.evac_model.specs.declared.device_journal.DeviceAct.{DeviceAct}
use Rattle.evac_model.specs.declared.device_journal.DeviceAct.TheVariants as acts
use Rattle.evac_model.specs.declared.device_journal.DeviceAction.{DeviceAction}
use Rattle.evac_model.specs.Geometry.{Sizes}
use Rattle.evac_model.specs.DeviceBlocks.{device_blocks, plugged_at_start, device_block_bytes, device_address, region_bytes}
use Rattle.evac_model.specs.Numbers.{is_in, numbers_where, with_range, without_range}

-- the number that bytes make, the lowest first
abbrev pub le_number : List ℕ → ℕ
le_number [] = 0
le_number (byte ∷ bytes) = byte + 256 * le_number bytes

-- the request of a type
abbrev pub request_of_type : (type addr count : ℕ) → Option Request
request_of_type type addr count =
    if type == 0 then Some (requests.Plug addr count)
    else if type == 1 then Some (requests.Unplug addr count)
    else if type == 2 then Some requests.UnplugAll
    else if type == 3 then Some (requests.State addr count)
    else None

-- the request that bytes are: type (2 bytes), padding (6), address (8), number of blocks (2), padding (6)
abbrev pub request_in : List ℕ → Option Request
request_in bytes =
    if length bytes == 24
    then request_of_type (le_number (take 2 bytes)) (le_number (take 8 (drop 8 bytes))) (le_number (take 2 (drop 16 bytes)))
    else None

-- a device: its plugged blocks, rising, the bytes that the host asks for, and whether a migration is active
pub record DeviceState : Type 0 where
  pub plugged : List ℕ
  pub requested : ℕ
  pub migrating : Bool

-- the block that begins at an address
abbrev pub block_at : Sizes → (addr : ℕ) → ℕ
block_at s addr = (addr - device_address s 0) / device_block_bytes s

-- a range begins at a block, has one at least, and all its blocks are in the region
abbrev pub is_good_range : Sizes → (addr count : ℕ) → Bool
is_good_range s addr count =
    nat_le (device_address s 0) addr && (addr - device_address s 0) % device_block_bytes s == 0 && not (count == 0) && nat_le (block_at s addr + count) (device_blocks s)

-- whether each block of a range is plugged, or none is
abbrev pub are_plugged : List ℕ → (first n : ℕ) → Bool
are_plugged plugged first n = list_all (λ b. is_in b plugged) (range_with_len first n)

abbrev pub are_unplugged : List ℕ → (first n : ℕ) → Bool
are_unplugged plugged first n = list_all (λ b. not (is_in b plugged)) (range_with_len first n)

-- the plugged blocks that an UNPLUG of a good range that is all plugged, or an UNPLUG_ALL, names
abbrev pub named_blocks : Sizes → (plugged : List ℕ) → Option Request → List ℕ
named_blocks s plugged None = []
named_blocks s plugged (Some (requests.Plug addr count)) = []
named_blocks s plugged (Some (requests.Unplug addr count)) =
    if is_good_range s addr count && are_plugged plugged (block_at s addr) count then range_with_len (block_at s addr) count else []
named_blocks s plugged (Some requests.UnplugAll) = plugged
named_blocks s plugged (Some (requests.State addr count)) = []

-- whether the answer depends on the backing, which is asked once to discard all blocks that the request names
abbrev pub asks_backing : Sizes → DeviceState → Option Request → Bool
asks_backing s d None = false
asks_backing s d (Some (requests.Plug addr count)) = false
asks_backing s d (Some (requests.Unplug addr count)) = is_good_range s addr count && (are_plugged d.plugged (block_at s addr) count && not d.migrating)
asks_backing s d (Some requests.UnplugAll) = not (length d.plugged == 0) && not d.migrating
asks_backing s d (Some (requests.State addr count)) = false

-- the state of a range: plugged 0, unplugged 1, mixed 2
abbrev pub range_state : List ℕ → (first n : ℕ) → ℕ
range_state plugged first n = if are_plugged plugged first n then 0 else if are_unplugged plugged first n then 1 else 2

-- The causes in their order. `refused` says whether a listener refused a PLUG, or the backing failed to
-- discard, in this request; it counts only where it is asked for.
abbrev pub plug_answer : Sizes → DeviceState → (refused : Bool) → (addr count : ℕ) → Response
plug_answer s d refused addr count =
    if not (is_good_range s addr count) then Error
    else if nat_lt d.requested ((length d.plugged + count) * device_block_bytes s) then Nack
    else if not (are_unplugged d.plugged (block_at s addr) count) then Error
    else if d.migrating || refused then Busy
    else Ack 0

abbrev pub unplug_answer : Sizes → DeviceState → (refused : Bool) → (addr count : ℕ) → Response
unplug_answer s d refused addr count =
    if not (is_good_range s addr count) then Error
    else if not (are_plugged d.plugged (block_at s addr) count) then Error
    else if d.migrating || refused then Busy
    else Ack 0

abbrev pub unplug_all_answer : DeviceState → (refused : Bool) → Response
unplug_all_answer d refused =
    if length d.plugged == 0 then Ack 0
    else if d.migrating || refused then Busy
    else Ack 0

abbrev pub state_answer : Sizes → DeviceState → (addr count : ℕ) → Response
state_answer s d addr count =
    if not (is_good_range s addr count) then Error else Ack (range_state d.plugged (block_at s addr) count)

-- what a device answers; what isn't a request is answered Error
abbrev pub device_answer : Sizes → DeviceState → (refused : Bool) → Option Request → Response
device_answer s d refused None = Error
device_answer s d refused (Some (requests.Plug addr count)) = plug_answer s d refused addr count
device_answer s d refused (Some (requests.Unplug addr count)) = unplug_answer s d refused addr count
device_answer s d refused (Some requests.UnplugAll) = unplug_all_answer d refused
device_answer s d refused (Some (requests.State addr count)) = state_answer s d addr count

-- the plugged blocks behind an acknowledged request
abbrev pub plugged_after : Sizes → List ℕ → Option Request → List ℕ
plugged_after s plugged None = plugged
plugged_after s plugged (Some (requests.Plug addr count)) = with_range (block_at s addr) count plugged
plugged_after s plugged (Some (requests.Unplug addr count)) = without_range (block_at s addr) count plugged
plugged_after s plugged (Some requests.UnplugAll) = []
plugged_after s plugged (Some (requests.State addr count)) = plugged

abbrev pub after_answer : Sizes → DeviceState → Option Request → Response → DeviceState
after_answer s d request (Ack state) = record d { plugged = plugged_after s d.plugged request }
after_answer s d request Nack = d
after_answer s d request Busy = d
after_answer s d request Error = d

-- the device behind an action: its plugged blocks are what the acknowledged requests leave
abbrev pub after_act : Sizes → DeviceState → DeviceAct → DeviceState
after_act s d (acts.Requested size) = record d { requested = size }
after_act s d (acts.Request bytes response) = after_answer s d (request_in bytes) response
after_act s d (acts.Join key) = d
after_act s d acts.JoinRefused = d
after_act s d (acts.Leave key) = d
after_act s d acts.Begin = record d { migrating = true }
after_act s d acts.Cancel = record d { migrating = false }
after_act s d acts.Finish = record d { migrating = false }

-- the device behind a journal
abbrev pub device_after : Sizes → DeviceState → List DeviceAction → DeviceState
device_after s d [] = d
device_after s d (a ∷ actions) = device_after s (after_act s d a.act) actions

-- the blocks of the region that aren't plugged, rising
abbrev pub unplugged_blocks : Sizes → (plugged : List ℕ) → List ℕ
unplugged_blocks s plugged = numbers_where (λ b. not (is_in b plugged)) (device_blocks s)

-- what the configuration says: node 0, and all of the region is usable
abbrev pub config_of : Sizes → DeviceState → Config
config_of s d = record {
  block_size = device_block_bytes s;
  node_id = 0;
  addr = device_address s 0;
  region_size = region_bytes s;
  usable_region_size = region_bytes s;
  plugged_size = length d.plugged * device_block_bytes s;
  requested_size = d.requested;
}

-- the device at the start: the lowest blocks are plugged, and the host asks for as much
abbrev pub device_at_start : Sizes → DeviceState
device_at_start s =
    record { plugged = range_with_len 0 (plugged_at_start s); requested = plugged_at_start s * device_block_bytes s; migrating = false }
