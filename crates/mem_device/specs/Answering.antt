-- How a device answers a request: the response, the backing, and which blocks change hands.
use Rattle.std.specs.Prelude.{◌≡◌, ◌↔◌, ℕ, Bool, true, false, ◌⊎◌, List, [], Option, Some}
use Rattle.std.specs.List.{range_with_len}
use Rattle.std.specs.Option.{option_map}
use Rattle.evac_model.specs.declared.device.Request.{Request}
use Rattle.evac_model.specs.declared.device.Request.TheVariants.{Plug, Unplug, UnplugAll}
use Rattle.evac_model.specs.declared.device.Response.{Response}
use Rattle.evac_model.specs.declared.device.Response.TheVariants.{Ack, Nack, Busy, Error}
use Rattle.evac_model.specs.Geometry.{Sizes}
use Rattle.evac_model.specs.DeviceAnswer.{DeviceState, block_at, asks_backing, device_answer}
use Rattle.evac_model.specs.Counts.{Calls, after_call, IsListed, Rose, WhereTold}
use Rattle.evac_model.specs.HostCommands.{BlockRange}
use Rattle.dma_listeners.specs.Backings.{asked_more}

-- The response is the device's answer, where `refused` says that the backing failed: only where it was asked and its
-- count of faults rose, and where its calls are told, exactly where the call is a listed one.
pub record IsAnswer (s : Sizes) (d : DeviceState) (request : Option Request) (before after : ℕ) (told : Option Calls) (response : Response) : Type 0 where
  pub refused : Bool
  pub answer : response ≡ device_answer s d refused request
  pub asked : refused ≡ true → asks_backing s d request ≡ true
  pub cause : refused ≡ true → Rose before after
  pub exact : asks_backing s d request ≡ true → WhereTold told (λ calls. (refused ≡ true) ↔ IsListed calls)

-- what makes a device busy: a migration, or that the backing was asked and its count of faults rose
abbrev pub IsBusyCause : Sizes → DeviceState → Option Request → (before after : ℕ) → Type 0
IsBusyCause s d request before after = (d.migrating ≡ true) ⊎ ((asks_backing s d request ≡ true) × Rose before after)

-- the backing was asked once, to give back exactly these blocks
pub record IsAskedOnce {B : Type 0} (told : B → Option Calls) (asked : B → Option (List BlockRange)) (blocks : BlockRange) (before after : B) : Type 0 where
  pub calls : told after ≡ option_map after_call (told before)
  pub ranges : asked after ≡ asked_more blocks.first blocks.count (asked before)

-- it was asked so, or is as it was
abbrev pub IsAsked : {B : Type 0} → (told : B → Option Calls) → (asked : B → Option (List BlockRange)) → BlockRange → Bool → (before after : B) → Type 0
IsAsked told asked blocks true before after = IsAskedOnce told asked blocks before after
IsAsked told asked blocks false before after = after ≡ before

-- what comes back: the blocks plugged, none where blocks were unplugged, and else what came
abbrev pub IsBack : {H : Type 0} → (blocks : H → List ℕ) → Sizes → Option Request → Response → (held back : H) → Type 0
IsBack blocks s (Some (Plug addr count)) (Ack state) held back = blocks back ≡ range_with_len (block_at s addr) count
IsBack blocks s (Some (Unplug addr count)) (Ack state) held back = blocks back ≡ []
IsBack blocks s (Some UnplugAll) (Ack state) held back = blocks back ≡ []
IsBack blocks s request response held back = back ≡ held

-- the response acknowledges nothing
abbrev pub IsRefusal : Response → Type 0
IsRefusal (Ack state) = ⊥
IsRefusal Nack = Unit {0}
IsRefusal Busy = Unit {0}
IsRefusal Error = Unit {0}
