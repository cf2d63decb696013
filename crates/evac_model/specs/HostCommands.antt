-- What a request of the host asks for, the blocks that it names or plugged, and what is reported of commands.
use Rattle.std.specs.Prelude.{ℕ, Bool, true, false, if◌then◌else◌, List, [], map, Option, None, Some}
use Rattle.std.specs.List.{range_with_len, zip}
use Rattle.evac_model.specs.declared.device.Request.{Request}
use Rattle.evac_model.specs.declared.device.Request.TheVariants.{Plug, Unplug, UnplugAll, State}
use Rattle.evac_model.specs.declared.device.Response.{Response}
use Rattle.evac_model.specs.declared.device.Response.TheVariants.{Ack}
use Rattle.evac_model.specs.declared.device_journal.DeviceAct.TheVariants as acts
use Rattle.evac_model.specs.declared.device_journal.DeviceAction.{DeviceAction}
use Rattle.evac_model.specs.declared.host.HostCommand.{HostCommand}
use Rattle.evac_model.specs.declared.host.HostLine.{HostLine}
use Rattle.evac_model.specs.declared.host.HostRun.{HostRun}
use Rattle.evac_model.specs.declared.space.SpaceAction.{SpaceAction}
use Rattle.evac_model.specs.declared.space.SpaceAction.TheVariants.{Online}
use Rattle.evac_model.specs.Geometry.{Sizes}
use Rattle.evac_model.specs.DeviceBlocks.{device_blocks}
use Rattle.evac_model.specs.DeviceAnswer.{block_at, is_good_range}

-- whether a request unplugs blocks
abbrev pub unplugs : Option Request → Bool
unplugs None = false
unplugs (Some (Plug addr count)) = false
unplugs (Some (Unplug addr count)) = true
unplugs (Some UnplugAll) = true
unplugs (Some (State addr count)) = false

-- a request was answered, and no listener was told
abbrev pub request_action : List ℕ → Response → DeviceAction
request_action bytes response = record { act = acts.Request bytes response; notices = [] }

-- blocks: so many from the first on
pub record BlockRange : Type 0 where
  pub first : ℕ
  pub count : ℕ

abbrev pub no_blocks : BlockRange
no_blocks = record { first = 0; count = 0 }

abbrev pub blocks_of : BlockRange → List ℕ
blocks_of r = range_with_len r.first r.count

-- the blocks of a range, where it is good
abbrev pub range_blocks : Sizes → (addr count : ℕ) → BlockRange
range_blocks s addr count = if is_good_range s addr count then record { first = block_at s addr; count = count } else no_blocks

-- the blocks that a request names: those of its range, where it is good, and of an UNPLUG_ALL all of the region
abbrev pub requested_blocks : Sizes → Option Request → BlockRange
requested_blocks s None = no_blocks
requested_blocks s (Some (Plug addr count)) = range_blocks s addr count
requested_blocks s (Some (Unplug addr count)) = range_blocks s addr count
requested_blocks s (Some UnplugAll) = record { first = 0; count = device_blocks s }
requested_blocks s (Some (State addr count)) = range_blocks s addr count

-- the blocks that a request plugged: those of the range, where a PLUG was acknowledged
abbrev pub plugged_by : Sizes → Option Request → Response → BlockRange
plugged_by s (Some (Plug addr count)) (Ack state) = range_blocks s addr count
plugged_by s request response = no_blocks

-- each of these blocks is put online
abbrev pub put_online : List ℕ → List SpaceAction
put_online blocks = map (λ b. Online (record { 0 = b })) blocks

-- what is reported of the commands: each with its line
abbrev pub host_runs : List HostCommand → List HostLine → List HostRun
host_runs commands lines = map (λ x. record { command = x.0; line = x.1 }) (zip commands lines)
