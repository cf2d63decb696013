-- What commands that unplug nothing do to the memory device and to the frame space, and what they give, where no listener is
-- there to refuse: functions of the commands and of the device alone.
use Rattle.std.specs.Prelude.{◌≡◌, ℕ, suc, false, List, [], ◌∷◌, ◌++◌}
use Rattle.evac_model.specs.declared.device.Response.{Response}
use Rattle.evac_model.specs.declared.device_journal.DeviceAction.{DeviceAction}
use Rattle.evac_model.specs.declared.host.HostCommand.{HostCommand}
use Rattle.evac_model.specs.declared.host.HostCommand.TheVariants as commands
use Rattle.evac_model.specs.declared.host.HostLine.{HostLine}
use Rattle.evac_model.specs.declared.host.HostResult.{HostResult}
use Rattle.evac_model.specs.declared.host.HostResult.TheVariants as results
use Rattle.evac_model.specs.declared.space.SpaceAction.{SpaceAction}
use Rattle.evac_model.specs.DeviceAnswer.{DeviceState, request_in, device_answer, device_after, config_of}
use Rattle.evac_model.specs.Geometry.{Sizes}
use Rattle.evac_model.specs.HostCommands.{unplugs, request_action, BlockRange, no_blocks, blocks_of, plugged_by, put_online}

-- the command unplugs nothing
abbrev pub IsPlain : HostCommand → Type 0
IsPlain (commands.Request bytes) = unplugs (request_in bytes) ≡ false
IsPlain commands.Config = Unit {0}

-- what the device answers to the bytes of a request where nobody refuses
abbrev pub sure_answer : Sizes → DeviceState → List ℕ → Response
sure_answer s d bytes = device_answer s d false (request_in bytes)

abbrev pub onlines_of : BlockRange → List SpaceAction
onlines_of r = put_online (blocks_of r)

-- ---- one command

abbrev pub command_result : Sizes → DeviceState → HostCommand → HostResult
command_result s d (commands.Request bytes) = results.Answered (sure_answer s d bytes)
command_result s d commands.Config = results.Config (config_of s d)

-- the device's actions
abbrev pub command_actions : Sizes → DeviceState → HostCommand → List DeviceAction
command_actions s d (commands.Request bytes) = request_action bytes (sure_answer s d bytes) ∷ []
command_actions s d commands.Config = []

-- the blocks that are plugged, which the driver puts online
abbrev pub command_range : Sizes → DeviceState → HostCommand → BlockRange
command_range s d (commands.Request bytes) = plugged_by s (request_in bytes) (sure_answer s d bytes)
command_range s d commands.Config = no_blocks

-- the device behind the command
abbrev pub after_command : Sizes → DeviceState → HostCommand → DeviceState
after_command s d c = device_after s d (command_actions s d c)

-- ---- all commands, one after another

abbrev pub host_actions : Sizes → DeviceState → List HostCommand → List DeviceAction
host_actions s d [] = []
host_actions s d (c ∷ cs) = command_actions s d c ++ host_actions s (after_command s d c) cs

abbrev pub host_onlines : Sizes → DeviceState → List HostCommand → List SpaceAction
host_onlines s d [] = []
host_onlines s d (c ∷ cs) = onlines_of (command_range s d c) ++ host_onlines s (after_command s d c) cs

-- the line of each command, where the first has this number
abbrev pub host_lines : Sizes → DeviceState → (number : ℕ) → List HostCommand → List HostLine
host_lines s d number [] = []
host_lines s d number (c ∷ cs) = record { no = number; result = command_result s d c; tried = [] } ∷ host_lines s (after_command s d c) (suc number) cs
