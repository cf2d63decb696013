-- How a host stands between its actions, and which comes next.
use Rattle.std.specs.Prelude.{ℕ, zero, suc, Bool, true, false, List, [], ◌∷◌, drop, length, slice_index_or, None}
use Rattle.evac_model.specs.declared.evacuation.MoveLease.{MoveLease}
use Rattle.evac_model.specs.declared.host.HostCommand.{HostCommand}
use Rattle.evac_model.specs.declared.host.HostCommand.TheVariants as commands
use Rattle.evac_model.specs.declared.tried.Tried.{Tried}
use Rattle.evac_model.specs.DeviceAnswer.{request_in, named_blocks}
use Rattle.evac_model.specs.Geometry.{Sizes}
use Rattle.core_state.specs.declared.step.Step.TheVariants as steps
use Rattle.core_state.specs.declared.step.MoveStep.TheVariants as moves
use Rattle.evacuate.specs.declared.action.EvacAction.{EvacAction}
use Rattle.evacuate.specs.declared.action.EvacAction.TheVariants as evac
use Rattle.evacuate.specs.Evacuating.{Evacuating, evacuation_at_start, action_of}
use Rattle.host_work.specs.Requests.{block_no}
use Rattle.machine.specs.declared.action.Action.{Action}
use Rattle.machine.specs.declared.action.Action.TheVariants as actions
use Rattle.machine.specs.declared.action.BlockCall.TheVariants.{Isolate, Target, Undo, Offline, Online}
use Rattle.machine.specs.declared.action.DeviceCall.{DeviceCall}
use Rattle.machine.specs.declared.action.DeviceCall.TheVariants as calls
use Rattle.machine.specs.declared.action.SpaceCall.TheVariants.{Return}
use Rattle.core_actors.specs.declared.host_place.HostPlace.{HostPlace}
use Rattle.core_actors.specs.declared.host_place.HostPlace.TheVariants as places
use Rattle.core_actors.specs.declared.host_place.MovePlace.{MovePlace}
use Rattle.core_actors.specs.declared.host_place.MovePlace.TheVariants.{Taking, Beginning, Loading, Storing, Marking, Remapping, Releasing}

-- The machine's sizes, the commands that haven't ended, in order, and the number of the first of them, which is under
-- way: where it stands, the evacuation of the block that is being emptied or was emptied last, the blocks of the command,
-- rising, how many of them, the lowest, are still to be emptied and taken away, and what came of the blocks tried so far.
-- The other blocks are to be put online, but where an UNPLUG of them is acknowledged.
pub record HostState : Type 0 where
  pub sizes : Sizes
  pub left : List HostCommand
  pub number : ℕ
  pub place : HostPlace
  pub evacuation : Evacuating
  pub blocks : List ℕ
  pub waiting : ℕ
  pub tried : List Tried

-- the blocks that were taken away or plugged, which the driver holds, rising
abbrev pub away : HostState → List ℕ
away h = drop h.waiting h.blocks

-- ---- the start of a command

-- the blocks that a command empties before it asks the device, rising
abbrev pub command_blocks : Sizes → (plugged : List ℕ) → List HostCommand → List ℕ
command_blocks s plugged [] = []
command_blocks s plugged (commands.Request bytes ∷ cs) = named_blocks s plugged (request_in bytes)
command_blocks s plugged (commands.Config ∷ cs) = []

-- the highest block that isn't taken away is emptied next; without one the device is asked
abbrev pub with_next_block : (waiting : ℕ) → HostState → HostState
with_next_block zero h = record h { place = places.Asking }
with_next_block (suc n) h =
    record h { place = places.Evacuating; evacuation = evacuation_at_start h.sizes (block_no (slice_index_or h.blocks n 0)) }

abbrev pub next_block : HostState → HostState
next_block h = with_next_block h.waiting h

-- a host before the first of its commands, with these blocks
abbrev pub with_blocks : HostState → List ℕ → HostState
with_blocks h blocks = next_block (record h { blocks = blocks; waiting = length blocks; tried = [] })

-- a host before the first of its commands, where these blocks are plugged
abbrev pub command_begun : (plugged : List ℕ) → HostState → HostState
command_begun plugged h = with_blocks h (command_blocks h.sizes plugged h.left)

-- a host that has made no action, where these blocks are plugged
abbrev pub host_at_start : Sizes → (plugged : List ℕ) → List HostCommand → HostState
host_at_start s plugged commands = command_begun plugged (record {
  sizes = s;
  left = commands;
  number = 0;
  place = places.Asking;
  evacuation = evacuation_at_start s (block_no 0);
  blocks = [];
  waiting = 0;
  tried = [];
})

abbrev pub has_none : List HostCommand → Bool
has_none [] = true
has_none (c ∷ cs) = false

-- no command is left
abbrev pub host_ended : HostState → Bool
host_ended h = has_none h.left

-- ---- the next action

abbrev pub device_call : HostCommand → DeviceCall
device_call (commands.Request bytes) = calls.Request bytes
device_call commands.Config = calls.Config

-- what an evacuation asks for; a move is made step by step, and its ends ask for nothing
abbrev pub evac_action : EvacAction → Action
evac_action (evac.Isolate block) = actions.Block (Isolate block)
evac_action (evac.Lease block after) = actions.Block (Target block after)
evac_action (evac.Move lease) = actions.Ended
evac_action (evac.GiveBack frame) = actions.Space (Return frame)
evac_action (evac.Undo block) = actions.Block (Undo block)
evac_action evac.Emptied = actions.Ended
evac_action (evac.Failed cause) = actions.Ended

abbrev pub move_action : MoveLease → MovePlace → Action
move_action lease Taking = actions.Step (steps.Take lease.page)
move_action lease Beginning = actions.Move moves.Moving
move_action lease (Loading cell) = actions.Step (steps.Load cell)
move_action lease (Storing cell value) = actions.Step (steps.Store lease.target cell value)
move_action lease Marking = actions.Step (steps.Mark lease.target)
move_action lease Remapping = actions.Move (moves.Remap lease.target)
move_action lease (Releasing found) = actions.Step (steps.Release None)

-- the first of blocks; 0 where there is none
abbrev pub first_of : List ℕ → ℕ
first_of [] = 0
first_of (b ∷ blocks) = b

abbrev pub action_at : HostCommand → HostState → HostPlace → Action
action_at c h places.Asking = actions.Device (device_call c)
action_at c h places.Evacuating = evac_action (action_of h.evacuation)
action_at c h (places.Moving lease at) = move_action lease at
action_at c h places.TakingAway = actions.Block (Offline h.evacuation.block)
action_at c h (places.Zeroing frame cell) = actions.Step (steps.Store frame cell 0)
action_at c h (places.MarkingZeros frame) = actions.Step (steps.Mark frame)
action_at c h (places.PuttingOnline result) = actions.Block (Online (block_no (first_of (away h))))

abbrev pub action_for : List HostCommand → HostState → Action
action_for [] h = actions.Ended
action_for (c ∷ cs) h = action_at c h h.place

abbrev pub host_action : HostState → Action
host_action h = action_for h.left h
