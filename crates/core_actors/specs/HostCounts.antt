-- How many actions a host may still make.
use Rattle.std.specs.Prelude.{ℕ, ◌+◌, ◌-◌, ◌*◌, List, [], ◌∷◌, length, Option, None, Some}
use Rattle.evac_model.specs.declared.host.HostCommand.{HostCommand}
use Rattle.evac_model.specs.declared.names.BlockNo.{BlockNo}
use Rattle.evac_model.specs.declared.names.FrameNo.{FrameNo}
use Rattle.evac_model.specs.Geometry.{Sizes, first_frame}
use Rattle.evacuate.specs.declared.stage.Stage.{Stage}
use Rattle.evacuate.specs.declared.stage.Stage.TheVariants as stages
use Rattle.evacuate.specs.Evacuating.{Evacuating}
use Rattle.core_actors.specs.declared.host_place.HostPlace.{HostPlace}
use Rattle.core_actors.specs.declared.host_place.HostPlace.TheVariants as places
use Rattle.core_actors.specs.declared.host_place.MovePlace.{MovePlace}
use Rattle.core_actors.specs.declared.host_place.MovePlace.TheVariants.{Taking, Beginning, Loading, Storing, Marking, Remapping, Releasing}
use Rattle.core_actors.specs.Hosts.{HostState, away}

-- a page's lease, its move and what is given back
abbrev pub page_most : Sizes → ℕ
page_most s = 2 * s.cells + 7

-- a round over all frames of a block, and its end
abbrev pub round_most : Sizes → ℕ
round_most s = s.block * page_most s + 1

-- a block is taken away, and its cells are zeroed
abbrev pub zeros_most : Sizes → ℕ
zeros_most s = s.block * (s.cells + 1) + 1

-- a block is isolated, five rounds are made, the isolation is undone; or it is taken away
abbrev pub block_most : Sizes → ℕ
block_most s = 5 * round_most s + 2 + zeros_most s

-- each block is emptied, the device is asked, and each block put online
abbrev pub command_most : Sizes → ℕ
command_most s = s.managed * block_most s + s.managed + 1

-- the frames of a block behind one
abbrev pub frames_behind : Sizes → BlockNo → Option FrameNo → ℕ
frames_behind s b None = s.block
frames_behind s b (Some frame) = first_frame s b.0 + s.block - (frame.0 + 1)

-- the rest of the round, the rounds behind it, and the undo
abbrev pub rounds_left : Evacuating → Option FrameNo → ℕ
rounds_left e after = frames_behind e.sizes e.block after * page_most e.sizes + 1 + (4 - e.round) * round_most e.sizes + 1

abbrev pub move_left : Sizes → MovePlace → ℕ
move_left s Taking = 2 * s.cells + 5
move_left s Beginning = 2 * s.cells + 4
move_left s (Loading cell) = 2 * (s.cells - cell) + 3
move_left s (Storing cell value) = 2 * (s.cells - cell) + 2
move_left s Marking = 3
move_left s Remapping = 2
move_left s (Releasing found) = 1

-- what is left of an evacuation that waits for an action of its own
abbrev pub evacuation_left : Evacuating → Stage → ℕ
evacuation_left e stages.Isolating = 5 * round_most e.sizes + 2
evacuation_left e (stages.Leasing after) = rounds_left e after
evacuation_left e (stages.Moving lease) = 2 * e.sizes.cells + 6 + rounds_left e (Some lease.from)
evacuation_left e (stages.Returning attempt) = 1 + rounds_left e (Some attempt.lease.from)
evacuation_left e (stages.Undoing cause) = 1
evacuation_left e stages.Emptied = 0
evacuation_left e (stages.Failed cause) = 0

-- the zeros of the frames behind one
abbrev pub zeros_behind : HostState → FrameNo → ℕ
zeros_behind h frame = (first_frame h.sizes h.evacuation.block.0 + h.sizes.block - (frame.0 + 1)) * (h.sizes.cells + 1)

-- what is left behind the block that is being tried: the blocks that wait, and the end of the command
abbrev pub blocks_left : Sizes → (waiting : ℕ) → ℕ
blocks_left s waiting = waiting * block_most s + s.managed + 1

abbrev pub left_in : HostState → HostPlace → ℕ
left_in h places.Asking = h.sizes.managed + 1
left_in h places.Evacuating = evacuation_left h.evacuation h.evacuation.stage + zeros_most h.sizes + blocks_left h.sizes (h.waiting - 1)
left_in h (places.Moving lease at) = move_left h.sizes at + 1 + rounds_left h.evacuation (Some lease.from) + zeros_most h.sizes + blocks_left h.sizes (h.waiting - 1)
left_in h places.TakingAway = zeros_most h.sizes + blocks_left h.sizes (h.waiting - 1)
left_in h (places.Zeroing frame cell) = zeros_behind h frame + (h.sizes.cells - cell) + 1 + blocks_left h.sizes h.waiting
left_in h (places.MarkingZeros frame) = zeros_behind h frame + 1 + blocks_left h.sizes h.waiting
left_in h (places.PuttingOnline result) = length (away h)

abbrev pub left_for : HostState → List HostCommand → ℕ
left_for h [] = 0
left_for h (c ∷ cs) = left_in h h.place + length cs * command_most h.sizes

-- the most actions that the host may still make
abbrev pub host_actions_left : HostState → ℕ
host_actions_left h = left_for h h.left
