-- What a host does with what it hears of its action, and the line that it gives where a command ends there.
use Rattle.std.specs.Prelude.{ℕ, suc, ◌+◌, ◌-◌, Bool, ◌==◌, ◌||◌, nat_lt, if◌then◌else◌, List, [], ◌∷◌, ◌++◌, drop, Option, None, Some}
use Rattle.evac_model.specs.declared.device.Response.{Response}
use Rattle.evac_model.specs.declared.device.Response.TheVariants as responses
use Rattle.evac_model.specs.declared.evacuation.MoveLease.{MoveLease}
use Rattle.evac_model.specs.declared.host.HostCommand.{HostCommand}
use Rattle.evac_model.specs.declared.host.HostCommand.TheVariants as commands
use Rattle.evac_model.specs.declared.host.HostLine.{HostLine}
use Rattle.evac_model.specs.declared.host.HostResult.{HostResult}
use Rattle.evac_model.specs.declared.host.HostResult.TheVariants as results
use Rattle.evac_model.specs.declared.names.FrameNo.{FrameNo}
use Rattle.evac_model.specs.DeviceAnswer.{request_in}
use Rattle.evac_model.specs.Geometry.{first_frame}
use Rattle.evac_model.specs.HostCommands.{blocks_of, plugged_by}
use Rattle.evac_words.specs.Word.{taken_bit}
use Rattle.evacuate.specs.declared.action.EvacAction.{EvacAction}
use Rattle.evacuate.specs.declared.action.EvacAction.TheVariants as evac
use Rattle.evacuate.specs.declared.seen.EvacSeen.{EvacSeen}
use Rattle.evacuate.specs.declared.seen.EvacSeen.TheVariants as seen
use Rattle.evacuate.specs.declared.stage.Stage.{Stage}
use Rattle.evacuate.specs.declared.stage.Stage.TheVariants as stages
use Rattle.evacuate.specs.Evacuating.{Evacuating, evacuation_after, action_of}
use Rattle.evacuate.specs.Found.{is_busy, is_pinned}
use Rattle.host_work.specs.Requests.{emptied_lines, failed_line}
use Rattle.machine.specs.declared.action.BlockHeard.{BlockHeard}
use Rattle.machine.specs.declared.action.BlockHeard.TheVariants as blocks
use Rattle.machine.specs.declared.action.DeviceHeard.TheVariants as device
use Rattle.machine.specs.declared.action.Heard.{Heard}
use Rattle.machine.specs.declared.action.Heard.TheVariants.{Start, Word, Nothing, Leased, NoFrame, Block, Device}
use Rattle.core_actors.specs.declared.host_place.HostPlace.{HostPlace}
use Rattle.core_actors.specs.declared.host_place.HostPlace.TheVariants as places
use Rattle.core_actors.specs.declared.host_place.MovePlace.{MovePlace}
use Rattle.core_actors.specs.declared.host_place.MovePlace.TheVariants.{Taking, Beginning, Loading, Storing, Marking, Remapping, Releasing}
use Rattle.core_actors.specs.Hosts.{HostState, away, command_begun, next_block}
use Rattle.core_actors.specs.Places.{word_in}

-- a host behind what it heard, and the line of the command that ended there, if one did
pub record HostHeard : Type 0 where
  pub state : HostState
  pub line : Option HostLine

-- no command ended
abbrev pub goes_on : HostState → HostHeard
goes_on h = record { state = h; line = None }

-- ---- the end of a command

-- the line of the command under way, with this result
abbrev pub line_of : HostState → HostResult → HostLine
line_of h result = record { no = h.number; result = result; tried = h.tried }

-- the command under way has ended, and the next one begins
abbrev pub command_ended : (plugged : List ℕ) → HostState → HostResult → HostHeard
command_ended plugged h result =
    record { state = command_begun plugged (record h { left = drop 1 h.left; number = suc h.number }); line = Some (line_of h result) }

abbrev pub ends_without : List ℕ → (plugged : List ℕ) → HostState → HostResult → HostHeard
ends_without [] plugged h result = command_ended plugged h result
ends_without (b ∷ blocks) plugged h result = goes_on (record h { place = places.PuttingOnline result })

-- the command under way has this result: once the blocks that the driver holds are put online, it ends
abbrev pub with_result : (plugged : List ℕ) → HostState → HostResult → HostHeard
with_result plugged h result = ends_without (away h) plugged h result

-- ---- what the device gave

-- what the device gave; an error, where it wasn't asked
abbrev pub result_in : Heard → HostResult
result_in Start = results.Answered responses.Error
result_in (Word word) = results.Answered responses.Error
result_in Nothing = results.Answered responses.Error
result_in (Leased frame) = results.Answered responses.Error
result_in (NoFrame at) = results.Answered responses.Error
result_in (Block said) = results.Answered responses.Error
result_in (Device (device.Answered response)) = results.Answered response
result_in (Device (device.Config config)) = results.Config config

-- An acknowledged PLUG gave blocks to the driver, and an acknowledged UNPLUG took all of them. Any other answer leaves it
-- those that it has.
abbrev pub held_behind : HostState → List ℕ → Response → HostState
held_behind h plugged (responses.Ack state) = record h { blocks = plugged; waiting = 0 }
held_behind h plugged responses.Nack = h
held_behind h plugged responses.Busy = h
held_behind h plugged responses.Error = h

abbrev pub answered : HostState → HostCommand → HostResult → HostState
answered h (commands.Request bytes) (results.Answered response) =
    held_behind h (blocks_of (plugged_by h.sizes (request_in bytes) response)) response
answered h (commands.Request bytes) results.Unsent = h
answered h (commands.Request bytes) (results.Config config) = h
answered h commands.Config result = h

-- ---- what the evacuation is told

-- an isolation was made, a frame given back, an isolation undone
abbrev pub done : EvacAction → EvacSeen
done (evac.Isolate block) = seen.Isolated
done (evac.Lease block after) = seen.Start
done (evac.Move lease) = seen.Start
done (evac.GiveBack frame) = seen.Done
done (evac.Undo block) = seen.Done
done evac.Emptied = seen.Start
done (evac.Failed cause) = seen.Start

abbrev pub said_of : BlockHeard → EvacSeen
said_of (blocks.Refused frame page) = seen.Refused frame page
said_of (blocks.Leased lease) = seen.Leased lease
said_of blocks.NoneLeft = seen.NoneLeft
said_of (blocks.NoTarget from page at) = seen.NoTarget from page at

-- what was heard of an action that an evacuation asked for; what is no answer to it is read as `Start`, which changes nothing
abbrev pub seen_in : EvacAction → Heard → EvacSeen
seen_in asked Start = seen.Start
seen_in asked (Word word) = seen.Start
seen_in asked Nothing = done asked
seen_in asked (Leased frame) = seen.Start
seen_in asked (NoFrame at) = seen.Start
seen_in asked (Block said) = said_of said
seen_in asked (Device given) = seen.Start

-- the host by where its evacuation stands: once the block is empty, it is taken away; where it can't be emptied, the request
-- isn't sent
abbrev pub goes_on_at : Stage → (plugged : List ℕ) → HostState → HostHeard
goes_on_at stages.Isolating plugged h = goes_on (record h { place = places.Evacuating })
goes_on_at (stages.Leasing after) plugged h = goes_on (record h { place = places.Evacuating })
goes_on_at (stages.Moving lease) plugged h = goes_on (record h { place = places.Moving lease Taking })
goes_on_at (stages.Returning attempt) plugged h = goes_on (record h { place = places.Evacuating })
goes_on_at (stages.Undoing cause) plugged h = goes_on (record h { place = places.Evacuating })
goes_on_at stages.Emptied plugged h = goes_on (record h { place = places.TakingAway })
goes_on_at (stages.Failed cause) plugged h =
    with_result plugged (record h { tried = h.tried ++ failed_line h.evacuation.block.0 cause ∷ [] }) results.Unsent

abbrev pub with_evacuation : (plugged : List ℕ) → HostState → Evacuating → HostHeard
with_evacuation plugged h after = goes_on_at after.stage plugged (record h { evacuation = after })

-- the evacuation is told what its action gave
abbrev pub told : (plugged : List ℕ) → HostState → EvacSeen → HostHeard
told plugged h what = with_evacuation plugged h (evacuation_after h.evacuation what)

-- ---- what a step of a move gave

abbrev pub moves_on : HostState → MoveLease → MovePlace → HostHeard
moves_on h lease at = goes_on (record h { place = places.Moving lease at })

-- whether the page stays, by the word that was found free: it doesn't lie in the frame, or is pinned
abbrev pub stays : (word frame : ℕ) → Bool
stays word frame = is_busy word frame || is_pinned word frame

-- the page was taken, and this word found
abbrev pub found : (plugged : List ℕ) → HostState → MoveLease → (word : ℕ) → HostHeard
found plugged h lease word =
    if taken_bit word == 1 then told plugged h (seen.Found word)
    else moves_on h lease (if stays word lease.from.0 then Releasing (Some word) else Beginning)

-- what came of the page that was let go
abbrev pub came_of : Option ℕ → EvacSeen
came_of None = seen.Moved
came_of (Some word) = seen.Found word

-- behind the copy of a cell, the next one follows, and behind the last one the mark
abbrev pub cell_on : (cells cell : ℕ) → MovePlace
cell_on cells cell = if nat_lt (cell + 1) cells then Loading (cell + 1) else Marking

abbrev pub moved : (plugged : List ℕ) → HostState → MoveLease → MovePlace → Heard → HostHeard
moved plugged h lease Taking heard = found plugged h lease (word_in heard)
moved plugged h lease Beginning heard = moves_on h lease (Loading 0)
moved plugged h lease (Loading cell) heard = moves_on h lease (Storing cell (word_in heard))
moved plugged h lease (Storing cell value) heard = moves_on h lease (cell_on h.sizes.cells cell)
moved plugged h lease Marking heard = moves_on h lease Remapping
moved plugged h lease Remapping heard = moves_on h lease (Releasing None)
moved plugged h lease (Releasing word) heard = told plugged h (came_of word)

-- ---- zeros

-- the emptied block was taken away: the cells of its frames are zeroed
abbrev pub taken_on : HostState → HostState
taken_on h = record h { waiting = h.waiting - 1; place = places.Zeroing (record { 0 = first_frame h.sizes h.evacuation.block.0 }) 0 }

-- behind a zero of a frame, the next cell follows, and behind the last one the mark
abbrev pub zeroed_on : HostState → FrameNo → (cell : ℕ) → HostPlace
zeroed_on h frame cell = if nat_lt (cell + 1) h.sizes.cells then places.Zeroing frame (cell + 1) else places.MarkingZeros frame

-- behind the mark of a frame, the next frame of the block follows, and behind the last one the next block
abbrev pub marked_on : HostState → FrameNo → HostState
marked_on h frame =
    if nat_lt (frame.0 + 1) (first_frame h.sizes h.evacuation.block.0 + h.sizes.block)
    then record h { place = places.Zeroing (record { 0 = frame.0 + 1 }) 0 }
    else next_block (record h { tried = h.tried ++ emptied_lines (h.evacuation.block.0 ∷ []) })

-- ---- any action

abbrev pub heard_at : (plugged : List ℕ) → HostCommand → HostState → HostPlace → Heard → HostHeard
heard_at plugged c h places.Asking heard = with_result plugged (answered h c (result_in heard)) (result_in heard)
heard_at plugged c h places.Evacuating heard = told plugged h (seen_in (action_of h.evacuation) heard)
heard_at plugged c h (places.Moving lease at) heard = moved plugged h lease at heard
heard_at plugged c h places.TakingAway heard = goes_on (taken_on h)
heard_at plugged c h (places.Zeroing frame cell) heard = goes_on (record h { place = zeroed_on h frame cell })
heard_at plugged c h (places.MarkingZeros frame) heard = goes_on (marked_on h frame)
heard_at plugged c h (places.PuttingOnline result) heard = with_result plugged (record h { waiting = h.waiting + 1 }) result

abbrev pub heard_for : (plugged : List ℕ) → List HostCommand → HostState → Heard → HostHeard
heard_for plugged [] h heard = goes_on h
heard_for plugged (c ∷ cs) h heard = heard_at plugged c h h.place heard

-- the host after its next action, of which it heard this, where these blocks are plugged behind it; one that has ended
-- stays so
abbrev pub host_heard : (plugged : List ℕ) → HostState → Heard → HostHeard
host_heard plugged h heard = heard_for plugged h.left h heard

abbrev pub host_after : (plugged : List ℕ) → HostState → Heard → HostState
host_after plugged h heard = (host_heard plugged h heard).state

abbrev pub line_after : (plugged : List ℕ) → HostState → Heard → Option HostLine
line_after plugged h heard = (host_heard plugged h heard).line

-- the host once it is told what it heard last, which is `Start` before its first action
abbrev pub host_told : (plugged : List ℕ) → HostState → Heard → HostState
host_told plugged h Start = h
host_told plugged h heard = host_after plugged h heard
