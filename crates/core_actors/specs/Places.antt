-- The places of a call: the action that an owner makes at each, and where it stands after it.
use Rattle.std.specs.Prelude.{Bool, true, false, ℕ, ◌+◌, ◌==◌, if◌then◌else◌, nat_lt, List, [], ◌∷◌, ◌++◌, length, slice_index_or, Option, None, Some}
use Rattle.evac_model.specs.declared.names.FrameNo.{FrameNo}
use Rattle.evac_model.specs.declared.names.Kind.{Kind}
use Rattle.evac_model.specs.declared.names.PageNo.{PageNo}
use Rattle.evac_model.specs.declared.call.Call.{Call}
use Rattle.evac_model.specs.declared.call.Call.TheVariants.{Alloc, Free, Read, Write, Add, Pin, Unpin}
use Rattle.evac_words.specs.Word.{taken_bit, mapped_bit, frame_of}
use Rattle.core_state.specs.declared.step.MoveStep.TheVariants as moves
use Rattle.core_state.specs.declared.step.Step.TheVariants as steps
use Rattle.machine.specs.declared.action.Action.{Action}
use Rattle.machine.specs.declared.action.Action.TheVariants as actions
use Rattle.machine.specs.declared.action.Heard.{Heard}
use Rattle.machine.specs.declared.action.Heard.TheVariants as heards
use Rattle.machine.specs.declared.action.SpaceCall.TheVariants.{Lease}
use Rattle.core_actors.specs.declared.action.LeaseSeen.{LeaseSeen}
use Rattle.core_actors.specs.declared.action.LeaseSeen.TheVariants.{NotAsked, Got, Refused}
use Rattle.core_actors.specs.declared.place.Place.{Place}
use Rattle.core_actors.specs.declared.place.Place.TheVariants.{Between, InCall}
use Rattle.core_actors.specs.declared.place.CallPlace.{CallPlace}
use Rattle.core_actors.specs.declared.place.CallPlace.TheVariants.{Zero, MarkZeros, Take, Draw, Load, Store, Mark, Map, Unmap, Release}
use Rattle.core_actors.specs.CallSteps.{first_cell, load_count, values_of, is_freed, reply_of, frame_back}

-- the frame that a word names
abbrev pub frame_in : ℕ → FrameNo
frame_in word = record { 0 = frame_of word }

-- ---- the action at each place

-- a call begins with its take, and an alloc with its lease
abbrev pub first_action : PageNo × Call → Action
first_action (page, Alloc kind) = actions.Space (Lease page kind)
first_action (page, call) = actions.Step (steps.Take page)

abbrev pub action_at : PageNo × Call → CallPlace → Action
action_at c (Zero frame cell) = actions.Step (steps.Store frame cell 0)
action_at c (MarkZeros frame) = actions.Step (steps.Mark frame)
action_at c (Take lease) = actions.Step (steps.Take c.0)
action_at c (Draw lease found) = actions.Step steps.Draw
action_at c (Load found loads) = actions.Step (steps.Load (first_cell c.1 + length loads))
action_at c (Store found loads i) = actions.Step (steps.Store (frame_in found) (first_cell c.1 + i) (slice_index_or (values_of loads c.1) i 0))
action_at c (Mark found loads) = actions.Step (steps.Mark (frame_in found))
action_at c (Map frame kind found) = actions.Move (moves.Map frame kind)
action_at c (Unmap found) = actions.Move moves.Unmap
action_at c (Release lease found loads) = actions.Step (steps.Release (Some (record { call = c.1; reply = reply_of lease found loads c.1 })))

-- ---- the place behind it

-- the word that was found; 0 where none was
abbrev pub word_in : Heard → ℕ
word_in heards.Start = 0
word_in (heards.Word word) = word
word_in heards.Nothing = 0
word_in (heards.Leased frame) = 0
word_in (heards.NoFrame at) = 0
word_in (heards.Block heard) = 0
word_in (heards.Device heard) = 0

-- what a lease gave; what isn't of a lease is read as one that was refused
abbrev pub lease_in : Heard → LeaseSeen
lease_in heards.Start = Refused 0
lease_in (heards.Word word) = Refused 0
lease_in heards.Nothing = Refused 0
lease_in (heards.Leased frame) = Got frame
lease_in (heards.NoFrame at) = Refused at
lease_in (heards.Block heard) = Refused 0
lease_in (heards.Device heard) = Refused 0

-- from that cell of a leased frame on
abbrev pub zero_from : (cells : ℕ) → FrameNo → ℕ → CallPlace
zero_from cells frame cell = if nat_lt cell cells then Zero frame cell else MarkZeros frame

-- behind a lease
abbrev pub behind_lease : (cells : ℕ) → LeaseSeen → CallPlace
behind_lease cells NotAsked = Take NotAsked
behind_lease cells (Got frame) = zero_from cells frame 0
behind_lease cells (Refused at) = Take (Refused at)

-- behind a take that found the word; one that found its page taken is made again
abbrev pub behind_take : Place → LeaseSeen → ℕ → Place
behind_take here lease word = if taken_bit word == 0 then InCall (Draw lease word) else here

-- from that value on
abbrev pub store_from : Call → (found : ℕ) → List ℕ → ℕ → CallPlace
store_from call found loads i = if nat_lt i (length (values_of loads call)) then Store found loads i else Mark found loads

-- behind the loads: a call that stores nothing marks nothing
abbrev pub behind_loads : Call → (found : ℕ) → List ℕ → CallPlace
behind_loads call found loads = if length (values_of loads call) == 0 then Release NotAsked found loads else Store found loads 0

-- where these values were loaded
abbrev pub load_from : Call → (found : ℕ) → List ℕ → CallPlace
load_from call found loads = if nat_lt (length loads) (load_count call) then Load found loads else behind_loads call found loads

-- the cells of a page that is mapped
abbrev pub cells_behind : Call → (found : ℕ) → CallPlace
cells_behind call found = if mapped_bit found == 1 then load_from call found [] else Release NotAsked found []

-- an alloc maps an unmapped page to the frame that it leased
abbrev pub map_behind : Kind → LeaseSeen → (found : ℕ) → CallPlace
map_behind kind NotAsked found = Release NotAsked found []
map_behind kind (Got frame) found = if mapped_bit found == 1 then Release (Got frame) found [] else Map frame kind found
map_behind kind (Refused at) found = Release (Refused at) found []

-- behind the draw
abbrev pub behind_draw : Call → LeaseSeen → (found : ℕ) → CallPlace
behind_draw (Alloc kind) lease found = map_behind kind lease found
behind_draw Free lease found = if is_freed found then Unmap found else Release NotAsked found []
behind_draw (Read first count) lease found = cells_behind (Read first count) found
behind_draw (Write first values) lease found = cells_behind (Write first values) found
behind_draw (Add cell value) lease found = cells_behind (Add cell value) found
behind_draw Pin lease found = Release NotAsked found []
behind_draw Unpin lease found = Release NotAsked found []

-- behind the first action of a call, of which this was heard
abbrev pub behind_first : (cells : ℕ) → Call → Heard → Place
behind_first cells (Alloc kind) heard = InCall (behind_lease cells (lease_in heard))
behind_first cells call heard = behind_take (Between None) NotAsked (word_in heard)

-- behind the action at a place, of which this was heard; behind the release there may be a frame to give back
abbrev pub place_behind : (cells : ℕ) → Call → CallPlace → Heard → Place
place_behind cells call (Zero frame cell) heard = InCall (zero_from cells frame (cell + 1))
place_behind cells call (MarkZeros frame) heard = InCall (Take (Got frame))
place_behind cells call (Take lease) heard = behind_take (InCall (Take lease)) lease (word_in heard)
place_behind cells call (Draw lease found) heard = InCall (behind_draw call lease found)
place_behind cells call (Load found loads) heard = InCall (load_from call found (loads ++ word_in heard ∷ []))
place_behind cells call (Store found loads i) heard = InCall (store_from call found loads (i + 1))
place_behind cells call (Mark found loads) heard = InCall (Release NotAsked found loads)
place_behind cells call (Map frame kind found) heard = InCall (Release (Got frame) found [])
place_behind cells call (Unmap found) heard = InCall (Release NotAsked found [])
place_behind cells call (Release lease found loads) heard = Between (frame_back call lease found)

-- the calls that aren't ended then, where these come behind this one
abbrev pub calls_behind : PageNo × Call → List (PageNo × Call) → CallPlace → List (PageNo × Call)
calls_behind c cs (Release lease found loads) = cs
calls_behind c cs at = c ∷ cs

-- the release ends a call
abbrev pub ends_call : Place → Bool
ends_call (Between back) = false
ends_call (InCall (Release lease found loads)) = true
ends_call (InCall at) = false

-- ---- what the owner has to do with the frame space

-- what the lease of the call gave, as far as it was made
abbrev pub lease_at : CallPlace → LeaseSeen
lease_at (Zero frame cell) = Got frame
lease_at (MarkZeros frame) = Got frame
lease_at (Take lease) = lease
lease_at (Draw lease found) = lease
lease_at (Load found loads) = NotAsked
lease_at (Store found loads i) = NotAsked
lease_at (Mark found loads) = NotAsked
lease_at (Map frame kind found) = Got frame
lease_at (Unmap found) = NotAsked
lease_at (Release lease found loads) = lease

abbrev pub lease_seen : Place → LeaseSeen
lease_seen (Between back) = NotAsked
lease_seen (InCall at) = lease_at at

-- the frame to be given back before the next call
abbrev pub frame_owed : Place → Option FrameNo
frame_owed (Between back) = back
frame_owed (InCall at) = None
