-- How the frame space and the memory device stand at each place of a command, and what the evacuation was told.
use Rattle.std.specs.Prelude.{◌≡◌, ◌⊎◌, ℕ, ◌-◌, ◌<◌, ◌≤◌, ◌==◌, ◌&&◌, ◌||◌, Bool, true, false, if◌then◌else◌, length, slice_get, Option, None, Some, ⊤}
use Rattle.std.specs.List.{AllByRecursion}
use Rattle.evac_model.specs.declared.evacuation.MoveLease.{MoveLease}
use Rattle.evac_model.specs.declared.host.HostCommand.{HostCommand}
use Rattle.evac_model.specs.declared.host.HostCommand.TheVariants as commands
use Rattle.evac_model.specs.declared.names.FrameNo.{FrameNo}
use Rattle.evac_model.specs.declared.names.Kind.TheVariants.{Movable}
use Rattle.evac_model.specs.Numbers.{is_in, AreDistinct}
use Rattle.evac_model.specs.SpaceJournal.{SpaceState, Out, out_for, is_frame_of, IsEmptied}
use Rattle.evac_words.specs.Word.{taken_bit}
use Rattle.evacuate.specs.declared.seen.EvacSeen.{EvacSeen}
use Rattle.evacuate.specs.declared.seen.EvacSeen.TheVariants as seen
use Rattle.evacuate.specs.declared.stage.Stage.{Stage}
use Rattle.evacuate.specs.declared.stage.Stage.TheVariants as stages
use Rattle.evacuate.specs.Evacuating.{Evacuating, evacuation_after, action_of}
use Rattle.evacuate.specs.Tale.{Tale, nothing_tried, last_frame, is_behind, WasBusy, WasBusyBefore}
use Rattle.evacuate.specs.UnderWay.{GoesBy, tale_after}
use Rattle.machine.specs.declared.action.Heard.{Heard}
use Rattle.machine.specs.World.{Setting, World, space_now, device_now, is_held}
use Rattle.core_actors.specs.declared.host_place.HostPlace.{HostPlace}
use Rattle.core_actors.specs.declared.host_place.HostPlace.TheVariants as places
use Rattle.core_actors.specs.declared.host_place.MovePlace.{MovePlace}
use Rattle.core_actors.specs.declared.host_place.MovePlace.TheVariants.{Taking, Beginning, Loading, Storing, Marking, Remapping, Releasing}
use Rattle.core_actors.specs.Hosts.{HostState, away, command_blocks}
use Rattle.core_actors.specs.HostHears.{seen_in, came_of, stays}
use Rattle.core_actors.specs.Places.{word_in}

-- ---- the block that is being emptied

-- whether the evacuation has isolated its block, at that stage
abbrev pub has_isolated : Stage → Bool
has_isolated stages.Isolating = false
has_isolated (stages.Leasing after) = true
has_isolated (stages.Moving lease) = true
has_isolated (stages.Returning attempt) = true
has_isolated (stages.Undoing cause) = true
has_isolated stages.Emptied = true
has_isolated (stages.Failed cause) = false

-- whether a block is being emptied, or about to be taken away
abbrev pub is_emptying : HostPlace → Bool
is_emptying places.Asking = false
is_emptying places.Evacuating = true
is_emptying (places.Moving lease at) = true
is_emptying places.TakingAway = true
is_emptying (places.Zeroing frame cell) = false
is_emptying (places.MarkingZeros frame) = false
is_emptying (places.PuttingOnline result) = false

-- whether the block is isolated by the command under way, and not taken away
abbrev pub is_isolated_by : HostState → (block : ℕ) → Bool
is_isolated_by h block = is_emptying h.place && (has_isolated h.evacuation.stage && block == h.evacuation.block.0)

-- ---- what the rounds found

-- the frame of the page that is being moved, or else the last one that was tried in the round
abbrev pub reached : Stage → Tale → Option FrameNo
reached stages.Isolating t = last_frame t.attempts
reached (stages.Leasing after) t = last_frame t.attempts
reached (stages.Moving lease) t = Some lease.from
reached (stages.Returning attempt) t = Some attempt.lease.from
reached (stages.Undoing cause) t = last_frame t.attempts
reached stages.Emptied t = last_frame t.attempts
reached (stages.Failed cause) t = last_frame t.attempts

-- the page in that frame is the one that is being moved, or that wasn't moved
abbrev pub IsTried : Stage → (frame page : ℕ) → Type 0
IsTried stages.Isolating frame page = ⊥
IsTried (stages.Leasing after) frame page = ⊥
IsTried (stages.Moving lease) frame page = (frame ≡ lease.from.0) × (page ≡ lease.page.0)
IsTried (stages.Returning attempt) frame page = (frame ≡ attempt.lease.from.0) × (page ≡ attempt.lease.page.0)
IsTried (stages.Undoing cause) frame page = ⊥
IsTried stages.Emptied frame page = ⊥
IsTried (stages.Failed cause) frame page = ⊥

-- A frame of the block that is out is out for a movable page. It was out for it in the round before, in which the page was found
-- busy; and where the round under way has come to it, the page is being tried, or was found busy.
pub record IsOutByTale (e : Evacuating) (t : Tale) (frame : ℕ) (x : Out) : Type 0 where
  pub movable : x.kind ≡ Movable
  pub before : WasBusyBefore t.rounds (record { 0 = frame }) (record { 0 = x.page })
  pub now : is_behind (reached e.stage t) frame ≡ false → IsTried e.stage frame x.page ⊎ WasBusy t.attempts (record { 0 = frame }) (record { 0 = x.page })

abbrev pub AreOutByTale : SpaceState → Evacuating → Tale → Type 0
AreOutByTale st e t =
    (frame : ℕ) (x : Out) → is_frame_of e.sizes e.block.0 frame ≡ true → out_for st frame ≡ Some x → IsOutByTale e t frame x

-- what the frame space has of the block, by where its evacuation stands
abbrev pub IsSpaceAt : SpaceState → Evacuating → Tale → Stage → Type 0
IsSpaceAt st e t stages.Isolating = ⊤
IsSpaceAt st e t (stages.Leasing after) = AreOutByTale st e t
IsSpaceAt st e t (stages.Moving lease) = AreOutByTale st e t
IsSpaceAt st e t (stages.Returning attempt) = AreOutByTale st e t
IsSpaceAt st e t (stages.Undoing cause) = ⊤
IsSpaceAt st e t stages.Emptied = IsEmptied e.sizes st e.block.0
IsSpaceAt st e t (stages.Failed cause) = ⊤

-- ---- the places of a command

-- the blocks are those of the command under way, by the blocks that are plugged
abbrev pub AreCommandBlocks : Setting → World → HostState → Type 0
AreCommandBlocks c w h = h.blocks ≡ command_blocks c.sizes (device_now c w).plugged h.left

-- The evacuation of the highest block that waits goes by its tale.
pub record IsEmptying (c : Setting) (w : World) (h : HostState) (t : Tale) : Type 0 where
  pub blocks : AreCommandBlocks c w h
  pub some_wait : 1 ≤ h.waiting
  pub block : slice_get h.blocks (h.waiting - 1) ≡ Some h.evacuation.block.0
  pub sizes : h.evacuation.sizes ≡ c.sizes
  pub goes_by : GoesBy h.evacuation t
  pub space : IsSpaceAt (space_now c w) h.evacuation t h.evacuation.stage

-- the evacuation waits for an action of its own
abbrev pub IsWaiting : Stage → Type 0
IsWaiting stages.Isolating = ⊤
IsWaiting (stages.Leasing after) = ⊤
IsWaiting (stages.Moving lease) = ⊥
IsWaiting (stages.Returning attempt) = ⊤
IsWaiting (stages.Undoing cause) = ⊤
IsWaiting stages.Emptied = ⊥
IsWaiting (stages.Failed cause) = ⊥

-- a page that is let go without a move stays where it is
abbrev pub StaysAt : MoveLease → MovePlace → Type 0
StaysAt lease Taking = ⊤
StaysAt lease Beginning = ⊤
StaysAt lease (Loading cell) = ⊤
StaysAt lease (Storing cell value) = ⊤
StaysAt lease Marking = ⊤
StaysAt lease Remapping = ⊤
StaysAt lease (Releasing None) = ⊤
StaysAt lease (Releasing (Some word)) = stays word lease.from.0 ≡ true

-- the frame is one of the block that was taken away last, which is the lowest of them
pub record IsZeroing (c : Setting) (w : World) (h : HostState) (frame : FrameNo) : Type 0 where
  pub blocks : AreCommandBlocks c w h
  pub block : slice_get h.blocks h.waiting ≡ Some h.evacuation.block.0
  pub in_block : is_frame_of c.sizes h.evacuation.block.0 frame.0 ≡ true

abbrev pub IsPlacedAt : Setting → World → HostState → Tale → HostPlace → Type 0
IsPlacedAt c w h t places.Asking = (h.waiting ≡ 0) × AreCommandBlocks c w h
IsPlacedAt c w h t places.Evacuating = IsEmptying c w h t × IsWaiting h.evacuation.stage
IsPlacedAt c w h t (places.Moving lease at) = IsEmptying c w h t × (h.evacuation.stage ≡ stages.Moving lease) × StaysAt lease at
IsPlacedAt c w h t places.TakingAway = IsEmptying c w h t × (h.evacuation.stage ≡ stages.Emptied)
IsPlacedAt c w h t (places.Zeroing frame cell) = IsZeroing c w h frame × (cell < c.sizes.cells)
IsPlacedAt c w h t (places.MarkingZeros frame) = IsZeroing c w h frame
IsPlacedAt c w h t (places.PuttingOnline result) = h.waiting < length h.blocks

-- a request that the device takes
abbrev pub IsShort : HostCommand → Type 0
IsShort (commands.Request bytes) = length bytes ≤ 64
IsShort commands.Config = ⊤

-- The blocks of the command are managed ones, each once. The driver holds those of them that don't wait, and no others. A block
-- is isolated that is offline, or that the command under way is emptying.
pub record HostSpace (c : Setting) (w : World) (h : HostState) (t : Tale) : Type 0 where
  pub sizes : h.sizes ≡ c.sizes
  pub commands : AllByRecursion IsShort h.left
  pub waiting : h.waiting ≤ length h.blocks
  pub managed : (block : ℕ) → is_in block h.blocks ≡ true → block < c.sizes.managed
  pub distinct : AreDistinct h.blocks
  pub held : (block : ℕ) → is_held c w block ≡ is_in block (away h)
  pub isolated : (block : ℕ) → is_in block (space_now c w).isolated ≡ (is_in block (space_now c w).offline || is_isolated_by h block)
  pub place : IsPlacedAt c w h t h.place

-- ---- the tale behind an action

-- the evacuation that failed is over, and one that begins has tried nothing
abbrev pub tale_by : Stage → Tale → Tale
tale_by stages.Isolating t = t
tale_by (stages.Leasing after) t = t
tale_by (stages.Moving lease) t = t
tale_by (stages.Returning attempt) t = t
tale_by (stages.Undoing cause) t = t
tale_by stages.Emptied t = t
tale_by (stages.Failed cause) t = nothing_tried

-- behind what the evacuation was told
abbrev pub tale_told : HostState → Tale → EvacSeen → Tale
tale_told h t what = tale_by (evacuation_after h.evacuation what).stage (tale_after h.evacuation t what)

abbrev pub tale_found : HostState → Tale → (word : ℕ) → Tale
tale_found h t word = if taken_bit word == 1 then tale_told h t (seen.Found word) else t

abbrev pub tale_moved : HostState → Tale → MovePlace → Heard → Tale
tale_moved h t Taking heard = tale_found h t (word_in heard)
tale_moved h t Beginning heard = t
tale_moved h t (Loading cell) heard = t
tale_moved h t (Storing cell value) heard = t
tale_moved h t Marking heard = t
tale_moved h t Remapping heard = t
tale_moved h t (Releasing word) heard = tale_told h t (came_of word)

abbrev pub tale_heard_at : HostState → Tale → HostPlace → Heard → Tale
tale_heard_at h t places.Asking heard = nothing_tried
tale_heard_at h t places.Evacuating heard = tale_told h t (seen_in (action_of h.evacuation) heard)
tale_heard_at h t (places.Moving lease at) heard = tale_moved h t at heard
tale_heard_at h t places.TakingAway heard = t
tale_heard_at h t (places.Zeroing frame cell) heard = t
tale_heard_at h t (places.MarkingZeros frame) heard = nothing_tried
tale_heard_at h t (places.PuttingOnline result) heard = nothing_tried

-- the tale behind what the host heard of its action
abbrev pub tale_heard : HostState → Tale → Heard → Tale
tale_heard h t heard = tale_heard_at h t h.place heard
