-- The actions that an owner makes for each of its calls, and the reply that the release gives.
use Rattle.std.specs.Prelude.{ℕ, ◌+◌, ◌%◌, ◌^◌, ◌<◌, Bool, ◌==◌, ◌&&◌, if◌then◌else◌, List, [], ◌∷◌, ◌++◌, map, slice_index, Option, None, Some}
use Rattle.std.specs.List.{range_with_len}
use Rattle.evac_model.specs.declared.names.FrameNo.{FrameNo}
use Rattle.evac_model.specs.declared.names.PageNo.{PageNo}
use Rattle.evac_model.specs.declared.call.Call.{Call}
use Rattle.evac_model.specs.declared.call.Call.TheVariants.{Alloc, Free, Read, Write, Add, Pin, Unpin}
use Rattle.evac_model.specs.declared.reply.Reply.{Reply}
use Rattle.evac_model.specs.declared.reply.Reply.TheVariants.{Done, Values, Old, Mapped, NotMapped, Pinned, PinLimit, NotPinned, NoFrame}
use Rattle.evac_model.specs.Geometry.{Sizes}
use Rattle.evac_model.specs.Calls.{IsCallFor}
use Rattle.evac_words.specs.Word.{mapped_bit, pins_of, frame_of}
use Rattle.evac_model.specs.declared.names.Kind.{Kind}
use Rattle.core_state.specs.declared.step.MoveStep.TheVariants.{Map, Unmap}
use Rattle.core_state.specs.declared.step.Step.{Step}
use Rattle.core_state.specs.declared.step.Step.TheVariants.{Take, Draw, Load, Store, Mark, Release}
use Rattle.machine.specs.declared.action.Action.{Action}
use Rattle.machine.specs.declared.action.Action.TheVariants as actions
use Rattle.machine.specs.declared.action.SpaceCall.TheVariants.{Lease}
use Rattle.core_actors.specs.declared.action.LeaseSeen.{LeaseSeen}
use Rattle.core_actors.specs.declared.action.LeaseSeen.TheVariants.{NotAsked, Got, Refused}

-- a call on a page of the machine and on cells that a page has
pub record IsCallOf (s : Sizes) (c : PageNo × Call) : Type 0 where
  pub page : c.0.0 < s.pages
  pub call : IsCallFor s c.1

-- ---- what a call names

-- the first cell that the call names
abbrev pub first_cell : Call → ℕ
first_cell (Alloc kind) = 0
first_cell Free = 0
first_cell (Read first count) = first
first_cell (Write first values) = first
first_cell (Add cell value) = cell
first_cell Pin = 0
first_cell Unpin = 0

-- how many cells the call loads
abbrev pub load_count : Call → ℕ
load_count (Alloc kind) = 0
load_count Free = 0
load_count (Read first count) = count
load_count (Write first values) = 0
load_count (Add cell value) = 1
load_count Pin = 0
load_count Unpin = 0

-- the values that the call stores, where the loads gave these values
abbrev pub values_of : List ℕ → Call → List ℕ
values_of loads (Alloc kind) = []
values_of loads Free = []
values_of loads (Read first count) = []
values_of loads (Write first values) = values
values_of loads (Add cell value) = (slice_index loads 0 + value) % 2 ^ 64 ∷ []
values_of loads Pin = []
values_of loads Unpin = []

-- ---- its steps

-- a page is freed where it was found mapped and without pins
abbrev pub is_freed : (found : ℕ) → Bool
is_freed found = mapped_bit found == 1 && pins_of found == 0

-- the reply of a call on a mapped page, which had so many pins, and whose cells were loaded
abbrev pub mapped_reply : ℕ → List ℕ → Call → Reply
mapped_reply pins loads (Alloc kind) = Mapped
mapped_reply pins loads Free = if pins == 0 then Done else Pinned
mapped_reply pins loads (Read first count) = Values loads
mapped_reply pins loads (Write first values) = Done
mapped_reply pins loads (Add cell value) = Old (slice_index loads 0)
mapped_reply pins loads Pin = if pins == 63 then PinLimit else Done
mapped_reply pins loads Unpin = if pins == 0 then NotPinned else Done

-- the reply of an alloc of an unmapped page, by what its lease gave
abbrev pub leased_reply : LeaseSeen → Reply
leased_reply NotAsked = Done
leased_reply (Got frame) = Done
leased_reply (Refused at) = NoFrame at

-- the reply of a call on an unmapped page
abbrev pub unmapped_reply : LeaseSeen → Call → Reply
unmapped_reply lease (Alloc kind) = leased_reply lease
unmapped_reply lease Free = NotMapped
unmapped_reply lease (Read first count) = NotMapped
unmapped_reply lease (Write first values) = NotMapped
unmapped_reply lease (Add cell value) = NotMapped
unmapped_reply lease Pin = NotMapped
unmapped_reply lease Unpin = NotMapped

-- the reply of a call, by what its lease gave, the word that its take found and what its loads gave
abbrev pub reply_of : LeaseSeen → (found : ℕ) → List ℕ → Call → Reply
reply_of lease found loads call =
    if mapped_bit found == 1 then mapped_reply (pins_of found) loads call else unmapped_reply lease call

-- a load of each of so many cells, from the first one on
abbrev pub load_steps : ℕ → ℕ → List Step
load_steps first count = map (λ cell. Load cell) (range_with_len first count)

-- a store of each value, in the cells of the frame from the first one on
abbrev pub store_steps : FrameNo → ℕ → List ℕ → List Step
store_steps frame first [] = []
store_steps frame first (x ∷ xs) = Store frame first x ∷ store_steps frame (first + 1) xs

-- the steps on the cells of a mapped page, which lies in the frame, where the loads gave these values
abbrev pub cell_steps : FrameNo → List ℕ → Call → List Step
cell_steps frame loads (Alloc kind) = []
cell_steps frame loads Free = []
cell_steps frame loads (Read first count) = load_steps first count
cell_steps frame loads (Write first values) = store_steps frame first values ++ Mark frame ∷ []
cell_steps frame loads (Add cell value) = Load cell ∷ Store frame cell ((slice_index loads 0 + value) % 2 ^ 64) ∷ Mark frame ∷ []
cell_steps frame loads Pin = []
cell_steps frame loads Unpin = []

-- the steps between the draw and the release; those of a page that was found unmapped are none
abbrev pub middle_steps : ℕ → List ℕ → Call → List Step
middle_steps found loads call = if mapped_bit found == 1 then cell_steps (record { 0 = frame_of found }) loads call else []

-- a store of 0 in each cell of a frame, and the mark
abbrev pub zero_steps : (cells : ℕ) → FrameNo → List Step
zero_steps cells frame = map (λ cell. Store frame cell 0) (range_with_len 0 cells) ++ Mark frame ∷ []

abbrev pub zeroing : (cells : ℕ) → LeaseSeen → List Step
zeroing cells NotAsked = []
zeroing cells (Got frame) = zero_steps cells frame
zeroing cells (Refused at) = []

abbrev pub as_actions : List Step → List Action
as_actions steps = map (λ s. actions.Step s) steps

-- the actions before the take: an alloc leases a frame, and zeroes and marks it
abbrev pub lead_actions : (cells : ℕ) → PageNo → Call → LeaseSeen → List Action
lead_actions cells page (Alloc kind) lease = actions.Space (Lease page kind) ∷ as_actions (zeroing cells lease)
lead_actions cells page Free lease = []
lead_actions cells page (Read first count) lease = []
lead_actions cells page (Write first values) lease = []
lead_actions cells page (Add cell value) lease = []
lead_actions cells page Pin lease = []
lead_actions cells page Unpin lease = []

-- an alloc maps an unmapped page to the frame that it leased
abbrev pub map_actions : (kind : Kind) → LeaseSeen → List Action
map_actions kind NotAsked = []
map_actions kind (Got frame) = actions.Move (Map frame kind) ∷ []
map_actions kind (Refused at) = []

-- the steps on the mapping: a map, or an unmap of a page that is freed
abbrev pub mapping_actions : Call → LeaseSeen → (found : ℕ) → List Action
mapping_actions (Alloc kind) lease found = if mapped_bit found == 1 then [] else map_actions kind lease
mapping_actions Free lease found = if is_freed found then actions.Move Unmap ∷ [] else []
mapping_actions (Read first count) lease found = []
mapping_actions (Write first values) lease found = []
mapping_actions (Add cell value) lease found = []
mapping_actions Pin lease found = []
mapping_actions Unpin lease found = []

-- The actions of a call, in order, up to its release, where its lease gave this, its take found the word
-- and its loads gave these values. The actions up to a lease, a take or a load don't depend on what that
-- one and those behind it give.
abbrev pub call_actions : (cells : ℕ) → PageNo → Call → LeaseSeen → (found : ℕ) → List ℕ → List Action
call_actions cells page call lease found loads =
    lead_actions cells page call lease ++ actions.Step (Take page) ∷ actions.Step Draw ∷ as_actions (middle_steps found loads call)
    ++ mapping_actions call lease found ++ actions.Step (Release (Some (record { call = call; reply = reply_of lease found loads call }))) ∷ []

-- the frame that was leased, if one was
abbrev pub leased_frame : LeaseSeen → Option FrameNo
leased_frame NotAsked = None
leased_frame (Got frame) = Some frame
leased_frame (Refused at) = None

-- the frame that is given back behind the release: that of an alloc that found its page mapped, or that of
-- the page that was freed
abbrev pub frame_back : Call → LeaseSeen → (found : ℕ) → Option FrameNo
frame_back (Alloc kind) lease found = if mapped_bit found == 1 then leased_frame lease else None
frame_back Free lease found = if is_freed found then Some (record { 0 = frame_of found }) else None
frame_back (Read first count) lease found = None
frame_back (Write first values) lease found = None
frame_back (Add cell value) lease found = None
frame_back Pin lease found = None
frame_back Unpin lease found = None
