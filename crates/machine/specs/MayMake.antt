-- Which actions a seat may make.
use Rattle.std.specs.Prelude.{◌≡◌, ◌≢◌, ℕ, ◌<◌, ◌≤◌, true, false, List, length, None, Some, ⊤}
use Rattle.evac_model.specs.declared.names.BlockNo.{BlockNo}
use Rattle.evac_model.specs.declared.names.FrameNo.{FrameNo}
use Rattle.evac_model.specs.declared.names.PageNo.{PageNo}
use Rattle.evac_model.specs.DeviceAnswer.{request_in, named_blocks}
use Rattle.evac_model.specs.Numbers.{is_in}
use Rattle.evac_model.specs.SpaceJournal.{out_for, IsEmptied}
use Rattle.core_state.specs.declared.keeper.Keeper.TheVariants.{OneOwner}
use Rattle.core_state.specs.declared.step.MoveStep.{MoveStep}
use Rattle.core_state.specs.declared.step.MoveStep.TheVariants.{Moving, Remap, Map, Unmap}
use Rattle.core_state.specs.declared.step.Step.{Step}
use Rattle.core_state.specs.declared.step.Step.TheVariants.{Take, Draw, Load, Store, Mark, Release}
use Rattle.core_state.specs.declared.view.View.{View}
use Rattle.core_state.specs.HandOvers.{IsAtRest}
use Rattle.core_state.specs.MoveSteps.{AllowedMove}
use Rattle.core_state.specs.Steps.{held_page, held_word, Allowed}
use Rattle.core_state.specs.Views.{view_of}
use Rattle.core_state.specs.Words.{kind_in}
use Rattle.machine.specs.declared.action.Action.{Action}
use Rattle.machine.specs.declared.action.Action.TheVariants as actions
use Rattle.machine.specs.declared.action.BlockCall.{BlockCall}
use Rattle.machine.specs.declared.action.BlockCall.TheVariants.{Isolate, Target, Undo, Offline, Online}
use Rattle.machine.specs.declared.action.DeviceCall.{DeviceCall}
use Rattle.machine.specs.declared.action.DeviceCall.TheVariants.{Request, Config}
use Rattle.machine.specs.declared.action.SpaceCall.{SpaceCall}
use Rattle.machine.specs.declared.action.SpaceCall.TheVariants.{Lease, Return}
use Rattle.machine.specs.World.{Setting, World, IsOwnerSeat, IsActorSeat, HasFrame, space_now, device_now, is_held}

-- a step of the driver or of an owner on a word
pub record MayStep (c : Setting) (seat : ℕ) (w : World) (step : Step) : Type 0 where
  pub actor : IsActorSeat c seat
  pub allowed : Allowed c.opening (view_of w.snapshot.views seat) step

-- the frame to which the step maps the held page is out for that page, with its kind
abbrev pub IsOutForHeld : Setting → World → View → MoveStep → Type 0
IsOutForHeld c w v Moving = ⊤
IsOutForHeld c w v (Remap frame) = out_for (space_now c w) frame.0 ≡ Some (record { page = held_page v.held; kind = kind_in (held_word v.held) })
IsOutForHeld c w v (Map frame kind) = out_for (space_now c w) frame.0 ≡ Some (record { page = held_page v.held; kind = kind })
IsOutForHeld c w v Unmap = ⊤

-- a step of the driver or of an owner on the mapping of the page that it holds
pub record MayMove (c : Setting) (seat : ℕ) (w : World) (step : MoveStep) : Type 0 where
  pub actor : IsActorSeat c seat
  pub allowed : AllowedMove OneOwner c.opening (view_of w.snapshot.views seat) step
  pub out : IsOutForHeld c w (view_of w.snapshot.views seat) step

-- an owner at rest leases a frame for a page of the machine
pub record MayLease (c : Setting) (seat : ℕ) (w : World) (asked : PageNo) : Type 0 where
  pub owner : IsOwnerSeat c seat
  pub page : asked.0 < c.sizes.pages
  pub rests : IsAtRest c.opening (view_of w.snapshot.views seat)

-- the driver or an owner, at rest, gives a frame back that it has in hand and that is out
pub record MayReturn (c : Setting) (seat : ℕ) (w : World) (frame : FrameNo) : Type 0 where
  pub actor : IsActorSeat c seat
  pub rests : IsAtRest c.opening (view_of w.snapshot.views seat)
  pub has : HasFrame w seat frame.0
  pub out : out_for (space_now c w) frame.0 ≢ None

abbrev pub MayAskSpace : Setting → (seat : ℕ) → World → SpaceCall → Type 0
MayAskSpace c seat w (Lease page kind) = MayLease c seat w page
MayAskSpace c seat w (Return frame) = MayReturn c seat w frame

-- ---- what the driver does with a block

-- it isolates a managed block that isn't isolated
pub record MayIsolate (c : Setting) (seat : ℕ) (w : World) (block : BlockNo) : Type 0 where
  pub driver : seat ≡ 0
  pub managed : block.0 < c.sizes.managed
  pub there : is_in block.0 (space_now c w).isolated ≡ false

-- at rest, it leases a target for a page of an isolated block
pub record MayTarget (c : Setting) (seat : ℕ) (w : World) (block : BlockNo) : Type 0 where
  pub driver : seat ≡ 0
  pub rests : IsAtRest c.opening (view_of w.snapshot.views 0)
  pub isolated : is_in block.0 (space_now c w).isolated ≡ true

-- it takes the isolation of a block back that isn't offline
pub record MayUndo (c : Setting) (seat : ℕ) (w : World) (block : BlockNo) : Type 0 where
  pub driver : seat ≡ 0
  pub isolated : is_in block.0 (space_now c w).isolated ≡ true
  pub there : is_in block.0 (space_now c w).offline ≡ false

-- at rest, it takes an isolated block away of which no frame is out
pub record MayTakeOffline (c : Setting) (seat : ℕ) (w : World) (block : BlockNo) : Type 0 where
  pub driver : seat ≡ 0
  pub rests : IsAtRest c.opening (view_of w.snapshot.views 0)
  pub isolated : is_in block.0 (space_now c w).isolated ≡ true
  pub there : is_in block.0 (space_now c w).offline ≡ false
  pub emptied : IsEmptied c.sizes (space_now c w) block.0

-- at rest, it puts a block online that it holds
pub record MayPutOnline (c : Setting) (seat : ℕ) (w : World) (block : BlockNo) : Type 0 where
  pub driver : seat ≡ 0
  pub rests : IsAtRest c.opening (view_of w.snapshot.views 0)
  pub held : is_held c w block.0 ≡ true

abbrev pub MayAskForBlock : Setting → (seat : ℕ) → World → BlockCall → Type 0
MayAskForBlock c seat w (Isolate block) = MayIsolate c seat w block
MayAskForBlock c seat w (Target block after) = MayTarget c seat w block
MayAskForBlock c seat w (Undo block) = MayUndo c seat w block
MayAskForBlock c seat w (Offline block) = MayTakeOffline c seat w block
MayAskForBlock c seat w (Online block) = MayPutOnline c seat w block

-- ---- what is asked of the memory device

-- At rest, the driver sends a request of at most 64 bytes. It holds each of the plugged blocks that an UNPLUG of a good
-- range that is all plugged, or an UNPLUG_ALL, names.
pub record MayRequest (c : Setting) (seat : ℕ) (w : World) (bytes : List ℕ) : Type 0 where
  pub driver : seat ≡ 0
  pub rests : IsAtRest c.opening (view_of w.snapshot.views 0)
  pub short : length bytes ≤ 64
  pub held : (block : ℕ) → is_in block (named_blocks c.sizes (device_now c w).plugged (request_in bytes)) ≡ true → is_held c w block ≡ true

abbrev pub MayAskDevice : Setting → (seat : ℕ) → World → DeviceCall → Type 0
MayAskDevice c seat w (Request bytes) = MayRequest c seat w bytes
MayAskDevice c seat w Config = ⊤

-- ---- any action

-- the actor on that seat may make the action
abbrev pub MayMake : Setting → (seat : ℕ) → World → Action → Type 0
MayMake c seat w (actions.Step step) = MayStep c seat w step
MayMake c seat w (actions.Move step) = MayMove c seat w step
MayMake c seat w (actions.Space call) = MayAskSpace c seat w call
MayMake c seat w (actions.Block call) = MayAskForBlock c seat w call
MayMake c seat w (actions.Device call) = MayAskDevice c seat w call
MayMake c seat w actions.Ended = ⊤

-- ---- memory

-- a take by the driver needs room for its notice, since the driver has the right to move pages
abbrev pub StepTakesMemory : (seat : ℕ) → Step → Type 0
StepTakesMemory seat (Take page) = seat ≡ 0
StepTakesMemory seat Draw = ⊥
StepTakesMemory seat (Load cell) = ⊥
StepTakesMemory seat (Store frame cell value) = ⊥
StepTakesMemory seat (Mark frame) = ⊥
StepTakesMemory seat (Release end) = ⊥

-- an isolation and a target take room for the frame space's journal
abbrev pub BlockTakesMemory : BlockCall → Type 0
BlockTakesMemory (Isolate block) = ⊤
BlockTakesMemory (Target block after) = ⊤
BlockTakesMemory (Undo block) = ⊥
BlockTakesMemory (Offline block) = ⊥
BlockTakesMemory (Online block) = ⊥

-- a lease and a request take room for their journal, too, and an UNPLUG_ALL for a list of its blocks
abbrev pub TakesMemory : (seat : ℕ) → Action → Type 0
TakesMemory seat (actions.Step step) = StepTakesMemory seat step
TakesMemory seat (actions.Move step) = ⊥
TakesMemory seat (actions.Space (Lease page kind)) = ⊤
TakesMemory seat (actions.Space (Return frame)) = ⊥
TakesMemory seat (actions.Block call) = BlockTakesMemory call
TakesMemory seat (actions.Device (Request bytes)) = ⊤
TakesMemory seat (actions.Device Config) = ⊥
TakesMemory seat actions.Ended = ⊥
