-- What a request of the host does to the frame space and to the memory device: the blocks that it unplugs are emptied
-- first, from the highest down.
use Rattle.std.specs.Prelude.{◌≡◌, ℕ, List, [], ◌∷◌, ◌++◌, map, reverse, Option, None, Some}
use Rattle.evac_model.specs.declared.device.Request.{Request}
use Rattle.evac_model.specs.declared.device.Response.{Response}
use Rattle.evac_model.specs.declared.device.Response.TheVariants.{Ack, Nack, Busy, Error}
use Rattle.evac_model.specs.declared.device_journal.DeviceAct.TheVariants as acts
use Rattle.evac_model.specs.declared.device_journal.DeviceAction.{DeviceAction}
use Rattle.evac_model.specs.declared.evacuation.EvacCause.{EvacCause}
use Rattle.evac_model.specs.declared.names.BlockNo.{BlockNo}
use Rattle.evac_model.specs.declared.space.SpaceAction.{SpaceAction}
use Rattle.evac_model.specs.declared.space.SpaceAction.TheVariants as space
use Rattle.evac_model.specs.DeviceAnswer.{DeviceState, request_in, named_blocks}
use Rattle.evac_model.specs.Geometry.{Sizes}
use Rattle.evac_model.specs.HostCommands.{blocks_of, plugged_by, put_online}
use Rattle.evac_model.specs.declared.tried.Tried.{Tried}
use Rattle.evac_model.specs.declared.tried.TriedResult.TheVariants as results

-- What an evacuation of a block with that end may have done to the frame space, behind what the driver had done there
-- before. It is `by_tale` for one mover that moves page by page, by itself; other movers have other rounds. A report judges by
-- `by_truth`, which says besides that each attempt was made and the cause is true, by its journal and its history.
abbrev pub Evacuates : Type 1
Evacuates = (before : List SpaceAction) → BlockNo → Option EvacCause → List SpaceAction → Type 0

abbrev pub block_no : ℕ → BlockNo
block_no block = record { 0 = block }

-- ---- blocks

-- the blocks that are emptied before a request is sent, in order: the plugged ones that an UNPLUG of a good range that is
-- all plugged, or an UNPLUG_ALL, names
abbrev pub blocks_to_empty : Sizes → DeviceState → Option Request → List ℕ
blocks_to_empty s d request = reverse (named_blocks s d.plugged request)

-- the blocks that are put online behind an answer, rising: those that the request plugged, or didn't unplug
abbrev pub blocks_back : Sizes → DeviceState → Option Request → Response → List ℕ
blocks_back s d request (Ack state) = blocks_of (plugged_by s request (Ack state))
blocks_back s d request Nack = named_blocks s d.plugged request
blocks_back s d request Busy = named_blocks s d.plugged request
blocks_back s d request Error = named_blocks s d.plugged request

-- the blocks were emptied and taken away, one after another, behind what the driver had done before
abbrev pub AreTakenAway : Evacuates → (before : List SpaceAction) → List ℕ → List SpaceAction → Type 0
AreTakenAway E before [] actions = actions ≡ []
AreTakenAway E before (b ∷ blocks) actions =
    (evacuation : List SpaceAction) × (rest : List SpaceAction) × (actions ≡ evacuation ++ space.Offline (block_no b) ∷ rest)
    × E before (block_no b) None evacuation × AreTakenAway E (before ++ (evacuation ++ space.Offline (block_no b) ∷ [])) blocks rest

-- ---- what is reported of them

abbrev pub emptied_lines : List ℕ → List Tried
emptied_lines blocks = map (λ b. record { block = block_no b; result = results.Emptied }) blocks

abbrev pub failed_line : ℕ → EvacCause → Tried
failed_line block cause = record { block = block_no block; result = results.Failed cause }

-- ---- a request

-- Behind what the driver had done before, it was sent once all its blocks were emptied and taken away, and was answered so.
-- What it plugged or didn't unplug was put online. That the frames of the blocks are zeroed before it is sent is no action of
-- the frame space.
pub record WasSent (E : Evacuates) (had : List SpaceAction) (s : Sizes) (d : DeviceState) (bytes : List ℕ) (response : Response) (lines : List Tried) (actions : List SpaceAction) (device : List DeviceAction) : Type 0 where
  pub emptying : List SpaceAction
  pub taken_away : AreTakenAway E had (blocks_to_empty s d (request_in bytes)) emptying
  pub made : actions ≡ emptying ++ put_online (blocks_back s d (request_in bytes) response)
  pub sent : map (λ a. a.act) device ≡ acts.Request bytes response ∷ []
  pub tried : lines ≡ emptied_lines (blocks_to_empty s d (request_in bytes))

-- It wasn't sent: one of its blocks couldn't be emptied, for that cause. Those before it, which had been emptied and taken
-- away, were put online again, rising.
pub record WasNotSent (E : Evacuates) (had : List SpaceAction) (s : Sizes) (d : DeviceState) (bytes : List ℕ) (lines : List Tried) (actions : List SpaceAction) (device : List DeviceAction) : Type 0 where
  pub before : List ℕ
  pub block : ℕ
  pub behind : List ℕ
  pub blocks : blocks_to_empty s d (request_in bytes) ≡ before ++ block ∷ behind
  pub cause : EvacCause
  pub emptying : List SpaceAction
  pub taken_away : AreTakenAway E had before emptying
  pub failing : List SpaceAction
  pub failed : E (had ++ emptying) (block_no block) (Some cause) failing
  pub made : actions ≡ emptying ++ failing ++ put_online (reverse before)
  pub nothing_sent : device ≡ []
  pub tried : lines ≡ emptied_lines before ++ failed_line block cause ∷ []
