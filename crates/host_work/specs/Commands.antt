-- What the commands of the host do to the frame space and to the memory device, by what is reported of them.
use Rattle.std.specs.Prelude.{◌≡◌, List, [], ◌∷◌, ◌++◌}
use Rattle.evac_model.specs.declared.device_journal.DeviceAction.{DeviceAction}
use Rattle.evac_model.specs.declared.host.HostCommand.{HostCommand}
use Rattle.evac_model.specs.declared.host.HostCommand.TheVariants.{Request, Config}
use Rattle.evac_model.specs.declared.host.HostResult.{HostResult}
use Rattle.evac_model.specs.declared.host.HostResult.TheVariants as results
use Rattle.evac_model.specs.declared.host.HostRun.{HostRun}
use Rattle.evac_model.specs.declared.space.SpaceAction.{SpaceAction}
use Rattle.evac_model.specs.declared.tried.Tried.{Tried}
use Rattle.evac_model.specs.DeviceAnswer.{DeviceState, device_after, config_of}
use Rattle.evac_model.specs.Geometry.{Sizes}
use Rattle.host_work.specs.Requests.{Evacuates, WasSent, WasNotSent}

-- reading the configuration does nothing else
pub record WasRead (s : Sizes) (d : DeviceState) (result : HostResult) (lines : List Tried) (actions : List SpaceAction) (device : List DeviceAction) : Type 0 where
  pub told : result ≡ results.Config (config_of s d)
  pub tried : lines ≡ []
  pub nothing_made : actions ≡ []
  pub nothing_sent : device ≡ []

-- a command did this, behind what the driver had done before, where the device stood so
abbrev pub IsDoneBy : Evacuates → (before : List SpaceAction) → Sizes → DeviceState → HostCommand → HostResult → List Tried → List SpaceAction → List DeviceAction → Type 0
IsDoneBy E before s d (Request bytes) (results.Answered response) lines actions device = WasSent E before s d bytes response lines actions device
IsDoneBy E before s d (Request bytes) results.Unsent lines actions device = WasNotSent E before s d bytes lines actions device
IsDoneBy E before s d (Request bytes) (results.Config config) lines actions device = ⊥
IsDoneBy E before s d Config result lines actions device = WasRead s d result lines actions device

-- The commands did all this, one after another, behind what the driver had done before: the driver's actions of the frame
-- space, and those of the device.
abbrev pub AreDoneBy : Evacuates → (before : List SpaceAction) → Sizes → DeviceState → List HostRun → List SpaceAction → List DeviceAction → Type 0
AreDoneBy E before s d [] actions device = (actions ≡ []) × (device ≡ [])
AreDoneBy E before s d (x ∷ xs) actions device =
    (first : List SpaceAction) × (rest : List SpaceAction) × (actions ≡ first ++ rest)
    × (sent : List DeviceAction) × (later : List DeviceAction) × (device ≡ sent ++ later)
    × IsDoneBy E before s d x.command x.line.result x.line.tried first sent × AreDoneBy E (before ++ first) s (device_after s d sent) xs rest later
