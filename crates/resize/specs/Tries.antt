-- Blocks that a resize tried: what was asked and told of each, and how many blocks are plugged behind them.
use Rattle.std.specs.Prelude.{◌≡◌, ◌≢◌, ℕ, ◌+◌, ◌-◌, List, [], ◌∷◌, ◌++◌}
use Rattle.evac_model.specs.declared.names.BlockNo.{BlockNo}
use Rattle.evac_model.specs.declared.device.Response.{Response}
use Rattle.evac_model.specs.declared.device.Response.TheVariants.{Ack, Nack, Busy, Error}
use Rattle.evac_model.specs.declared.evacuation.EvacCause.{EvacCause}
use Rattle.evac_model.specs.Geometry.{Sizes}
use Rattle.evacuate.specs.Evacuating.{Evacuating}
use Rattle.evacuate.specs.Tale.{Tale}
use Rattle.evacuate.specs.UnderWay.{GoesBy, HasFailed, log_of}
use Rattle.resize.specs.declared.action.ResizeAction.{ResizeAction}
use Rattle.resize.specs.declared.action.ResizeAction.TheVariants.{Plug, Online, Evacuate, Offline, Zero, Unplug}
use Rattle.resize.specs.declared.seen.ResizeSeen.{ResizeSeen}
use Rattle.resize.specs.declared.seen.ResizeSeen.TheVariants.{Answered, Emptied, Failed, Done}
use Rattle.evac_model.specs.declared.tried.Tried.{Tried}
use Rattle.evac_model.specs.declared.tried.TriedResult.{TriedResult}
use Rattle.evac_model.specs.declared.tried.TriedResult.TheVariants as result

-- an action, and what it gave
pub record Exchange : Type 0 where
  pub asked : ResizeAction
  pub told : ResizeSeen

abbrev pub gave : ResizeAction → ResizeSeen → Exchange
gave action told = record { asked = action; told = told }

-- an answer other than ACK
abbrev pub IsRefusal : Response → Type 0
IsRefusal (Ack state) = ⊥
IsRefusal Nack = Unit {0}
IsRefusal Busy = Unit {0}
IsRefusal Error = Unit {0}

-- ---- what was asked and told of a block

-- the block was emptied, taken offline and zeroed
abbrev pub emptied_log : BlockNo → List Exchange
emptied_log b = gave (Evacuate b) Emptied ∷ gave (Offline b) Done ∷ gave (Zero b) Done ∷ []

-- a PLUG was answered; where it was acknowledged, the block was put online
abbrev pub plug_log : BlockNo → Response → List Exchange
plug_log b (Ack state) = gave (Plug b 1) (Answered (Ack state)) ∷ gave (Online b) Done ∷ []
plug_log b response = gave (Plug b 1) (Answered response) ∷ []

-- This was asked and told of the block, and nothing else. After an answer to UNPLUG other than ACK it was
-- put online again.
abbrev pub IsTold : BlockNo → TriedResult → List Exchange → Type 0
IsTold b result.Unplugged log = (state : ℕ) × (log ≡ emptied_log b ++ gave (Unplug b 1) (Answered (Ack state)) ∷ [])
IsTold b result.Emptied log = ⊥
IsTold b (result.Answered response) log =
    IsRefusal response × (log ≡ emptied_log b ++ gave (Unplug b 1) (Answered response) ∷ gave (Online b) Done ∷ [])
IsTold b (result.Failed cause) log = log ≡ gave (Evacuate b) (Failed cause) ∷ []
IsTold b (result.Plugged response) log = log ≡ plug_log b response

-- block by block
abbrev pub AreTold : List Tried → List Exchange → Type 0
AreTold [] log = log ≡ []
AreTold (t ∷ tried) log =
    (first : List Exchange) × (rest : List Exchange) × (log ≡ first ++ rest) × IsTold t.block t.result first × AreTold tried rest

-- ---- how many blocks are plugged

abbrev pub count_after : ℕ → TriedResult → ℕ
count_after n result.Unplugged = n - 1
count_after n result.Emptied = n
count_after n (result.Answered response) = n
count_after n (result.Failed cause) = n
count_after n (result.Plugged (Ack state)) = n + 1
count_after n (result.Plugged response) = n

-- behind all of these
abbrev pub plugged_after : ℕ → List Tried → ℕ
plugged_after n [] = n
plugged_after n (t ∷ tried) = plugged_after (count_after n t.result) tried

-- no block was tried at the goal
abbrev pub NoneAtGoal : (goal n : ℕ) → List Tried → Type 0
NoneAtGoal goal n [] = Unit {0}
NoneAtGoal goal n (t ∷ tried) = (n ≢ goal) × NoneAtGoal goal (count_after n t.result) tried

-- ---- what came of a block

-- a PLUG of it was acknowledged
abbrev pub IsAdded : TriedResult → Type 0
IsAdded (result.Plugged response) = (state : ℕ) × (response ≡ Ack state)
IsAdded _ = ⊥

-- An evacuation of the block, which goes by its tale, failed for this cause: the cause was met by all that the
-- evacuation asked and was told.
pub record WasMet (s : Sizes) (b : BlockNo) (cause : EvacCause) : Type 0 where
  pub evacuation : Evacuating
  pub tale : Tale
  pub sizes : evacuation.sizes ≡ s
  pub block : evacuation.block ≡ b
  pub goes_by : GoesBy evacuation tale
  pub failed : HasFailed s b tale (log_of evacuation tale) cause

-- the block was unplugged; or it stayed for a cause that was met, or for an answer of the device other than ACK
abbrev pub IsGoneOrKept : Sizes → BlockNo → TriedResult → Type 0
IsGoneOrKept s b result.Unplugged = Unit {0}
IsGoneOrKept s b result.Emptied = ⊥
IsGoneOrKept s b (result.Answered response) = IsRefusal response
IsGoneOrKept s b (result.Failed cause) = WasMet s b cause
IsGoneOrKept s b (result.Plugged response) = ⊥
