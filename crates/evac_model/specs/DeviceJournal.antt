-- A memory device's journal: which calls of the backing it made, and whether each answer is the device's by who refused.
use Rattle.std.specs.Prelude.{◌≡◌, ◌&&◌, ◌||◌, ℕ, Bool, true, false, if◌then◌else◌, List, [], ◌∷◌, Option, ⊤}
use Rattle.std.specs.List.{list_any}
use Rattle.evac_model.specs.declared.device.Request.{Request}
use Rattle.evac_model.specs.declared.device.Response.{Response}
use Rattle.evac_model.specs.declared.device_journal.DeviceAct.{DeviceAct}
use Rattle.evac_model.specs.declared.device_journal.DeviceAct.TheVariants as acts
use Rattle.evac_model.specs.declared.device_journal.DeviceAction.{DeviceAction}
use Rattle.evac_model.specs.declared.device_journal.Notice.{Notice}
use Rattle.evac_model.specs.declared.device_journal.Told.{Told}
use Rattle.evac_model.specs.declared.device_journal.Told.TheVariants.{PopulateOk, PopulateRefused, Discard}
use Rattle.evac_model.specs.Counts.{Calls, is_listed, after_call}
use Rattle.evac_model.specs.DeviceAnswer.{DeviceState, request_in, asks_backing, device_answer, after_act}
use Rattle.evac_model.specs.Geometry.{Sizes}

-- ---- the calls of the backing

-- the calls of the backing behind an action
abbrev pub calls_after_act : Sizes → DeviceState → Calls → DeviceAct → Calls
calls_after_act s d calls (acts.Requested size) = calls
calls_after_act s d calls (acts.Request bytes response) = if asks_backing s d (request_in bytes) then after_call calls else calls
calls_after_act s d calls (acts.Join key) = calls
calls_after_act s d calls acts.JoinRefused = calls
calls_after_act s d calls (acts.Leave key) = calls
calls_after_act s d calls acts.Begin = calls
calls_after_act s d calls acts.Cancel = calls
calls_after_act s d calls acts.Finish = calls

-- the calls of the backing behind a journal
abbrev pub calls_after : Sizes → DeviceState → Calls → List DeviceAction → Calls
calls_after s d calls [] = calls
calls_after s d calls (a ∷ actions) = calls_after s (after_act s d a.act) (calls_after_act s d calls a.act) actions

-- ---- who refuses

-- whether the backing is asked, at a call that fails
abbrev pub backing_refuses : Sizes → DeviceState → Calls → Option Request → Bool
backing_refuses s d calls request = asks_backing s d request && is_listed calls

-- what the device answers to the bytes of a request where no listener refuses
abbrev pub answer_to : Sizes → DeviceState → Calls → List ℕ → Response
answer_to s d calls bytes = device_answer s d (backing_refuses s d calls (request_in bytes)) (request_in bytes)

-- whether a listener refused to map blocks
abbrev pub is_refusal : Told → Bool
is_refusal PopulateOk = false
is_refusal PopulateRefused = true
is_refusal Discard = false

abbrev pub tells_refusal : List Notice → Bool
tells_refusal notices = list_any (λ n. is_refusal n.told) notices

-- ---- the answers

-- an answer to a request is the device's in that state, refused where a listener told so, or where the backing is asked at
-- a call that fails
abbrev pub IsAnswered : Sizes → DeviceState → Calls → DeviceAct → List Notice → Type 0
IsAnswered s d calls (acts.Requested size) notices = ⊤
IsAnswered s d calls (acts.Request bytes response) notices =
    response ≡ device_answer s d (tells_refusal notices || backing_refuses s d calls (request_in bytes)) (request_in bytes)
IsAnswered s d calls (acts.Join key) notices = ⊤
IsAnswered s d calls acts.JoinRefused notices = ⊤
IsAnswered s d calls (acts.Leave key) notices = ⊤
IsAnswered s d calls acts.Begin notices = ⊤
IsAnswered s d calls acts.Cancel notices = ⊤
IsAnswered s d calls acts.Finish notices = ⊤

-- each answer is the device's by the actions before it
abbrev pub AreAnswered : Sizes → DeviceState → Calls → List DeviceAction → Type 0
AreAnswered s d calls [] = ⊤
AreAnswered s d calls (a ∷ actions) =
    IsAnswered s d calls a.act a.notices × AreAnswered s (after_act s d a.act) (calls_after_act s d calls a.act) actions
