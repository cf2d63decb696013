-- Each response of a report has a state: it is an answer of the device.
use Rattle.std.proofs.Common.{◌≡◌, ℕ, ◌+◌, ◌*◌, ◌≤◌, ◌==◌, ◌||◌, nat_lt, length, Bool, true, false, not, if◌then◌else◌, List, [], ◌∷◌, ◌++◌, map, subst, sym, arith, Option, None, Some}
use Rattle.std.specs.List.{AllByRecursion}
use Rattle.evac_model.specs.declared.device.Request.{Request}
use Rattle.evac_model.specs.declared.device.Request.TheVariants.{Plug, Unplug, UnplugAll, State}
use Rattle.evac_model.specs.declared.device.Response.{Response}
use Rattle.evac_model.specs.declared.device.Response.TheVariants.{Ack, Nack, Busy, Error}
use Rattle.evac_model.specs.declared.device_journal.DeviceAct.{DeviceAct}
use Rattle.evac_model.specs.declared.device_journal.DeviceAct.TheVariants as acts
use Rattle.evac_model.specs.declared.device_journal.DeviceAction.{DeviceAction}
use Rattle.evac_model.specs.declared.device_journal.Notice.{Notice}
use Rattle.evac_model.specs.declared.host.HostCommand.{HostCommand}
use Rattle.evac_model.specs.declared.host.HostCommand.TheVariants as commands
use Rattle.evac_model.specs.declared.host.HostResult.{HostResult}
use Rattle.evac_model.specs.declared.host.HostResult.TheVariants as results
use Rattle.evac_model.specs.declared.host.HostRun.{HostRun}
use Rattle.evac_model.specs.declared.scenario.Scenario.{Scenario}
use Rattle.evac_model.specs.declared.space.SpaceAction.{SpaceAction}
use Rattle.evac_model.specs.declared.tried.Tried.{Tried}
use Rattle.evac_model.specs.Counts.{Calls, first_of_calls}
use Rattle.evac_model.specs.Geometry.{Sizes, block_bytes}
use Rattle.evac_model.specs.DeviceAnswer.{DeviceState, request_in, device_answer, range_state, block_at, is_good_range, are_plugged, are_unplugged, after_act, device_after}
use Rattle.evac_model.specs.DeviceJournal.{calls_after_act, backing_refuses, tells_refusal, IsAnswered, AreAnswered}
use Rattle.evac_model.specs.Pairing.{actions_of}
use Rattle.mem_codec.specs.ResponseBytes.{HasState}
use Rattle.host_work.specs.Commands.{IsDoneBy, AreDoneBy}
use Rattle.host_work.specs.FoundWords.{AreWordsOf}
use Rattle.host_work.specs.Requests.{Evacuates}
use Rattle.host_work.specs.Truth.{by_truth}
use Rattle.host_work.proofs.Parts.{all_parts}
use Rattle.report.specs.declared.report.Report.{Report}
use Rattle.report.specs.ReportText.{HasResultState, HasActState, HaveStates}
use Rattle.report.specs.ReportOf.{plain_start, space_told, device_start, IsReportOf}

zero_fits : HasState (Ack 0)
zero_fits = omega arith

error_fits : HasState Error
error_fits = tt

nack_fits : HasState Nack
nack_fits = tt

busy_fits : HasState Busy
busy_fits = tt

-- the answers by their causes, whatever holds of these
plug_has_state : (bad above plugged busy : Bool) → HasState (if bad then Error else if above then Nack else if plugged then Error else if busy then Busy else Ack 0)
plug_has_state true above plugged busy = error_fits
plug_has_state false true plugged busy = nack_fits
plug_has_state false false true busy = error_fits
plug_has_state false false false true = busy_fits
plug_has_state false false false false = zero_fits

unplug_has_state : (bad unplugged busy : Bool) → HasState (if bad then Error else if unplugged then Error else if busy then Busy else Ack 0)
unplug_has_state true unplugged busy = error_fits
unplug_has_state false true busy = error_fits
unplug_has_state false false true = busy_fits
unplug_has_state false false false = zero_fits

all_has_state : (none busy : Bool) → HasState (if none then Ack 0 else if busy then Busy else Ack 0)
all_has_state true busy = zero_fits
all_has_state false true = busy_fits
all_has_state false false = zero_fits

two_at_most : (b c : Bool) → (if b then 0 else if c then 1 else 2) ≤ 2
two_at_most true c = omega arith
two_at_most false true = omega arith
two_at_most false false = omega arith

state_has_state : (bad : Bool) (state : ℕ) → state ≤ 2 → HasState (if bad then Error else Ack state)
state_has_state true state fits = error_fits
state_has_state false state fits = fits

answer_has_state : (s : Sizes) (d : DeviceState) (refused : Bool) (request : Option Request) → HasState (device_answer s d refused request)
answer_has_state s d refused None = error_fits
answer_has_state s d refused (Some (Plug addr count)) =
    plug_has_state (not (is_good_range s addr count)) (nat_lt d.requested ((length d.plugged + count) * block_bytes s))
    (not (are_unplugged d.plugged (block_at s addr) count)) (d.migrating || refused)
answer_has_state s d refused (Some (Unplug addr count)) =
    unplug_has_state (not (is_good_range s addr count)) (not (are_plugged d.plugged (block_at s addr) count)) (d.migrating || refused)
answer_has_state s d refused (Some UnplugAll) = all_has_state (length d.plugged == 0) (d.migrating || refused)
answer_has_state s d refused (Some (State addr count)) =
    state_has_state (not (is_good_range s addr count)) (range_state d.plugged (block_at s addr) count)
    (two_at_most (are_plugged d.plugged (block_at s addr) count) (are_unplugged d.plugged (block_at s addr) count))

-- the device's actions, each of whose responses is its answer
act_has_state : (s : Sizes) (d : DeviceState) (calls : Calls) (act : DeviceAct) (notices : List Notice) → IsAnswered s d calls act notices → HasActState act
act_has_state s d calls (acts.Requested size) notices is = tt
act_has_state s d calls (acts.Request bytes response) notices is =
    subst HasState (sym is) (answer_has_state s d (tells_refusal notices || backing_refuses s d calls (request_in bytes)) (request_in bytes))
act_has_state s d calls (acts.Join key) notices is = tt
act_has_state s d calls acts.JoinRefused notices is = tt
act_has_state s d calls (acts.Leave key) notices is = tt
act_has_state s d calls acts.Begin notices is = tt
act_has_state s d calls acts.Cancel notices is = tt
act_has_state s d calls acts.Finish notices is = tt

actions_have_states : (s : Sizes) (d : DeviceState) (calls : Calls) (device : List DeviceAction) → AreAnswered s d calls device → AllByRecursion (λ a. HasActState a.act) device
actions_have_states s d calls [] answered = tt
actions_have_states s d calls (a ∷ actions) answered =
    (act_has_state s d calls a.act a.notices answered.0, actions_have_states s (after_act s d a.act) (calls_after_act s d calls a.act) actions answered.1)

-- the response in a command's line is that of its action
response_has_state : (device : List DeviceAction) (bytes : List ℕ) (response : Response) → map (λ (a : DeviceAction). a.act) device ≡ acts.Request bytes response ∷ [] → AllByRecursion (λ a. HasActState a.act) device → HasState response
response_has_state [] bytes response sent all = absurd (cc)
response_has_state (a ∷ actions) bytes response sent all =
    let is : a.act ≡ acts.Request bytes response = cc in
    subst (λ (act : DeviceAct). HasActState act) is all.0

result_has_state : (E : Evacuates) (before : List SpaceAction) (s : Sizes) (d : DeviceState) (command : HostCommand) (result : HostResult) (tried : List Tried) (actions : List SpaceAction) (device : List DeviceAction)
    → IsDoneBy E before s d command result tried actions device → AllByRecursion (λ a. HasActState a.act) device → HasResultState result
result_has_state E before s d (commands.Request bytes) (results.Answered response) tried actions device is all = response_has_state device bytes response is.sent all
result_has_state E before s d (commands.Request bytes) results.Unsent tried actions device is all = tt
result_has_state E before s d (commands.Request bytes) (results.Config config) tried actions device is all = absurd is
result_has_state E before s d commands.Config result tried actions device is all = subst HasResultState (sym is.told) tt

runs_have_states : (E : Evacuates) (before : List SpaceAction) (s : Sizes) (d : DeviceState) (runs : List HostRun) (actions : List SpaceAction) (device : List DeviceAction) → AreDoneBy E before s d runs actions device
    → AllByRecursion (λ a. HasActState a.act) device → AllByRecursion (λ x. HasResultState x.line.result) runs
runs_have_states E before s d [] actions device done all = tt
runs_have_states E before s d (x ∷ xs) actions device done all =
    let both = all_parts (λ (a : DeviceAction). HasActState a.act) done.3 done.4 (subst (λ (l : List DeviceAction). AllByRecursion (λ a. HasActState a.act) l) done.5 all) in (
      result_has_state E before s d x.command x.line.result x.line.tried done.0 done.3 done.6 both.0,
      runs_have_states E (before ++ done.0) s (device_after s d done.3) xs done.1 done.4 done.7 both.1,
    )

pub have_states : (s : Scenario) (r : Report) → IsReportOf s r → HaveStates r
have_states s r h =
    let device = actions_have_states s.geometry (device_start s) (first_of_calls s.fails) r.device_journal h.host.answered in
    let host = runs_have_states (by_truth (space_told s r) (AreWordsOf s.geometry (plain_start s) r.history)) [] s.geometry (device_start s) r.host (actions_of 0 r.space_journal) r.device_journal h.host.did device in
    record { host = host; device = device }
