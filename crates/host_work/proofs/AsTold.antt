-- Commands that unplug nothing did what the functions of the commands alone say, where each response is the device's answer by the
-- actions before it, and no listener was told of any.
use Rattle.std.proofs.Common.{◌≡◌, ℕ, suc, ◌+◌, Bool, false, ◌&&◌, List, [], ◌∷◌, ◌++◌, map, length, drop, get_or, refl, sym, ap, ◌∙◌, subst, arith}
use Rattle.std.specs.List.{range_with_len, AllByRecursion}
use Rattle.evac_model.specs.declared.device.Response.{Response}
use Rattle.evac_model.specs.declared.device_journal.DeviceAct.TheVariants as acts
use Rattle.evac_model.specs.declared.device_journal.DeviceAction.{DeviceAction}
use Rattle.evac_model.specs.declared.host.HostCommand.{HostCommand}
use Rattle.evac_model.specs.declared.host.HostCommand.TheVariants.{Request, Config}
use Rattle.evac_model.specs.declared.host.HostResult.{HostResult}
use Rattle.evac_model.specs.declared.host.HostResult.TheVariants as results
use Rattle.evac_model.specs.declared.host.HostRun.{HostRun}
use Rattle.evac_model.specs.declared.space.SpaceAction.{SpaceAction}
use Rattle.evac_model.specs.declared.tried.Tried.{Tried}
use Rattle.evac_model.specs.Counts.{Calls, is_listed}
use Rattle.evac_model.specs.DeviceAnswer.{DeviceState, request_in, device_answer, after_act, device_after}
use Rattle.evac_model.specs.DeviceJournal.{calls_after_act, calls_after, answer_to, AreAnswered}
use Rattle.evac_model.specs.Geometry.{Sizes}
use Rattle.evac_model.specs.HostCommands.{unplugs, request_action, plugged_by, host_runs}
use Rattle.evac_model.proofs.DeviceJournal.{asks_none}
use Rattle.host_work.specs.Commands.{IsDoneBy, AreDoneBy}
use Rattle.host_work.specs.PlainCommands.{IsPlain, sure_answer, onlines_of, command_result, command_actions, command_range, after_command, host_actions, host_lines, host_onlines}
use Rattle.host_work.specs.Requests.{Evacuates, WasSent}
use Rattle.host_work.proofs.Parts.{all_parts}
use Rattle.host_work.proofs.Sent.{some_inside, nothing_to_empty, nothing_taken_away, nothing_tried, back_plugged}

abbrev pub TellNobody : List DeviceAction → Type 0
TellNobody device = AllByRecursion (λ a. a.notices ≡ []) device

-- ---- answers where the backing isn't asked

sure_where_none_asked : (s : Sizes) (d : DeviceState) (calls : Calls) (bytes : List ℕ) → unplugs (request_in bytes) ≡ false → answer_to s d calls bytes ≡ sure_answer s d bytes
sure_where_none_asked s d calls bytes none =
    ap (λ (asks : Bool). device_answer s d (asks && is_listed calls) (request_in bytes)) (asks_none s d (request_in bytes) none)

-- ---- parts of the device's journal

answered_parts : (s : Sizes) (d : DeviceState) (calls : Calls) (first later : List DeviceAction) → AreAnswered s d calls (first ++ later) → AreAnswered s d calls first × AreAnswered s (device_after s d first) (calls_after s d calls first) later
answered_parts s d calls [] later answered = (tt, answered)
answered_parts s d calls (a ∷ first) later answered =
    let rest = answered_parts s (after_act s d a.act) (calls_after_act s d calls a.act) first later answered.1 in
    ((answered.0, rest.0), rest.1)

request_alone : (device : List DeviceAction) (bytes : List ℕ) (response : Response) → map (λ (a : DeviceAction). a.act) device ≡ acts.Request bytes response ∷ [] → TellNobody device → device ≡ request_action bytes response ∷ []
request_alone [] bytes response sent quiet = absurd (cc)
request_alone (a ∷ []) bytes response sent quiet =
    let is : a.act ≡ acts.Request bytes response = cc in
    let none : a.notices ≡ [] = quiet.0 in
    let same : a ≡ request_action bytes response = λ i. record { act = is i; notices = none i } in
    ap (λ (x : DeviceAction). x ∷ []) same
request_alone (a ∷ b ∷ more) bytes response sent quiet = absurd (cc)

-- ---- one command

abbrev run_of : (number : ℕ) → HostCommand → HostResult → List Tried → HostRun
run_of number command result tried = record { command = command; line = record { no = number; result = result; tried = tried } }

record IsOneAsTold (s : Sizes) (d : DeviceState) (number : ℕ) (c : HostCommand) (run : HostRun) (actions : List SpaceAction) (device : List DeviceAction) : Type 0 where
  pub told : run ≡ run_of number c (command_result s d c) []
  pub put : actions ≡ onlines_of (command_range s d c)
  pub sent : device ≡ command_actions s d c

module _ (E : Evacuates) (before : List SpaceAction) (s : Sizes) (d : DeviceState) (calls : Calls) (number : ℕ) where
  request_as_told : (bytes : List ℕ) (response : Response) (tried : List Tried) (actions : List SpaceAction) (device : List DeviceAction) → IsPlain (Request bytes) → WasSent E before s d bytes response tried actions device
      → AreAnswered s d calls device → TellNobody device → IsOneAsTold s d number (Request bytes) (run_of number (Request bytes) (results.Answered response) tried) actions device
  request_as_told bytes response tried actions device is was answered quiet =
      let alone = request_alone device bytes response was.sent quiet in
      let all : AreAnswered s d calls (request_action bytes response ∷ []) = subst (λ (l : List DeviceAction). AreAnswered s d calls l) alone answered in
      let sure : response ≡ sure_answer s d bytes = all.0 ∙ sure_where_none_asked s d calls bytes is in
      let none : tried ≡ [] = was.tried ∙ sym (nothing_tried s d (request_in bytes) is) in
      let emptied : was.emptying ≡ [] = nothing_taken_away s d (request_in bytes) is E before was.emptying was.taken_away in
      let back = back_plugged s d (request_in bytes) response is in
      record {
        told =
            ap (λ (l : List Tried). run_of number (Request bytes) (results.Answered response) l) none
            ∙ ap (λ (x : Response). run_of number (Request bytes) (results.Answered x) []) sure;
        put =
            was.made
            ∙ ((λ i. emptied i ++ back i)
            ∙ ap (λ (x : Response). onlines_of (plugged_by s (request_in bytes) x)) sure);
        sent = alone ∙ ap (λ (x : Response). request_action bytes x ∷ []) sure;
      }

  one_as_told : (c : HostCommand) (result : HostResult) (tried : List Tried) (actions : List SpaceAction) (device : List DeviceAction) → IsPlain c → IsDoneBy E before s d c result tried actions device → AreAnswered s d calls device → TellNobody device
      → IsOneAsTold s d number c (run_of number c result tried) actions device
  one_as_told (Request bytes) (results.Answered response) tried actions device is was answered quiet = request_as_told bytes response tried actions device is was answered quiet
  one_as_told (Request bytes) results.Unsent tried actions device is was answered quiet =
      absurd (some_inside was.before was.block was.behind (sym (nothing_to_empty s d (request_in bytes) is) ∙ was.blocks))
  one_as_told (Request bytes) (results.Config config) tried actions device is was answered quiet = absurd was
  one_as_told Config result tried actions device is was answered quiet = record {
    told = λ i. run_of number Config (was.told i) (was.tried i);
    put = was.nothing_made;
    sent = was.nothing_sent;
  }

-- ---- all commands

pub record AreAsTold (s : Sizes) (d : DeviceState) (number : ℕ) (commands : List HostCommand) (runs : List HostRun) (actions : List SpaceAction) (device : List DeviceAction) : Type 0 where
  pub told : runs ≡ host_runs commands (host_lines s d number commands)
  pub put : actions ≡ host_onlines s d commands
  pub sent : device ≡ host_actions s d commands

abbrev commands_in : List HostRun → List HostCommand
commands_in runs = map (λ x. x.command) runs

abbrev AreNumberedFrom : (number : ℕ) → List HostRun → Type 0
AreNumberedFrom number runs = map (λ x. x.line.no) runs ≡ range_with_len number (length (commands_in runs))

all_as_told : (E : Evacuates) (before : List SpaceAction) (s : Sizes) (d : DeviceState) (calls : Calls) (number : ℕ) (runs : List HostRun) (actions : List SpaceAction) (device : List DeviceAction) → AllByRecursion IsPlain (commands_in runs)
    → AreDoneBy E before s d runs actions device → AreAnswered s d calls device → TellNobody device → AreNumberedFrom number runs → AreAsTold s d number (commands_in runs) runs actions device
all_as_told E before s d calls number [] actions device all done answered quiet numbers = record { told = refl; put = done.0; sent = done.1 }
all_as_told E before s d calls number (x ∷ xs) actions device all done answered quiet numbers =
    let c : HostCommand = x.command in
    let cs : List HostCommand = commands_in xs in
    let first : List SpaceAction = done.0 in
    let rest : List SpaceAction = done.1 in
    let sent : List DeviceAction = done.3 in
    let later : List DeviceAction = done.4 in
    let next : number + 1 ≡ suc number = omega arith in
    let number_is : x.line.no ≡ number = ap (λ (l : List ℕ). get_or l 0 0) numbers in
    let numbers_behind : AreNumberedFrom (suc number) xs = ap (λ (l : List ℕ). drop 1 l) numbers ∙ ap (λ (n : ℕ). range_with_len n (length cs)) next in
    let answers = answered_parts s d calls sent later (subst (λ (l : List DeviceAction). AreAnswered s d calls l) done.5 answered) in
    let both = all_parts (λ (a : DeviceAction). a.notices ≡ []) sent later (subst (λ (l : List DeviceAction). TellNobody l) done.5 quiet) in
    let one = one_as_told E before s d calls x.line.no c x.line.result x.line.tried first sent all.0 done.6 answers.0 both.0 in
    let others = all_as_told E (before ++ first) s (device_after s d sent) (calls_after s d calls sent) (suc number) xs rest later all.1 done.7 answers.1 both.1 numbers_behind in
    let behind : AreAsTold s (after_command s d c) (suc number) cs xs rest later = subst (λ (l : List DeviceAction). AreAsTold s (device_after s d l) (suc number) cs xs rest later) one.sent others in
    let run : x ≡ run_of number c (command_result s d c) [] = one.told ∙ ap (λ (n : ℕ). run_of n c (command_result s d c) []) number_is in
    record {
      told = λ i. run i ∷ behind.told i;
      put = done.2 ∙ (λ i. one.put i ++ behind.put i);
      sent = done.5 ∙ (λ i. one.sent i ++ behind.sent i);
    }

pub did_as_told : (E : Evacuates) (before : List SpaceAction) (s : Sizes) (d : DeviceState) (calls : Calls) (number : ℕ) (commands : List HostCommand) (runs : List HostRun) (actions : List SpaceAction) (device : List DeviceAction)
    → AllByRecursion IsPlain commands → AreDoneBy E before s d runs actions device → AreAnswered s d calls device → AllByRecursion (λ a. a.notices ≡ []) device
    → map (λ x. x.command) runs ≡ commands → map (λ x. x.line.no) runs ≡ range_with_len number (length commands) → AreAsTold s d number commands runs actions device
did_as_told E before s d calls number commands runs actions device all done answered quiet same numbers =
    subst (λ (cs : List HostCommand). AreAsTold s d number cs runs actions device) same
    (all_as_told E before s d calls number runs actions device (subst (λ (cs : List HostCommand). AllByRecursion IsPlain cs) (sym same) all) done answered quiet
    (numbers ∙ ap (λ (cs : List HostCommand). range_with_len number (length cs)) (sym same)))
