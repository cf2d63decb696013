-- Every owner and the host have ended within the bound of the rounds.
use Rattle.std.proofs.Common.{◌≡◌, ℕ, suc, ◌+◌, ◌*◌, ◌≤◌, List, [], ◌∷◌, ◌++◌, length, refl, ap, ◌∙◌, arith, Some, add-mul}
use Rattle.std.specs.List.{sum_by, slice_get, AllByRecursion}
use Rattle.std.proofs.lemmas.List.Sums.{sum_by-cons}
use Rattle.evac_model.specs.declared.names.PageNo.{PageNo}
use Rattle.evac_model.specs.declared.call.Call.{Call}
use Rattle.evac_model.specs.declared.scenario.Actor.{Actor}
use Rattle.evac_model.specs.declared.scenario.Scenario.{Scenario}
use Rattle.std.proofs.Math.Nat.{mul-le-mul}
use Rattle.evac_model.specs.DeviceAnswer.{device_at_start}
use Rattle.evac_model.specs.Geometry.{Sizes}
use Rattle.evac_model.specs.Scenarios.{IsRunnable}
use Rattle.evac_model.specs.ScenarioGrammar.{call_count}
use Rattle.core_state.proofs.Lists.{member_le_sum_by}
use Rattle.machine.proofs.PlugAnswers.{plugged_rising}
use Rattle.core_actors.specs.CallSteps.{IsCallOf}
use Rattle.core_actors.specs.Owners.{OwnerState, owner_at_start}
use Rattle.core_actors.specs.Counts.{actions_left}
use Rattle.core_actors.specs.HostCounts.{command_most}
use Rattle.core_actors.proofs.HostCounts.{host_most, command_cost}
use Rattle.core_actors.proofs.Left.{few_at_start, none_left}
use Rattle.replay.specs.Running.{Running, after_turn, after_turns}
use Rattle.replay.specs.Schedule.{actors, named_turns, drawn_turns, rounds, schedule, round_count}
use Rattle.replay.specs.Runs.{setting, owners_from, running_at_start, AllEnded, HaveEnded}
use Rattle.replay.specs.Keeping.{IsKept}
use Rattle.replay.proofs.Acting.{setting_fits, owner_fits}
use Rattle.replay.proofs.ActionsLeft.{owner_actions_left, all_actions_left, host_none_left, TurnsKeep, turns_keep, turns_never_raise}
use Rattle.replay.proofs.Rounds.{rounds_end}
use Rattle.replay.proofs.Turns.{after_turns-append}

-- owners at the start have at most as many actions left as their calls, times the cells of a page and 6
few_from : (g : Sizes) (k : ℕ) (scripts : List (List (PageNo × Call))) → ((i : ℕ) (a : OwnerState) → slice_get (owners_from g.cells k scripts) i ≡ Some a → AllByRecursion (λ c. IsCallOf g c) a.left)
    → sum_by actions_left (owners_from g.cells k scripts) ≤ call_count scripts * (g.cells + 6)
few_from g k [] all = omega arith
few_from g k (script ∷ scripts) all =
    let here = few_at_start g k script (all 0 (owner_at_start k g.cells script) refl) in
    let later = few_from g (k + 1) scripts (λ i a at. all (suc i) a at) in
    let few = sum_by-cons actions_left (owner_at_start k g.cells script) (owners_from g.cells (k + 1) scripts) in
    let many = ap (λ (n : ℕ). n * (g.cells + 6)) (sum_by-cons (λ (x : List (PageNo × Call)). length x) script scripts) in
    let parts = add-mul (length script) (call_count scripts) (g.cells + 6) in
    omega arith

-- owners that have no action left have ended
owners_ended_at : (s : Scenario) (m : Running) → IsKept s m → owner_actions_left m.owners ≡ 0 → AllEnded m.owners
owners_ended_at s m kept none i a at =
    let fits = (owner_fits s m kept i a at).1 in
    let few = member_le_sum_by actions_left m.owners i a at in
    (none_left a fits.under_way).0 (omega arith)

-- all have ended where no action is left
ended_at : (s : Scenario) (m : Running) → IsKept s m → all_actions_left m ≡ 0 → HaveEnded m
ended_at s m kept none = record {
  owners = owners_ended_at s m kept (omega arith);
  host = (host_none_left s m kept).0 (omega arith);
}

-- the most actions that the calls and the commands of a scenario have
abbrev most_of_all : Scenario → ℕ
most_of_all s = call_count s.owners * (s.geometry.cells + 6) + length s.host * command_most s.geometry

bound_is_enough : (s : Scenario) → most_of_all s ≤ round_count s
bound_is_enough s =
    let same : length s.host ≤ length s.host = omega arith in
    omega (arith, mul-le-mul same (command_cost s.geometry))

module _ (s : Scenario) (run : IsRunnable s) (keep : TurnsKeep s) (start : IsKept s (running_at_start s)) where
  actions_at_start : all_actions_left (running_at_start s) ≤ most_of_all s
  actions_at_start =
      let owners = few_from s.geometry 1 s.owners (λ i a at. ((owner_fits s (running_at_start s) start i a at).1).belongs.calls) in
      let host = host_most s.geometry (device_at_start s.geometry).plugged s.host (plugged_rising (setting s) (running_at_start s).world (setting_fits s run) start.world) in
      omega (arith, owners, host)

  ends_within : (n : ℕ) → most_of_all s ≤ n → all_actions_left (after_turns (setting s) (running_at_start s) (schedule s n)) ≡ 0
  ends_within n enough =
      let all : List Actor = actors (length s.owners) in
      let drawn : List Actor = drawn_turns all s.drawn in
      let m : Running = after_turns (setting s) (running_at_start s) (named_turns s.named) in
      let m2 : Running = after_turns (setting s) m drawn in
      let kept = turns_keep s keep (running_at_start s) (named_turns s.named) start in
      let few = turns_never_raise s keep run (running_at_start s) (named_turns s.named) start in
      let fewer = turns_never_raise s keep run m drawn kept in
      ap all_actions_left (after_turns-append (setting s) (running_at_start s) (named_turns s.named ++ drawn) (rounds all n)
      ∙ ap (λ (w : Running). after_turns (setting s) w (rounds all n)) (after_turns-append (setting s) (running_at_start s) (named_turns s.named) drawn))
      ∙ rounds_end s run keep n m2 (turns_keep s keep m drawn kept) (omega (arith, few, fewer, actions_at_start, enough))

  all_end_within : (n : ℕ) → most_of_all s ≤ n → HaveEnded (after_turns (setting s) (running_at_start s) (schedule s n))
  all_end_within n enough =
      ended_at s (after_turns (setting s) (running_at_start s) (schedule s n)) (turns_keep s keep (running_at_start s) (schedule s n) start) (ends_within n enough)

-- the two laws that this rests on
abbrev pub StartsAreKept : Type 0
StartsAreKept = (s : Scenario) → IsRunnable s → IsKept s (running_at_start s)

abbrev pub TurnsAreKept : Type 0
TurnsAreKept = (s : Scenario) (m : Running) (actor : Actor) → IsRunnable s → IsKept s m → IsKept s (after_turn (setting s) m actor)

pub runs_end_if_kept : StartsAreKept → TurnsAreKept → (s : Scenario) → IsRunnable s → HaveEnded (after_turns (setting s) (running_at_start s) (schedule s (round_count s)))
runs_end_if_kept starts turns s run =
    all_end_within s run (λ m actor kept. turns s m actor run kept) (starts s run) (round_count s) (bound_is_enough s)
