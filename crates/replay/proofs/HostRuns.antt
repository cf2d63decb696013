-- The host goes with its lines: at the start, and after each turn of each actor.
use Rattle.std.proofs.Common.{◌≡◌, ℕ, suc, ◌<◌, false, List, [], ◌++◌, length, length-append, drop, drop-drop, sym, ap, ◌∙◌, subst, Option}
use Rattle.evac_model.specs.declared.host.HostCommand.{HostCommand}
use Rattle.evac_model.specs.declared.host.HostCommand.TheVariants.{Request, Config}
use Rattle.evac_model.specs.declared.host.HostLine.{HostLine}
use Rattle.evac_model.specs.declared.host.HostRun.{HostRun}
use Rattle.evac_model.specs.declared.scenario.Actor.{Actor}
use Rattle.evac_model.specs.declared.scenario.Scenario.{Scenario}
use Rattle.evac_model.specs.DeviceAnswer.{device_at_start}
use Rattle.evac_model.specs.HostCommands.{host_runs}
use Rattle.evac_model.specs.ScenarioLines.{HasBytes}
use Rattle.evac_model.specs.Scenarios.{IsRunnable}
use Rattle.evac_model.specs.ScenarioGrammar.{online_of}
use Rattle.evac_model.proofs.Lists.{all_weaker}
use Rattle.machine.specs.Made.{Made, made}
use Rattle.machine.specs.World.{Setting}
use Rattle.core_actors.specs.HostDid.{run_list}
use Rattle.core_actors.specs.HostHears.{host_after, line_after}
use Rattle.core_actors.specs.HostKept.{HostKept}
use Rattle.core_actors.specs.Hosts.{HostState, host_ended, host_action, host_at_start}
use Rattle.core_actors.specs.HostSpace.{IsShort}
use Rattle.core_actors.specs.Owners.{owner_ended, next_action}
use Rattle.core_actors.proofs.HostElsewhere.{host_stays}
use Rattle.core_actors.proofs.HostKept.{hosts_go_on}
use Rattle.core_actors.proofs.HostStarts.{host_kept_at_start as kept_at_start}
use Rattle.replay.specs.HostKept.{IsHostKept}
use Rattle.replay.specs.Keeping.{IsKept}
use Rattle.replay.specs.Running.{Running, line_list, owner_of, owner_acted, plugged_behind, host_acted, after_turn}
use Rattle.replay.specs.Runs.{setting, budgets_of, running_at_start}
use Rattle.replay.proofs.Acting.{setting_fits, owner_seat, may_act}
use Rattle.replay.proofs.HostLines.{start_left, line_next, runs_none, runs_more}
use Rattle.replay.proofs.Starts.{setting_is, may_start}
use Rattle.replay.proofs.TurnCases.{turn_cases}

-- ---- a turn

module _ (s : Scenario) (m : Running) (r : IsRunnable s) (k : IsKept s m) where
  -- an owner's action leaves the host
  pub owner_leaves : (i : ℕ) → i < length m.owners → owner_ended (owner_of m.owners (suc i)) ≡ false → IsHostKept s (owner_acted m (suc i) (made (setting s) (suc i) m.world (next_action (owner_of m.owners (suc i)))))
  owner_leaves i below going = record {
    kept = host_stays (setting s) m.world (host_runs s.host m.lines) m.host (suc i) (next_action (owner_of m.owners (suc i))) (setting_fits s r) k.world (owner_seat s m k i below) (may_act s m i r k below going) k.host.kept;
    left = k.host.left;
  }

  module _ (going : host_ended m.host ≡ false) where
    abbrev acted : Made
    acted = made (setting s) 0 m.world (host_action m.host)

    abbrev line : Option HostLine
    line = line_after (plugged_behind (setting s) acted) m.host acted.heard

    abbrev after : HostState
    after = host_after (plugged_behind (setting s) acted) m.host acted.heard

    runs_are : host_runs s.host m.lines ++ run_list m.host.left line ≡ host_runs s.host (m.lines ++ line_list line)
    runs_are =
        ap (λ (left : List HostCommand). host_runs s.host m.lines ++ run_list left line) k.host.left
        ∙ sym (runs_more s.host m.lines line)

    left_is : after.left ≡ drop (length (m.lines ++ line_list line)) s.host
    left_is =
        line_next (plugged_behind (setting s) acted) m.host acted.heard
        ∙ (ap (λ (left : List HostCommand). drop (length (line_list line)) left) k.host.left
        ∙ (drop-drop (length (line_list line)) (length m.lines) s.host
        ∙ ap (λ (n : ℕ). drop n s.host) (sym (length-append m.lines (line_list line)))))

    pub host_goes_on : IsHostKept s (host_acted (setting s) m acted)
    host_goes_on = record {
      kept = subst (λ (runs : List HostRun). HostKept (setting s) acted.world runs after) runs_are (hosts_go_on (setting s) m.world (host_runs s.host m.lines) m.host (setting_fits s r) k.world k.host.kept going);
      left = left_is;
    }

pub host_kept : (s : Scenario) (m : Running) (actor : Actor) → IsRunnable s → IsKept s m → IsHostKept s (after_turn (setting s) m actor)
host_kept s m actor r k = turn_cases (setting s) m (IsHostKept s) k.host
    (λ i below going. owner_leaves s m r k i below going)
    (λ going. host_goes_on s m r k going) actor

-- ---- the start

short_one : (c : HostCommand) → HasBytes c → IsShort c
short_one (Request bytes) is = is.1
short_one Config is = tt

pub host_kept_at_start : (s : Scenario) → IsRunnable s → IsHostKept s (running_at_start s)
host_kept_at_start s r =
    let plugged : List ℕ = (device_at_start s.geometry).plugged in
    let h : HostState = host_at_start s.geometry plugged s.host in
    record {
      kept =
          subst (λ (runs : List HostRun). HostKept (setting s) (running_at_start s).world runs h) (sym (runs_none s.host))
          (subst (λ (c : Setting). HostKept c (running_at_start s).world [] h) (setting_is s)
          (kept_at_start s.geometry (online_of s) s.start (budgets_of s.owners) s.fails s.host (may_start s r) (all_weaker HasBytes IsShort short_one s.host r.commands)));
      left = start_left s.geometry plugged s.host;
    }
