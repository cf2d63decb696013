-- The run is kept: from the start on, and by each turn.
use Rattle.std.proofs.Common.{◌≡◌, ℕ, zero, suc, ◌+◌, List, [], ◌∷◌, slice_get, refl, sym, ap, ◌∙◌, subst, arith, Option, Some, None}
use Rattle.std.proofs.lemmas.Option.{none-some, same_Some}
use Rattle.evac_model.specs.declared.call.Call.{Call}
use Rattle.evac_model.specs.declared.entry.Entry.{Entry}
use Rattle.evac_model.specs.declared.names.FrameNo.{FrameNo}
use Rattle.evac_model.specs.declared.names.PageNo.{PageNo}
use Rattle.evac_model.specs.declared.scenario.Actor.{Actor}
use Rattle.evac_model.specs.declared.scenario.Scenario.{Scenario}
use Rattle.evac_model.specs.Scenarios.{IsRunnable}
use Rattle.core_actors.specs.declared.action.LeaseSeen.{LeaseSeen}
use Rattle.core_actors.specs.declared.action.LeaseSeen.TheVariants.{NotAsked}
use Rattle.core_actors.specs.Hosts.{host_action}
use Rattle.core_actors.specs.Owners.{OwnerState, owner_at_start, next_action}
use Rattle.core_actors.specs.Places.{lease_seen, frame_owed}
use Rattle.machine.specs.Consistent.{IsConsistent}
use Rattle.machine.proofs.ActionsKept.{action_kept}
use Rattle.replay.specs.CallsMade.{made_under_way, owed, IsRefusedNow, AreOwnersCallsMade, AreCallsMade}
use Rattle.replay.specs.Keeping.{IsKept}
use Rattle.replay.specs.Running.{Running, owner_of, after_turn}
use Rattle.replay.specs.Runs.{owners_from, setting, running_at_start}
use Rattle.replay.proofs.Acting.{setting_fits, may_act, host_may_act}
use Rattle.replay.proofs.CallEnds.{waits, not_refused}
use Rattle.replay.proofs.CallTurns.{calls_made}
use Rattle.replay.proofs.HostRuns.{host_kept, host_kept_at_start}
use Rattle.replay.proofs.OutKept.{frames_kept}
use Rattle.replay.proofs.SeatTurns.{seats_kept}
use Rattle.replay.proofs.Starts.{world_at_start_kept, seats_at_start, frames_at_start, new_at_start}
use Rattle.replay.proofs.TurnCases.{turn_cases}

-- ---- the calls at the start

-- an owner that hasn't asked for a frame, and has none to give back
record HasAskedNothing (a : OwnerState) : Type 0 where
  pub lease : lease_seen a.place ≡ NotAsked
  pub back : frame_owed a.place ≡ None

asked_nothing : (cells k : ℕ) (scripts : List (List (PageNo × Call))) (i : ℕ) (a : OwnerState) → slice_get (owners_from cells k scripts) i ≡ Some a → HasAskedNothing a
asked_nothing cells k [] i a at = absurd (none-some a at)
asked_nothing cells k (c ∷ cs) zero a at = subst (λ (b : OwnerState). HasAskedNothing b) (same_Some (owner_at_start k cells c) a at) (record { lease = refl; back = refl })
asked_nothing cells k (c ∷ cs) (suc i) a at = asked_nothing cells (k + 1) cs i a at

none_made : (s : Scenario) (who : ℕ) (a : OwnerState) → HasAskedNothing a → AreOwnersCallsMade s [] who a []
none_made s who a h = record {
  made = record {
    ended = [];
    made = refl;
    whole = ap (λ (f : Option FrameNo). owed who f) h.back ∙ sym (ap (λ (l : LeaseSeen). made_under_way who a.left l) h.lease ∙ waits who a.left);
  };
  refused = λ e kind at there is reply. absurd (let lt = there.1 in omega arith);
  now = subst (λ (l : LeaseSeen). IsRefusedNow s [] who [] a.left l) (sym h.lease) (not_refused s [] who [] a.left);
}

calls_at_start : (s : Scenario) → IsRunnable s → AreCallsMade s (running_at_start s)
calls_at_start s r = record {
  owners = λ i a v at has.
      subst (λ (l : List Entry). AreOwnersCallsMade s [] (suc i) a l) (sym (new_at_start s r (suc i) v has).entries)
      (none_made s (suc i) a (asked_nothing s.geometry.cells 1 s.owners i a at));
  others = λ who which. refl;
}

-- ---- the world behind a turn

world_kept : (s : Scenario) (m : Running) (actor : Actor) → IsRunnable s → IsKept s m → IsConsistent (setting s) (after_turn (setting s) m actor).world
world_kept s m actor r kept = turn_cases (setting s) m (λ n. IsConsistent (setting s) n.world) kept.world
    (λ i below going. action_kept (setting s) (suc i) m.world (next_action (owner_of m.owners (suc i))) (setting_fits s r) kept.world (may_act s m i r kept below going))
    (λ going. action_kept (setting s) 0 m.world (host_action m.host) (setting_fits s r) kept.world (host_may_act s m r kept going))
    actor

-- ---- the run

pub starts_are_kept : (s : Scenario) → IsRunnable s → IsKept s (running_at_start s)
starts_are_kept s r =
    record { world = world_at_start_kept s r; seats = seats_at_start s r; frames = frames_at_start s r; calls = calls_at_start s r; host = host_kept_at_start s r }

pub turns_are_kept : (s : Scenario) (m : Running) (actor : Actor) → IsRunnable s → IsKept s m → IsKept s (after_turn (setting s) m actor)
turns_are_kept s m actor r kept = record {
  world = world_kept s m actor r kept;
  seats = seats_kept s m actor r kept;
  frames = frames_kept s m actor r kept;
  calls = calls_made s m actor r kept;
  host = host_kept s m actor r kept;
}
