-- Each owner's leases and returns are those of its calls, after each turn of each actor.
use Rattle.std.proofs.Common.{◌≡◌, ◌≢◌, ℕ, suc, ◌-◌, ◌<◌, false, List, [], length, length-set, get_or-set_same, refl, sym, ap, subst, arith, Option, Some, None}
use Rattle.std.specs.List.{slice_get}
use Rattle.evac_model.specs.declared.entry.Entry.{Entry}
use Rattle.evac_model.specs.declared.names.FrameNo.{FrameNo}
use Rattle.evac_model.specs.declared.names.Kind.{Kind}
use Rattle.evac_model.specs.declared.names.PageNo.{PageNo}
use Rattle.evac_model.specs.declared.scenario.Actor.{Actor}
use Rattle.evac_model.specs.declared.scenario.Scenario.{Scenario}
use Rattle.evac_model.specs.Pairing.{actions_of}
use Rattle.evac_model.specs.Scenarios.{IsRunnable}
use Rattle.evac_model.specs.ScenarioGrammar.{online_of}
use Rattle.evac_model.specs.Scripts.{script_of}
use Rattle.evac_model.specs.SpaceJournal.{Leased, lease_of, space_at_start, IsLeasable}
use Rattle.core_state.specs.declared.keeper.Keeper.TheVariants.{OneOwner}
use Rattle.core_state.specs.declared.step.MoveStep.{MoveStep}
use Rattle.core_state.specs.declared.step.Step.{Step}
use Rattle.core_state.specs.declared.view.View.{View}
use Rattle.core_state.specs.MoveSteps.{view_after_move}
use Rattle.core_state.specs.Steps.{view_after}
use Rattle.core_state.specs.Stepped.{word_found}
use Rattle.core_state.specs.Views.{Has, view_of, spent}
use Rattle.core_state.proofs.Lists.{within}
use Rattle.space.specs.JournaledSpace.{JournaledSpace}
use Rattle.space.proofs.Leases.{refused_none}
use Rattle.machine.specs.declared.action.Action.{Action}
use Rattle.machine.specs.declared.action.Action.TheVariants as actions
use Rattle.machine.specs.declared.action.SpaceCall.TheVariants.{Lease, Return}
use Rattle.machine.specs.Made.{Made, step_made, move_made, lease_made, return_made, made}
use Rattle.machine.specs.MayMake.{MayMake}
use Rattle.machine.specs.World.{World, free_seat, space_now}
use Rattle.machine.proofs.HandedFrames.{giver_after, receiver_after}
use Rattle.machine.proofs.SpaceNow.{space_is}
use Rattle.core_actors.specs.Hosts.{host_ended, host_action}
use Rattle.core_actors.specs.Owners.{OwnerState, owner_ended, next_action, owner_after}
use Rattle.core_actors.proofs.Asks.{owners_action}
use Rattle.replay.specs.CallsMade.{AreOwnersCallsMade, AreCallsMade}
use Rattle.replay.specs.Keeping.{IsKept}
use Rattle.replay.specs.Running.{Running, owner_of, owner_acted, host_acted, after_turn}
use Rattle.replay.specs.Runs.{opening, setting}
use Rattle.replay.proofs.Acting.{setting_fits, owner_view, may_act, host_may_act}
use Rattle.replay.proofs.CallLeases.{calls_after_lease, calls_after_refusal, calls_after_return}
use Rattle.replay.proofs.CallPlaces.{LeavesOthers, leaves}
use Rattle.replay.proofs.CallSteps.{calls_stepped, calls_moved}
use Rattle.replay.proofs.SeatsInPlace.{FitsAt, owner_had, each_owner}
use Rattle.replay.proofs.SeatTurns.{actor_at, actor_has, actor_fits, seat_there, free_there, free_apart}
use Rattle.replay.proofs.TurnCases.{turn_cases}

-- ---- the calls of others

module _ (s : Scenario) (m : Running) (r : IsRunnable s) (kept : IsKept s m) (seat : ℕ) (x : Action) (may : MayMake (setting s) seat m.world x) where
  abbrev then : World
  then = (made (setting s) seat m.world x).world

  left : LeavesOthers s m.world.space then.space seat
  left = leaves s m.world seat x may

  -- those of an owner whose seat is as it was
  owners_left : (j : ℕ) (c : OwnerState) (u : View) → suc j ≢ seat → slice_get m.owners j ≡ Some c → Has m.world.snapshot.views (suc j) u → AreOwnersCallsMade s then.space (suc j) c u.entries
  owners_left j c u other at has = left.calls (suc j) other c u.entries (kept.calls.owners j c u at has)

  nobody_else : (who : ℕ) → who ≢ seat → length m.owners < who → actions_of who then.space ≡ []
  nobody_else who other far = left.none who other (kept.calls.others who far)

-- ---- an owner's calls behind its action

module _ (s : Scenario) (m : Running) (r : IsRunnable s) (kept : IsKept s m) (i : ℕ) (below : i < length m.owners) (going : owner_ended (owner_of m.owners (suc i)) ≡ false) where
  abbrev a : OwnerState
  a = owner_of m.owners (suc i)

  abbrev v : View
  v = owner_view m i

  abbrev views : List View
  views = m.world.snapshot.views

  abbrev free : ℕ
  free = free_seat (setting s)

  has : Has views (suc i) v
  has = actor_has s m r kept i below going

  fit : FitsAt s i a v
  fit = actor_fits s m r kept i below going

  mine : AreOwnersCallsMade s m.world.space (suc i) a v.entries
  mine = kept.calls.owners i a v (actor_at s m r kept i below going) has

  seat_is : suc i < length views
  seat_is = seat_there s m r kept i below going

  free_is : free < length views
  free_is = free_there s m r kept i below going

  apart : free ≢ suc i
  apart = free_apart s m r kept i below going

  abbrev AreCallsBehind : Made → Type 0
  AreCallsBehind x = AreOwnersCallsMade s x.world.space (suc i) (owner_after a x.heard) (view_of x.world.snapshot.views (suc i)).entries

  -- with these entries in its view then
  with_entries : (x : Made) (es : List Entry) → (view_of x.world.snapshot.views (suc i)).entries ≡ es → AreOwnersCallsMade s x.world.space (suc i) (owner_after a x.heard) es → AreCallsBehind x
  with_entries x es is calls = subst (λ (l : List Entry). AreOwnersCallsMade s x.world.space (suc i) (owner_after a x.heard) l) (sym is) calls

  calls_step : (step : Step) → next_action a ≡ actions.Step step → AreCallsBehind (step_made (setting s) (suc i) m.world step)
  calls_step step is =
      let found : ℕ = word_found (opening s) m.world.snapshot.words v step in
      let w : View = view_after OneOwner v step found in
      with_entries (step_made (setting s) (suc i) m.world step) w.entries (ap (λ (u : View). u.entries) (get_or-set_same views (suc i) w spent seat_is))
      (calls_stepped s m.world.space (suc i) s.geometry (opening s) (script_of s.owners (suc i)) v a fit.1 (kept.seats.in_order (suc i) v has) fit.0 mine OneOwner step found is)

  calls_move : (step : MoveStep) → next_action a ≡ actions.Move step → AreCallsBehind (move_made (suc i) m.world step)
  calls_move step is =
      let w : View = view_after_move OneOwner v step in
      with_entries (move_made (suc i) m.world step) w.entries (ap (λ (u : View). u.entries) (get_or-set_same views (suc i) w spent seat_is))
      (calls_moved s m.world.space (suc i) OneOwner v a step fit.1.under_way is mine)

  -- the space with its journal
  abbrev space_here : JournaledSpace
  space_here = record { sizes = s.geometry; online = online_of s; opening = space_at_start s.geometry s.start; journal = m.world.space }

  none_free : (kind : Kind) → lease_of s.geometry (online_of s) (space_now (setting s) m.world) (suc i) kind ≡ None → (frame : ℕ) → ¬ IsLeasable s.geometry (online_of s) (space_now (setting s) m.world) kind frame
  none_free kind none = (refused_none space_here (suc i) kind r.limits (space_is (setting s) m.world (setting_fits s r) kept.world)).0 none

  calls_lease : (page : PageNo) (kind : Kind) → next_action a ≡ actions.Space (Lease page kind) → (got : Option Leased) → lease_of s.geometry (online_of s) (space_now (setting s) m.world) (suc i) kind ≡ got
      → AreCallsBehind (lease_made (setting s) (suc i) m.world page kind got)
  calls_lease page kind is None none = calls_after_refusal s m.world.space (suc i) v.entries a mine page kind is (none_free kind none)
  calls_lease page kind is (Some l) some = with_entries (lease_made (setting s) (suc i) m.world page kind (Some l)) v.entries
      (ap (λ (u : View). u.entries) (receiver_after views free (suc i) apart free_is seat_is l.frame 1))
      (calls_after_lease s m.world.space (suc i) v.entries a mine page kind is (record { 0 = l.frame }))

  calls_return : (frame : FrameNo) → next_action a ≡ actions.Space (Return frame) → AreCallsBehind (return_made (setting s) (suc i) m.world frame)
  calls_return frame is = with_entries (return_made (setting s) (suc i) m.world frame) v.entries
      (ap (λ (u : View). u.entries) (giver_after views (suc i) free (λ e. apart (sym e)) seat_is free_is frame.0 1))
      (calls_after_return s m.world.space (suc i) v.entries a mine frame is)

  calls_behind : (x : Action) → next_action a ≡ x → AreCallsBehind (made (setting s) (suc i) m.world x)
  calls_behind (actions.Step step) is = calls_step step is
  calls_behind (actions.Move step) is = calls_move step is
  calls_behind (actions.Space (Lease page kind)) is = calls_lease page kind is (lease_of s.geometry (online_of s) (space_now (setting s) m.world) (suc i) kind) refl
  calls_behind (actions.Space (Return frame)) is = calls_return frame is
  calls_behind (actions.Block call) is = absurd (owners_action a (actions.Block call) going is)
  calls_behind (actions.Device call) is = absurd (owners_action a (actions.Device call) going is)
  calls_behind actions.Ended is = absurd (owners_action a actions.Ended going is)

-- ---- a turn

module _ (s : Scenario) (m : Running) (r : IsRunnable s) (kept : IsKept s m) where
  module _ (i : ℕ) (below : i < length m.owners) (going : owner_ended (owner_of m.owners (suc i)) ≡ false) where
    abbrev x : Action
    x = next_action (owner_of m.owners (suc i))

    abbrev acted : Made
    acted = made (setting s) (suc i) m.world x

    abbrev b : OwnerState
    b = owner_after (owner_of m.owners (suc i)) acted.heard

    may : MayMake (setting s) (suc i) m.world x
    may = may_act s m i r kept below going

    owner_calls : AreCallsMade s (owner_acted m (suc i) acted)
    owner_calls = record {
      owners = each_owner s m r kept (suc i) x may i refl b (λ j c u. AreOwnersCallsMade s acted.world.space (suc j) c u.entries)
          (calls_behind s m r kept i below going x refl) (owners_left s m r kept (suc i) x may);
      others = λ who far.
          let long = length-set m.owners (suc i - 1) b in
          nobody_else s m r kept (suc i) x may who (λ e. omega arith) (omega arith);
    }

  host_calls : host_ended m.host ≡ false → AreCallsMade s (host_acted (setting s) m (made (setting s) 0 m.world (host_action m.host)))
  host_calls going =
      let may = host_may_act s m r kept going in
      record {
        owners = λ j c u at has.
            let ne : suc j ≢ 0 = λ e. omega arith in
            owners_left s m r kept 0 (host_action m.host) may j c u ne at (owner_had s m r kept 0 (host_action m.host) may j u (within m.owners j c at) ne has);
        others = λ who far. nobody_else s m r kept 0 (host_action m.host) may who (λ e. omega arith) far;
      }

pub calls_made : (s : Scenario) (m : Running) (actor : Actor) → IsRunnable s → IsKept s m → AreCallsMade s (after_turn (setting s) m actor)
calls_made s m actor r kept = turn_cases (setting s) m (AreCallsMade s) kept.calls
    (λ i below going. owner_calls s m r kept i below going)
    (λ going. host_calls s m r kept going) actor
