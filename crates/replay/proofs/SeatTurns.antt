-- A turn keeps each owner's seat as its script has it, and those behind the owners' idle.
use Rattle.std.proofs.Common.{◌≡◌, ◌≢◌, ℕ, suc, ◌-◌, ◌<◌, false, List, [], ◌++◌, length, length-set, set, get_or-set_same, refl, sym, ◌∙◌, subst, arith, Option, Some, None}
use Rattle.std.specs.List.{slice_get}
use Rattle.std.proofs.lemmas.Option.{slice_get-get_or}
use Rattle.evac_model.specs.declared.call.Call.{Call}
use Rattle.evac_model.specs.declared.names.FrameNo.{FrameNo}
use Rattle.evac_model.specs.declared.names.Kind.{Kind}
use Rattle.evac_model.specs.declared.names.PageNo.{PageNo}
use Rattle.evac_model.specs.declared.scenario.Actor.{Actor}
use Rattle.evac_model.specs.declared.scenario.Scenario.{Scenario}
use Rattle.evac_model.specs.Scenarios.{IsRunnable}
use Rattle.evac_model.specs.ScenarioGrammar.{online_of}
use Rattle.evac_model.specs.Scripts.{script_of}
use Rattle.evac_model.specs.SpaceJournal.{Leased, lease_of}
use Rattle.evac_model.proofs.Options.{some_from_test}
use Rattle.core_state.specs.declared.keeper.Keeper.TheVariants.{OneOwner}
use Rattle.core_state.specs.declared.step.MoveStep.{MoveStep}
use Rattle.core_state.specs.declared.step.Step.{Step}
use Rattle.core_state.specs.declared.view.View.{View}
use Rattle.core_state.specs.HandOvers.{hand_without, hand_with}
use Rattle.core_state.specs.MoveSteps.{view_after_move}
use Rattle.core_state.specs.Steps.{view_after}
use Rattle.core_state.specs.Stepped.{word_found}
use Rattle.core_state.specs.Views.{Has, view_of, spent, hand_frame}
use Rattle.core_state.proofs.Lists.{within}
use Rattle.core_state.proofs.Rooms.{seat_has}
use Rattle.core_state.proofs.SeatSteps.{hand_room}
use Rattle.machine.specs.declared.action.Action.{Action}
use Rattle.machine.specs.declared.action.Action.TheVariants as actions
use Rattle.machine.specs.declared.action.SpaceCall.TheVariants.{Lease, Return}
use Rattle.machine.specs.Made.{Made, step_made, move_made, lease_made, return_made, made}
use Rattle.machine.specs.MayMake.{MayStep, MayLease, MayMake}
use Rattle.machine.specs.World.{free_seat, space_now}
use Rattle.machine.proofs.HandedFrames.{giver_after, receiver_after}
use Rattle.machine.proofs.LeasesKept.{lease_hands}
use Rattle.core_actors.specs.Fits.{Fits}
use Rattle.core_actors.specs.HostHears.{host_after, line_after}
use Rattle.core_actors.specs.Hosts.{host_ended, host_action}
use Rattle.core_actors.specs.Owners.{OwnerState, owner_at_start, owner_ended, next_action, owner_after}
use Rattle.core_actors.proofs.Asks.{owners_action}
use Rattle.core_actors.proofs.FitSteps.{fits_after_step, fits_after_move, fits_after_lease, fits_after_refusal, fits_after_return}
use Rattle.replay.specs.Keeping.{IsInOrder, AreSeatsKept, IsKept}
use Rattle.replay.specs.Running.{Running, owner_of, owner_acted, line_list, plugged_behind, host_acted, after_turn}
use Rattle.replay.specs.Runs.{opening, setting}
use Rattle.replay.proofs.Acting.{setting_fits, owner_view, owner_has, owner_fits, may_act, host_may_act}
use Rattle.replay.proofs.DriverSeat.{driver_in_order}
use Rattle.replay.proofs.HostRuns.{owner_leaves, host_goes_on}
use Rattle.replay.proofs.InOrder.{step_in_order}
use Rattle.replay.proofs.MovesInOrder.{hand_in_order, move_in_order}
use Rattle.replay.proofs.OwnersStay.{stays}
use Rattle.replay.proofs.SeatsInPlace.{FitsAt, IsOwnerKept, owner_had, each_owner, seats_then}
use Rattle.replay.proofs.TurnCases.{turn_cases}

-- ---- the seat of an owner behind its action

module _ (s : Scenario) (m : Running) (r : IsRunnable s) (kept : IsKept s m) (i : ℕ) (below : i < length m.owners) (going : owner_ended (owner_of m.owners (suc i)) ≡ false) where
  abbrev pub actor : OwnerState
  actor = owner_of m.owners (suc i)

  abbrev v : View
  v = owner_view m i

  abbrev views : List View
  views = m.world.snapshot.views

  abbrev free : ℕ
  free = free_seat (setting s)

  abbrev script : List (PageNo × Call)
  script = script_of s.owners (suc i)

  pub actor_at : slice_get m.owners i ≡ Some actor
  actor_at = slice_get-get_or m.owners i (owner_at_start 0 0 []) below

  pub actor_has : Has m.world.snapshot.views (suc i) (owner_view m i)
  actor_has = owner_has s m kept i actor actor_at

  pub actor_fits : FitsAt s i actor (owner_view m i)
  actor_fits = owner_fits s m kept i actor actor_at

  order : IsInOrder v
  order = kept.seats.in_order (suc i) v actor_has

  -- there is its seat, and that of who keeps the free frames
  pub seat_there : suc i < length m.world.snapshot.views
  seat_there = within views (suc i) v actor_has

  pub free_there : free_seat (setting s) < length m.world.snapshot.views
  free_there = let n = kept.world.seats in omega arith

  pub free_apart : free_seat (setting s) ≢ suc i
  free_apart e = let n = kept.seats.owners in absurd (omega arith)

  abbrev pub IsSeatBehind : Made → Type 0
  IsSeatBehind x = IsOwnerKept s i (owner_after actor x.heard) (view_of x.world.snapshot.views (suc i))

  -- the view that it has then
  with_view : (x : Made) (w : View) → view_of x.world.snapshot.views (suc i) ≡ w → Fits s.geometry (opening s) script w (owner_after actor x.heard) → IsInOrder w → IsSeatBehind x
  with_view x w is fits ordered =
      let t = stays actor x.heard in
      subst (λ (u : View). IsOwnerKept s i (owner_after actor x.heard) u) (sym is)
      (record { fits = (t.number ∙ actor_fits.0, fits, t.numbers actor_fits.2); order = ordered })

  seat_step : (step : Step) → next_action actor ≡ actions.Step step → MayStep (setting s) (suc i) m.world step → IsSeatBehind (step_made (setting s) (suc i) m.world step)
  seat_step step is may =
      let found : ℕ = word_found (opening s) m.world.snapshot.words v step in
      let w : View = view_after OneOwner v step found in
      with_view (step_made (setting s) (suc i) m.world step) w (get_or-set_same views (suc i) w spent seat_there)
      (fits_after_step s.geometry (opening s) v script actor actor_fits.1 OneOwner step found is)
      (step_in_order (opening s) m.world.snapshot.words v order OneOwner views (suc i) actor_has kept.world.sound.bounds step may.allowed)

  seat_move : (step : MoveStep) → next_action actor ≡ actions.Move step → IsSeatBehind (move_made (suc i) m.world step)
  seat_move step is =
      let w : View = view_after_move OneOwner v step in
      with_view (move_made (suc i) m.world step) w (get_or-set_same views (suc i) w spent seat_there)
      (fits_after_move s.geometry (opening s) v script actor actor_fits.1 m.world.snapshot.words views (suc i) step actor_has kept.world.sound is)
      (move_in_order v OneOwner step order)

  module _ (page : PageNo) (kind : Kind) (is : next_action actor ≡ actions.Space (Lease page kind)) (may : MayLease (setting s) (suc i) m.world page) where
    seat_lease : (got : Option Leased) → lease_of s.geometry (online_of s) (space_now (setting s) m.world) (suc i) kind ≡ got → IsSeatBehind (lease_made (setting s) (suc i) m.world page kind got)
    seat_lease None none = with_view (lease_made (setting s) (suc i) m.world page kind None) v refl
        (fits_after_refusal s.geometry (opening s) v script actor actor_fits.1 page kind is (length m.world.space)) order
    seat_lease (Some l) some =
        let giver : View = view_of views free in
        let hands = lease_hands (setting s) (suc i) m.world page kind l (setting_fits s r) kept.world may some in
        let x = some_from_test (hand_frame giver l.frame) (hands.in_hand l.frame (omega arith) (omega arith)) in
        with_view (lease_made (setting s) (suc i) m.world page kind (Some l)) (record v { hand = hand_with v.hand giver.hand l.frame 1 })
        (receiver_after views free (suc i) free_apart free_there seat_there l.frame 1)
        (fits_after_lease s.geometry (opening s) v script actor actor_fits.1 page kind is giver (record { 0 = l.frame }) x.0 hands x.1
        (hand_room (opening s) views kept.world.sound.seats free giver (seat_has views free free_there) l.frame x.0 x.1))
        (hand_in_order v _ order)

  seat_return : (frame : FrameNo) → next_action actor ≡ actions.Space (Return frame) → IsSeatBehind (return_made (setting s) (suc i) m.world frame)
  seat_return frame is = with_view (return_made (setting s) (suc i) m.world frame) (record v { hand = hand_without v.hand frame.0 1 })
      (giver_after views (suc i) free (λ e. free_apart (sym e)) seat_there free_there frame.0 1)
      (fits_after_return s.geometry (opening s) v script actor actor_fits.1 frame is)
      (hand_in_order v _ order)

  pub seat_behind : (x : Action) → next_action actor ≡ x → MayMake (setting s) (suc i) m.world x → IsSeatBehind (made (setting s) (suc i) m.world x)
  seat_behind (actions.Step step) is may = seat_step step is may
  seat_behind (actions.Move step) is may = seat_move step is
  seat_behind (actions.Space (Lease page kind)) is may = seat_lease page kind is may (lease_of s.geometry (online_of s) (space_now (setting s) m.world) (suc i) kind) refl
  seat_behind (actions.Space (Return frame)) is may = seat_return frame is
  seat_behind (actions.Block call) is may = absurd (owners_action actor (actions.Block call) going is)
  seat_behind (actions.Device call) is may = absurd (owners_action actor (actions.Device call) going is)
  seat_behind actions.Ended is may = absurd (owners_action actor actions.Ended going is)

  -- ---- the seats

  abbrev acted : Made
  acted = made (setting s) (suc i) m.world (next_action actor)

  abbrev b : OwnerState
  b = owner_after actor acted.heard

  may_make : MayMake (setting s) (suc i) m.world (next_action actor)
  may_make = may_act s m i r kept below going

  owner_seats_kept : AreSeatsKept s (owner_acted m (suc i) acted)
  owner_seats_kept = seats_then s m r kept (suc i) (next_action actor) may_make (set m.owners (suc i - 1) b) m.host m.lines (length-set m.owners (suc i - 1) b)
      (driver_in_order s (owner_acted m (suc i) acted) (owner_leaves s m r kept i below going))
      (each_owner s m r kept (suc i) (next_action actor) may_make i refl b (IsOwnerKept s) (seat_behind (next_action actor) refl may_make)
      (λ j c u ne at has. record { fits = kept.seats.fits j c u at has; order = kept.seats.in_order (suc j) u has }))

-- ---- the seats behind the host's action

module _ (s : Scenario) (m : Running) (r : IsRunnable s) (kept : IsKept s m) (going : host_ended m.host ≡ false) where
  abbrev host_made : Made
  host_made = made (setting s) 0 m.world (host_action m.host)

  may_go_on : MayMake (setting s) 0 m.world (host_action m.host)
  may_go_on = host_may_act s m r kept going

  host_seats_kept : AreSeatsKept s (host_acted (setting s) m host_made)
  host_seats_kept = seats_then s m r kept 0 (host_action m.host) may_go_on m.owners
      (host_after (plugged_behind (setting s) host_made) m.host host_made.heard) (m.lines ++ line_list (line_after (plugged_behind (setting s) host_made) m.host host_made.heard)) refl
      (driver_in_order s (host_acted (setting s) m host_made) (host_goes_on s m r kept going))
      (λ j c u at has.
      let had = owner_had s m r kept 0 (host_action m.host) may_go_on j u (within m.owners j c at) (λ e. omega arith) has in
      record { fits = kept.seats.fits j c u at had; order = kept.seats.in_order (suc j) u had })

-- ---- a turn

pub seats_kept : (s : Scenario) (m : Running) (actor : Actor) → IsRunnable s → IsKept s m → AreSeatsKept s (after_turn (setting s) m actor)
seats_kept s m actor r kept = turn_cases (setting s) m (AreSeatsKept s) kept.seats
    (λ i below going. owner_seats_kept s m r kept i below going)
    (λ going. host_seats_kept s m r kept going) actor
