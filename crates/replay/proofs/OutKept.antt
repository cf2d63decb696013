-- Behind each turn a frame in an owner's hand is out for its call, or to be given back.
use Rattle.std.proofs.Common.{◌≡◌, ◌≢◌, ℕ, suc, ◌-◌, ◌<◌, false, List, length, length-set, get_or-set_same, set, slice_get, refl, sym, ap, ◌∙◌, subst, arith, Option, Some, None, IsSome}
use Rattle.std.proofs.lemmas.Option.{get_or_from_slice_get}
use mathlib.Core.Logic.{dite}
use native.Mathlib.Decide.{ℕ_discrete}
use Rattle.evac_model.specs.declared.names.FrameNo.{FrameNo}
use Rattle.evac_model.specs.declared.names.Kind.{Kind}
use Rattle.evac_model.specs.declared.names.PageNo.{PageNo}
use Rattle.evac_model.specs.declared.scenario.Actor.{Actor}
use Rattle.evac_model.specs.declared.scenario.Scenario.{Scenario}
use Rattle.evac_model.specs.Scenarios.{IsRunnable}
use Rattle.evac_model.specs.ScenarioGrammar.{online_of}
use Rattle.evac_model.specs.Scripts.{script_of}
use Rattle.evac_model.specs.SpaceJournal.{SpaceState, Leased, out_for, lease_of}
use Rattle.core_state.specs.declared.hand.HandFrame.{HandFrame}
use Rattle.core_state.specs.declared.keeper.Keeper.TheVariants.{OneOwner}
use Rattle.core_state.specs.declared.step.MoveStep.{MoveStep}
use Rattle.core_state.specs.declared.step.Step.{Step}
use Rattle.core_state.specs.declared.view.View.{View}
use Rattle.core_state.specs.MoveSteps.{view_after_move}
use Rattle.core_state.specs.Steps.{view_after}
use Rattle.core_state.specs.Stepped.{word_found}
use Rattle.core_state.specs.Views.{Has, view_of, spent, hand_frame}
use Rattle.core_state.proofs.Lists.{within}
use Rattle.core_state.proofs.Rooms.{seat_has}
use Rattle.machine.specs.declared.action.Action.{Action}
use Rattle.machine.specs.declared.action.Action.TheVariants as actions
use Rattle.machine.specs.declared.action.Heard.{Heard}
use Rattle.machine.specs.declared.action.Heard.TheVariants as heard
use Rattle.machine.specs.declared.action.SpaceCall.TheVariants.{Lease, Return}
use Rattle.machine.specs.Consistent.{IsConsistent}
use Rattle.machine.specs.Made.{Made, heard_by, step_made, move_made, lease_made, return_made, made}
use Rattle.machine.specs.MayMake.{MayStep, MayMove, MayLease, MayMake}
use Rattle.machine.specs.World.{World, free_seat, HasFrame, space_now}
use Rattle.machine.proofs.Elsewhere.{other_out}
use Rattle.machine.proofs.LeasesKept.{lease_hands, lease_here, lease_out}
use Rattle.machine.proofs.MovesKept.{held_out}
use Rattle.machine.proofs.OneFrame.{receiver_still}
use Rattle.machine.proofs.StepsKept.{hand_before}
use Rattle.core_actors.specs.declared.place.Place.{Place}
use Rattle.core_actors.specs.Fits.{seat_has as has_of, IsZeroed, HasInHand}
use Rattle.core_actors.specs.FramesOut.{IsOutForCall}
use Rattle.core_actors.specs.Hosts.{host_ended, host_action}
use Rattle.core_actors.specs.Owners.{OwnerState, owner_ended, next_action, owner_after}
use Rattle.core_actors.specs.Places.{ends_call, frame_owed}
use Rattle.core_actors.proofs.Asks.{leases_at, returns_at, owners_action}
use Rattle.core_actors.proofs.OutForCalls.{not_none, out_still}
use Rattle.replay.specs.FramesInHand.{AreFramesInHand}
use Rattle.replay.specs.Keeping.{IsKept}
use Rattle.replay.specs.Running.{Running, owner_of, owner_acted, host_acted, after_turn}
use Rattle.replay.specs.Runs.{opening, setting}
use Rattle.replay.proofs.Acting.{setting_fits, owner_view, owner_seat, may_act, host_may_act}
use Rattle.replay.proofs.OutAlong.{out_after, out_goes_on, owes_none, move_goes_on, moved_at, out_as_asked}
use Rattle.replay.proofs.SeatsInPlace.{world_then, owner_had, each_owner}
use Rattle.replay.proofs.SeatTurns.{actor_at, actor_has, actor_fits, seat_there, free_there, free_apart, seat_behind}
use Rattle.replay.proofs.TurnCases.{turn_cases}

-- ---- the owner's hand behind its action

module _ (s : Scenario) (m : Running) (r : IsRunnable s) (kept : IsKept s m) (i : ℕ) (below : i < length m.owners) (going : owner_ended (owner_of m.owners (suc i)) ≡ false) where
  abbrev a : OwnerState
  a = owner_of m.owners (suc i)

  abbrev v : View
  v = owner_view m i

  abbrev views : List View
  views = m.world.snapshot.views

  abbrev st : SpaceState
  st = space_now (setting s) m.world

  before : (f : ℕ) → IsSome (hand_frame v f) → IsOutForCall st a.left (frame_owed a.place) f
  before f some = kept.frames i a f (actor_at s m r kept i below going) some

  abbrev IsHandBehind : Made → Type 0
  IsHandBehind x = (f : ℕ) → IsSome (hand_frame (view_of x.world.snapshot.views (suc i)) f) → IsOutForCall (space_now (setting s) x.world) (owner_after a x.heard).left (frame_owed (owner_after a x.heard).place) f

  hand_step : (step : Step) → next_action a ≡ actions.Step step → MayStep (setting s) (suc i) m.world step → IsHandBehind (step_made (setting s) (suc i) m.world step)
  hand_step step is may f some =
      let found : ℕ = word_found (opening s) m.world.snapshot.words v step in
      let w : View = view_after OneOwner v step found in
      let none = owes_none a.place a.left step is in
      let had : IsSome (hand_frame w f) = subst (λ (u : View). IsSome (hand_frame u f)) (get_or-set_same views (suc i) w spent (seat_there s m r kept i below going)) some in
      let seat = seat_behind s m r kept i below going (actions.Step step) is may in
      out_after st (view_of (step_made (setting s) (suc i) m.world step).world.snapshot.views (suc i)) f (opening s).cells some a (heard_by step found) none seat.fits.1.has
      (subst (λ (b : Option FrameNo). IsOutForCall st a.left b f) none (before f (hand_before OneOwner v step found f had)))

  hand_move : (step : MoveStep) → next_action a ≡ actions.Move step → MayMove (setting s) (suc i) m.world step → IsHandBehind (move_made (suc i) m.world step)
  hand_move step is may f some =
      let w : View = view_after_move OneOwner v step in
      let goes = move_goes_on a.place a.left step is in
      let has = actor_has s m r kept i below going in
      out_goes_on st a heard.Nothing f goes.0 goes.1
      (moved_at s.geometry (opening s) (script_of s.owners (suc i)) v a.owner a.cells st (λ h holds on. held_out (setting s) m.world (setting_fits s r) kept.world (suc i) v h has holds on)
      a.place a.left step (actor_fits s m r kept i below going).1 is may.allowed before f
      (subst (λ (u : View). IsSome (hand_frame u f)) (get_or-set_same views (suc i) w spent (seat_there s m r kept i below going)) some))

  module _ (page : PageNo) (kind : Kind) (is : next_action a ≡ actions.Space (Lease page kind)) (may : MayLease (setting s) (suc i) m.world page) where
    -- the call under way stays the same, whatever the lease gives
    out_then : (x : Heard) (after : SpaceState) (f : ℕ) → IsOutForCall after a.left (frame_owed a.place) f → IsOutForCall after (owner_after a x).left (frame_owed (owner_after a x).place) f
    out_then x after f out = let q = leases_at a.place a.left page kind is in out_goes_on after a x f (ap ends_call q.place_is) (ap frame_owed q.place_is) out

    module _ (l : Leased) (e : lease_of s.geometry (online_of s) st (suc i) kind ≡ Some l) where
      abbrev leased : Made
      leased = lease_made (setting s) (suc i) m.world page kind (Some l)

      abbrev st_then : SpaceState
      st_then = space_now (setting s) leased.world

      hand_leased : IsHandBehind leased
      hand_leased f some = out_then (heard.Leased (record { 0 = l.frame })) st_then f (dite (ℕ_discrete f l.frame)
          (λ same. out_as_asked a page kind st_then f is (ap (λ (g : ℕ). out_for st_then g) same ∙ lease_here (setting s) (suc i) m.world page kind l (setting_fits s r) kept.world may e))
          (λ ne.
          let hands = lease_hands (setting s) (suc i) m.world page kind l (setting_fits s r) kept.world may e in
          let stays = receiver_still (opening s) views (free_seat (setting s)) (suc i) (free_apart s m r kept i below going) (free_there s m r kept i below going) (seat_there s m r kept i below going) l.frame hands f ne in
          out_still st f st_then a.left (frame_owed a.place) (lease_out (setting s) (suc i) m.world page kind l (setting_fits s r) kept.world may e f ne) (before f (subst (λ (x : Option HandFrame). IsSome x) stays some))))

    hand_lease : (got : Option Leased) → lease_of s.geometry (online_of s) st (suc i) kind ≡ got → IsHandBehind (lease_made (setting s) (suc i) m.world page kind got)
    hand_lease None none f some = out_then (heard.NoFrame (length m.world.space)) st f (before f some)
    hand_lease (Some l) e f some = hand_leased l e f some

  -- its hand is empty behind a return
  hand_return : (frame : FrameNo) → next_action a ≡ actions.Space (Return frame) → MayMake (setting s) (suc i) m.world (actions.Space (Return frame)) → IsHandBehind (return_made (setting s) (suc i) m.world frame)
  hand_return frame is may f some =
      let w : View = view_of (return_made (setting s) (suc i) m.world frame).world.snapshot.views (suc i) in
      let seat = seat_behind s m r kept i below going (actions.Space (Return frame)) is may in
      let empty = subst (λ (p : Place). let x = has_of (owner_after (record a { place = p }) heard.Nothing) in HasInHand w x.frame (IsZeroed (opening s).cells x.zeros)) (returns_at a.place a.left frame is) seat.fits.1.has.hand in
      absurd (not_none _ some (empty f))

  hand_behind : (x : Action) → next_action a ≡ x → MayMake (setting s) (suc i) m.world x → IsHandBehind (made (setting s) (suc i) m.world x)
  hand_behind (actions.Step step) is may = hand_step step is may
  hand_behind (actions.Move step) is may = hand_move step is may
  hand_behind (actions.Space (Lease page kind)) is may = hand_lease page kind is may (lease_of s.geometry (online_of s) st (suc i) kind) refl
  hand_behind (actions.Space (Return frame)) is may = hand_return frame is may
  hand_behind (actions.Block call) is may = absurd (owners_action a (actions.Block call) going is)
  hand_behind (actions.Device call) is may = absurd (owners_action a (actions.Device call) going is)
  hand_behind actions.Ended is may = absurd (owners_action a actions.Ended going is)

-- ---- the other hands

module _ (s : Scenario) (m : Running) (r : IsRunnable s) (kept : IsKept s m) (seat : ℕ) (x : Action) (may : MayMake (setting s) seat m.world x) where
  abbrev later_world : World
  later_world = (made (setting s) seat m.world x).world

  -- the frames in a view's hand are out for the call of an owner
  abbrev pub AreOutFor : OwnerState → View → Type 0
  AreOutFor b u = (f : ℕ) → IsSome (hand_frame u f) → IsOutForCall (space_now (setting s) later_world) b.left (frame_owed b.place) f

  -- those of another owner, whose view is as it was
  pub others_out : (j : ℕ) (b : OwnerState) (u : View) → j < length m.owners → suc j ≢ seat → slice_get m.owners j ≡ Some b → Has m.world.snapshot.views (suc j) u → AreOutFor b u
  others_out j b u below ne at has f some =
      let had : HasFrame m.world (suc j) f = subst (λ (w : View). IsSome (hand_frame w f)) (sym (get_or_from_slice_get m.world.snapshot.views (suc j) u spent has)) some in
      out_still (space_now (setting s) m.world) f (space_now (setting s) later_world) b.left (frame_owed b.place)
      (other_out (setting s) seat m.world x (setting_fits s r) kept.world may (suc j) f (owner_seat s m kept j below) ne had)
      (kept.frames j b f at had)

-- ---- a turn

module _ (s : Scenario) (m : Running) (r : IsRunnable s) (kept : IsKept s m) where
  -- each owner has a seat
  there : (w : World) → IsConsistent (setting s) w → (j : ℕ) → j < length m.owners → Has w.snapshot.views (suc j) (view_of w.snapshot.views (suc j))
  there w k j lt = seat_has w.snapshot.views (suc j) (let n = kept.seats.owners in let seats = k.seats in omega arith)

  module _ (i : ℕ) (below : i < length m.owners) (going : owner_ended (owner_of m.owners (suc i)) ≡ false) where
    abbrev x : Action
    x = next_action (owner_of m.owners (suc i))

    abbrev acted : Made
    acted = made (setting s) (suc i) m.world x

    may_make : MayMake (setting s) (suc i) m.world x
    may_make = may_act s m i r kept below going

    abbrev b : OwnerState
    b = owner_after (owner_of m.owners (suc i)) acted.heard

    owner_frames : AreFramesInHand s (owner_acted m (suc i) acted)
    owner_frames j c f at some =
        let lt : j < length m.owners = let l = length-set m.owners (suc i - 1) b in let q = within (set m.owners (suc i - 1) b) j c at in omega arith in
        each_owner s m r kept (suc i) x may_make i refl b (λ k d u. AreOutFor s m r kept (suc i) x may_make d u)
        (hand_behind s m r kept i below going x refl may_make)
        (λ k d u ne is has. others_out s m r kept (suc i) x may_make k d u (within m.owners k d is) ne is has)
        j c (view_of acted.world.snapshot.views (suc j)) at (there acted.world (world_then s m r kept (suc i) x may_make) j lt) f some

  host_frames : host_ended m.host ≡ false → AreFramesInHand s (host_acted (setting s) m (made (setting s) 0 m.world (host_action m.host)))
  host_frames going j b f at some =
      let may = host_may_act s m r kept going in
      let x : Action = host_action m.host in
      let later : World = (made (setting s) 0 m.world x).world in
      let lt = within m.owners j b at in
      let ne : suc j ≢ 0 = λ e. omega arith in
      let u : View = view_of later.snapshot.views (suc j) in
      others_out s m r kept 0 x may j b u lt ne at (owner_had s m r kept 0 x may j u lt ne (there later (world_then s m r kept 0 x may) j lt)) f some

pub frames_kept : (s : Scenario) (m : Running) (actor : Actor) → IsRunnable s → IsKept s m → AreFramesInHand s (after_turn (setting s) m actor)
frames_kept s m actor r kept = turn_cases (setting s) m (AreFramesInHand s) kept.frames
    (λ i below going. owner_frames s m r kept i below going)
    (λ going. host_frames s m r kept going) actor
