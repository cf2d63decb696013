-- What the driver's seat has behind each action that is no step on words or mappings: the device is asked, a block is emptied,
-- taken away or put online.
use Rattle.std.proofs.Common.{◌≡◌, ℕ, ◌+◌, Bool, false, if◌then◌else◌, List, [], ◌∷◌, refl, sym, ap, subst, inl, None}
use Rattle.std.specs.Prelude.{⊤}
use Rattle.evac_model.specs.declared.host.HostCommand.{HostCommand}
use Rattle.evac_model.specs.declared.host.HostCommand.TheVariants as commands
use Rattle.evac_model.specs.declared.host.HostResult.{HostResult}
use Rattle.evac_model.specs.declared.names.BlockNo.{BlockNo}
use Rattle.evacuate.specs.declared.action.EvacAction.{EvacAction}
use Rattle.evacuate.specs.declared.action.EvacAction.TheVariants as evac
use Rattle.evacuate.specs.declared.seen.EvacSeen.{EvacSeen}
use Rattle.evacuate.specs.Evacuating.{Evacuating, after_answer, evacuation_after, action_of}
use Rattle.evacuate.specs.Tale.{Tale}
use Rattle.host_work.specs.Requests.{block_no}
use Rattle.machine.specs.declared.action.Action.{Action}
use Rattle.machine.specs.declared.action.Action.TheVariants as actions
use Rattle.machine.specs.declared.action.BlockCall.TheVariants.{Offline, Online}
use Rattle.machine.specs.declared.action.Heard.{Heard}
use Rattle.machine.specs.CellNumbers.{HaveNumbersInCells}
use Rattle.machine.specs.Consistent.{IsSetting, IsConsistent}
use Rattle.machine.specs.Made.{made}
use Rattle.machine.specs.MayMake.{MayMake}
use Rattle.machine.specs.World.{Setting, World, device_now}
use Rattle.machine.proofs.Elsewhere.{IsNoStep}
use Rattle.core_actors.specs.declared.host_place.HostPlace.{HostPlace}
use Rattle.core_actors.specs.declared.host_place.HostPlace.TheVariants as places
use Rattle.core_actors.specs.Hosts.{HostState, away, has_none, host_ended, device_call, evac_action, first_of, action_at, action_for, host_action}
use Rattle.core_actors.specs.HostHears.{result_in, answered, seen_in, with_evacuation, told, taken_on, heard_at, heard_for, host_after}
use Rattle.core_actors.specs.HostSeat.{for_page_in, Rests, IsViewAt, IsDriver, HostSeat}
use Rattle.core_actors.specs.HostSpace.{IsEmptying, IsWaiting, IsPlacedAt, HostSpace}
use Rattle.core_actors.proofs.HostAnswers.{seen_answers}
use Rattle.core_actors.proofs.HostHeldFrames.{AreOfHeldBlocks, held_frames_offline, held_frames_online, held_frames_request}
use Rattle.core_actors.proofs.HostLeases.{of_blocks, evacuation_hand}
use Rattle.core_actors.proofs.HostRests.{AreInHand, result_rests, evacuation_rests, seat_at_rest}
use Rattle.core_actors.proofs.HostViews.{driver_of}

-- the places at which the driver makes no step on words or mappings
abbrev pub IsHandPlace : HostPlace → Type 0
IsHandPlace places.Asking = ⊤
IsHandPlace places.Evacuating = ⊤
IsHandPlace (places.Moving lease at) = ⊥
IsHandPlace places.TakingAway = ⊤
IsHandPlace (places.Zeroing frame cell) = ⊥
IsHandPlace (places.MarkingZeros frame) = ⊥
IsHandPlace (places.PuttingOnline result) = ⊤

-- an evacuation asks for no step
evac_no_step : (asked : EvacAction) → IsNoStep (evac_action asked)
evac_no_step (evac.Isolate block) = tt
evac_no_step (evac.Lease block after) = tt
evac_no_step (evac.Move lease) = tt
evac_no_step (evac.GiveBack frame) = tt
evac_no_step (evac.Undo block) = tt
evac_no_step evac.Emptied = tt
evac_no_step (evac.Failed cause) = tt

module _ (c : Setting) (w : World) (h : HostState) (t : Tale) (set : IsSetting c) (k : IsConsistent c w) (d : IsDriver c.opening (driver_of w)) (rests : Rests (driver_of w)) (plugged : List ℕ) where
  -- the seat of the host behind the action
  abbrev SeatBehind : Action → (Heard → HostState) → Type 0
  SeatBehind action after = HostSeat c (made c 0 w action).world (after (made c 0 w action).heard)

  -- with no frame in hand for a page
  in_blocks : (later : World) → AreOfHeldBlocks c later → AreInHand c later None
  in_blocks later hand f has = inl (hand f has)

  -- ---- an evacuation

  -- what it is told answers what it asked
  evacuating : IsEmptying c w h t → IsWaiting h.evacuation.stage → MayMake c 0 w (evac_action (action_of h.evacuation)) → AreInHand c w (for_page_in h places.Evacuating)
      → SeatBehind (evac_action (action_of h.evacuation)) (λ heard. (told plugged h (seen_in (action_of h.evacuation) heard)).state)
  evacuating placed waits may hand =
      let e : Evacuating = h.evacuation in
      let later : World = (made c 0 w (evac_action (action_of e))).world in
      let what : EvacSeen = seen_in (action_of e) (made c 0 w (evac_action (action_of e))).heard in
      let after : Evacuating = after_answer e e.stage what in
      let is : evacuation_after e what ≡ after = ap (λ (fits : Bool). if fits then after_answer e e.stage what else e) (seen_answers c w h t placed waits) in
      let hands = evacuation_hand c w e set k e.stage waits may hand in
      subst (λ (x : Evacuating). HostSeat c later (with_evacuation plugged h x).state) (sym is)
      (seat_at_rest c w (evac_action (action_of e)) set k may (evac_no_step (action_of e)) (with_evacuation plugged h after).state _ d rests (evacuation_rests plugged h after) hands.0 hands.1)

  -- ---- the device, and blocks that are held

  module _ (hand : AreInHand c w None) where
    asking : (command : HostCommand) → MayMake c 0 w (actions.Device (device_call command)) → SeatBehind (actions.Device (device_call command)) (λ heard. (heard_at plugged command h places.Asking heard).state)
    asking (commands.Request bytes) may =
        let action : Action = actions.Device (device_call (commands.Request bytes)) in
        let given = result_in (made c 0 w action).heard in
        seat_at_rest c w action set k may tt _ None d rests (result_rests plugged (answered h (commands.Request bytes) given) given) tt
        (in_blocks (made c 0 w action).world (held_frames_request c w set k (of_blocks c w hand) bytes may))
    asking commands.Config may =
        let action : Action = actions.Device (device_call commands.Config) in
        let given = result_in (made c 0 w action).heard in
        seat_at_rest c w action set k may tt _ None d rests (result_rests plugged (answered h commands.Config given) given) tt hand

    taking_away : MayMake c 0 w (actions.Block (Offline h.evacuation.block)) → SeatBehind (actions.Block (Offline h.evacuation.block)) (λ heard. taken_on h)
    taking_away may =
        let action : Action = actions.Block (Offline h.evacuation.block) in
        seat_at_rest c w action set k may tt (taken_on h) None d rests (record { view = λ o v still. still; page = refl }) tt
        (in_blocks (made c 0 w action).world (held_frames_offline c w set k (of_blocks c w hand) h.evacuation.block may))

    putting_online : (command : HostCommand) (result : HostResult) → MayMake c 0 w (action_at command h (places.PuttingOnline result))
        → SeatBehind (action_at command h (places.PuttingOnline result)) (λ heard. (heard_at plugged command h (places.PuttingOnline result) heard).state)
    putting_online command result may =
        let block : BlockNo = block_no (first_of (away h)) in
        let action : Action = actions.Block (Online block) in
        seat_at_rest c w action set k may tt _ None d rests (result_rests plugged (record h { waiting = h.waiting + 1 }) result) tt
        (in_blocks (made c 0 w action).world (held_frames_online c w set k (of_blocks c w hand) block may))

-- ---- any of these actions

module _ (c : Setting) (w : World) (h : HostState) (t : Tale) (set : IsSetting c) (k : IsConsistent c w) (d : IsDriver c.opening (driver_of w)) (plugged : List ℕ) where
  hand_at : (command : HostCommand) (place : HostPlace) → IsHandPlace place → IsViewAt c.opening (driver_of w) place → AreInHand c w (for_page_in h place) → IsPlacedAt c w h t place
      → MayMake c 0 w (action_at command h place) → HostSeat c (made c 0 w (action_at command h place)).world (heard_at plugged command h place (made c 0 w (action_at command h place)).heard).state
  hand_at command places.Asking its view hand placed may = asking c w h t set k d view plugged hand command may
  hand_at command places.Evacuating its view hand placed may = evacuating c w h t set k d view plugged placed.0 placed.1 may hand
  hand_at command (places.Moving lease at) its view hand placed may = absurd its
  hand_at command places.TakingAway its view hand placed may = taking_away c w h t set k d view plugged hand may
  hand_at command (places.Zeroing frame cell) its view hand placed may = absurd its
  hand_at command (places.MarkingZeros frame) its view hand placed may = absurd its
  hand_at command (places.PuttingOnline result) its view hand placed may = putting_online c w h t set k d view plugged hand command result may

  hand_for : (left : List HostCommand) → has_none left ≡ false → IsHandPlace h.place → IsViewAt c.opening (driver_of w) h.place → AreInHand c w (for_page_in h h.place) → IsPlacedAt c w h t h.place
      → MayMake c 0 w (action_for left h) → HostSeat c (made c 0 w (action_for left h)).world (heard_for plugged left h (made c 0 w (action_for left h)).heard).state
  hand_for [] going its view hand placed may = absurd cc
  hand_for (command ∷ commands) going its view hand placed may = hand_at command h.place its view hand placed may

pub seat_after_hand : (c : Setting) (w : World) (h : HostState) (t : Tale) → IsSetting c → IsConsistent c w → HaveNumbersInCells c w.snapshot.words → HostSeat c w h → HostSpace c w h t → host_ended h ≡ false → IsHandPlace h.place → MayMake c 0 w (host_action h)
    → HostSeat c (made c 0 w (host_action h)).world (host_after (device_now c (made c 0 w (host_action h)).world).plugged h (made c 0 w (host_action h)).heard)
seat_after_hand c w h t set k numbers seat space going its may =
    hand_for c w h t set k seat.driver (device_now c (made c 0 w (host_action h)).world).plugged h.left going its seat.view seat.hand space.place may
