-- The seat of an owner may make the owner's next action.
use Rattle.std.proofs.Common.{◌≡◌, ℕ, true, false, List, [], ◌∷◌, refl, sym, ap, ◌∙◌, subst, Some, None, IsSome}
use Rattle.std.proofs.lemmas.Option.{get_or_from_slice_get}
use Rattle.evac_model.specs.declared.names.FrameNo.{FrameNo}
use Rattle.evac_model.specs.declared.names.Kind.{Kind}
use Rattle.evac_model.specs.declared.names.PageNo.{PageNo}
use Rattle.evac_model.specs.declared.call.Call.{Call}
use Rattle.evac_model.specs.SpaceJournal.{out_for}
use Rattle.core_state.specs.declared.step.MoveStep.{MoveStep}
use Rattle.core_state.specs.declared.step.MoveStep.TheVariants as moves
use Rattle.core_state.specs.declared.view.View.{View}
use Rattle.core_state.specs.Views.{Has, view_of, hand_frame, spent}
use Rattle.machine.specs.declared.action.Action.{Action}
use Rattle.machine.specs.declared.action.Action.TheVariants as actions
use Rattle.machine.specs.declared.action.SpaceCall.TheVariants.{Lease, Return}
use Rattle.machine.specs.World.{Setting, World, IsOwnerSeat, HasFrame, space_now}
use Rattle.machine.specs.Consistent.{IsConsistent}
use Rattle.machine.specs.MayMake.{IsOutForHeld, MayMake}
use Rattle.core_actors.specs.declared.place.Place.{Place}
use Rattle.core_actors.specs.declared.place.Place.TheVariants.{Between, InCall}
use Rattle.core_actors.specs.declared.place.CallPlace.{CallPlace}
use Rattle.core_actors.specs.declared.place.CallPlace.TheVariants.{Zero, MarkZeros, Take, Draw, Load, Store, Mark, Map, Unmap, Release}
use Rattle.core_actors.specs.Places.{action_at, frame_owed}
use Rattle.core_actors.specs.FramesOut.{IsOutForCall}
use Rattle.core_actors.specs.Owners.{OwnerState, action_in, owner_ended, next_action}
use Rattle.core_actors.specs.Actions.{IsStorableAction}
use Rattle.core_actors.specs.Fits.{as_found, IsZeroed, Fits}
use Rattle.core_actors.proofs.Cases.{with_move}
use Rattle.core_actors.proofs.Asks.{first_moves, no_block, no_device}
use Rattle.core_actors.proofs.HeldCells.{held_page_is}
use Rattle.core_actors.proofs.Allowed.{some_if, next_step_allowed, next_move_allowed, lease_allowed, return_allowed}

-- ---- the frame that an owner maps is out for the page that it holds

module _ (c : Setting) (w : World) (v : View) (script : List (PageNo × Call)) (owner cells : ℕ) where
  abbrev FitsAt : Place → List (PageNo × Call) → Type 0
  FitsAt place left = Fits c.sizes c.opening script v (record { owner = owner; cells = cells; left = left; place = place })

  -- each frame in hand is out for the call under way, or to be given back
  abbrev AreOut : Place → List (PageNo × Call) → Type 0
  AreOut place left = (frame : ℕ) → IsSome (hand_frame v frame) → IsOutForCall (space_now c w) left (frame_owed place) frame

  module _ (d : PageNo × Call) (ds : List (PageNo × Call)) where
    -- the frame is in hand, and the call is an alloc, whose page is held
    map_out : (frame : FrameNo) (kind : Kind) (found : ℕ) → FitsAt (InCall (Map frame kind found)) (d ∷ ds) → AreOut (InCall (Map frame kind found)) (d ∷ ds) → IsOutForHeld c w v (moves.Map frame kind)
    map_out frame kind found h out =
        let in_hand : IsSome (hand_frame v frame.0) = some_if (IsZeroed c.opening.cells cells) (hand_frame v frame.0) h.has.hand.1 in
        let is : out_for (space_now c w) frame.0 ≡ Some (record { page = (d.0).0; kind = kind }) =
        subst (λ (call : Call). IsOutForCall (space_now c w) ((d.0, call) ∷ ds) None frame.0) h.under_way.0 (out frame.0 in_hand) in
        is ∙ ap (λ (page : ℕ). Some (record { page = page; kind = kind })) (sym (held_page_is c.opening.cells d (as_found found true [] []) v.held h.has.held))

    move_out : (at : CallPlace) (step : MoveStep) → FitsAt (InCall at) (d ∷ ds) → AreOut (InCall at) (d ∷ ds) → action_at d at ≡ actions.Move step → IsOutForHeld c w v step
    move_out (Zero frame cell) step h out is = absurd cc
    move_out (MarkZeros frame) step h out is = absurd cc
    move_out (Take lease) step h out is = absurd cc
    move_out (Draw lease found) step h out is = absurd cc
    move_out (Load found loads) step h out is = absurd cc
    move_out (Store found loads i) step h out is = absurd cc
    move_out (Mark found loads) step h out is = absurd cc
    move_out (Map frame kind found) step h out is = with_move (IsOutForHeld c w v) (moves.Map frame kind) step is (map_out frame kind found h out)
    move_out (Unmap found) step h out is = with_move (IsOutForHeld c w v) moves.Unmap step is tt
    move_out (Release lease found loads) step h out is = absurd cc

  next_out : (place : Place) (left : List (PageNo × Call)) (step : MoveStep) → FitsAt place left → AreOut place left → action_in place left ≡ actions.Move step → IsOutForHeld c w v step
  next_out (Between (Some frame)) left step h out is = absurd cc
  next_out (Between None) [] step h out is = absurd cc
  next_out (Between None) (d ∷ ds) step h out is = absurd (first_moves d.0 d.1 step is)
  next_out (InCall at) [] step h out is = absurd cc
  next_out (InCall at) (d ∷ ds) step h out is = move_out d ds at step h out is

-- ---- an owner's next action

module _ (c : Setting) (seat : ℕ) (w : World) (script : List (PageNo × Call)) (a : OwnerState) (k : IsConsistent c w) (mine : IsOwnerSeat c seat) (going : owner_ended a ≡ false) where
  abbrev own : View
  own = view_of w.snapshot.views seat

  module _ (has : Has w.snapshot.views seat own) (fits : Fits c.sizes c.opening script own a) (storable : IsStorableAction (next_action a))
      (out : (frame : ℕ) → HasFrame w seat frame → IsOutForCall (space_now c w) a.left (frame_owed a.place) frame) where
    may_do : (x : Action) → next_action a ≡ x → MayMake c seat w x
    may_do (actions.Step step) is = record {
      actor = mine.1;
      allowed = next_step_allowed c.sizes c.opening w.snapshot.words w.snapshot.views seat own script a step has k.sound.pages fits going is (subst IsStorableAction is storable);
    }
    may_do (actions.Move step) is = record {
      actor = mine.1;
      allowed = next_move_allowed c.sizes c.opening own script a step fits going is;
      out = next_out c w own script a.owner a.cells a.place a.left step fits out is;
    }
    may_do (actions.Space (Lease page kind)) is =
        let may = lease_allowed c.sizes c.opening own script a fits page kind is in
        record { owner = mine; page = may.1; rests = may.0 }
    may_do (actions.Space (Return frame)) is =
        let may = return_allowed c.sizes c.opening own script a fits frame is in
        record { actor = mine.1; rests = may.0; has = may.1; out = k.in_hand seat frame.0 mine may.1 }
    may_do (actions.Block call) is = absurd (no_block a call is)
    may_do (actions.Device call) is = absurd (no_device a call is)
    may_do actions.Ended is = tt

pub owner_may_make : (c : Setting) (seat : ℕ) (w : World) (v : View) (script : List (PageNo × Call)) (a : OwnerState) → IsConsistent c w → IsOwnerSeat c seat → Has w.snapshot.views seat v
    → Fits c.sizes c.opening script v a → IsStorableAction (next_action a) → ((frame : ℕ) → HasFrame w seat frame → IsOutForCall (space_now c w) a.left (frame_owed a.place) frame)
    → owner_ended a ≡ false → MayMake c seat w (next_action a)
owner_may_make c seat w v script a k mine has fits storable out going =
    let is : v ≡ view_of w.snapshot.views seat = sym (get_or_from_slice_get w.snapshot.views seat v spent has) in
    may_do c seat w script a k mine going
    (subst (λ (u : View). Has w.snapshot.views seat u) is has)
    (subst (λ (u : View). Fits c.sizes c.opening script u a) is fits)
    storable out (next_action a) refl
