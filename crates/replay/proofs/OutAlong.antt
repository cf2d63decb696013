-- A frame that is out for an owner's call, or to be given back, is so behind the owner's action.
use Rattle.std.proofs.Common.{◌≡◌, ◌≢◌, ℕ, true, false, List, [], ◌∷◌, get_or, get_or-set_other, set, refl, sym, ap, ◌∙◌, subst, Option, Some, None, IsSome}
use mathlib.Core.Logic.{dite}
use native.Mathlib.Decide.{ℕ_discrete}
use Rattle.evac_model.specs.declared.names.FrameNo.{FrameNo}
use Rattle.evac_model.specs.declared.names.Kind.{Kind}
use Rattle.evac_model.specs.declared.names.PageNo.{PageNo}
use Rattle.evac_model.specs.declared.call.Call.{Call}
use Rattle.evac_model.specs.Geometry.{Sizes}
use Rattle.evac_model.specs.SpaceJournal.{SpaceState, out_for}
use Rattle.evac_words.specs.Word.{mapped_bit, frame_of}
use Rattle.core_state.specs.declared.hand.HandFrame.{HandFrame}
use Rattle.core_state.specs.declared.held.Held.{Held}
use Rattle.core_state.specs.declared.keeper.Keeper.TheVariants.{OneOwner}
use Rattle.core_state.specs.declared.opening.Opening.{Opening}
use Rattle.core_state.specs.declared.step.MoveStep.{MoveStep}
use Rattle.core_state.specs.declared.step.MoveStep.TheVariants.{Map, Unmap}
use Rattle.core_state.specs.declared.step.Step.{Step}
use Rattle.core_state.specs.declared.view.View.{View}
use Rattle.core_state.specs.MoveSteps.{MayUnmap, AllowedMove, let_out, hand_after_unmap, view_after_move}
use Rattle.core_state.specs.Steps.{held_page}
use Rattle.core_state.specs.Views.{hand_frame}
use Rattle.core_state.specs.Words.{kind_in}
use Rattle.core_state.proofs.Holding.{for_some}
use Rattle.machine.specs.declared.action.Action.TheVariants as actions
use Rattle.machine.specs.declared.action.Heard.{Heard}
use Rattle.machine.specs.declared.action.SpaceCall.TheVariants.{Lease}
use Rattle.machine.proofs.MovesKept.{before_taken}
use Rattle.core_actors.specs.declared.place.Place.{Place}
use Rattle.core_actors.specs.declared.place.Place.TheVariants.{Between, InCall}
use Rattle.core_actors.specs.declared.place.CallPlace.{CallPlace}
use Rattle.core_actors.specs.declared.place.CallPlace.TheVariants as places
use Rattle.core_actors.specs.CallSteps.{frame_back}
use Rattle.core_actors.specs.Fits.{just_frame, as_found, has_at, seat_has as has_of, IsSeatWith, Fits}
use Rattle.core_actors.specs.FramesOut.{IsOutForCall}
use Rattle.core_actors.specs.Owners.{OwnerState, action_in, next_action, owner_after}
use Rattle.core_actors.specs.Places.{action_at, calls_behind, place_behind, ends_call, frame_owed}
use Rattle.core_actors.proofs.Asks.{first_moves, leases_at}
use Rattle.core_actors.proofs.Cases.{with_move}
use Rattle.core_actors.proofs.HeldCells.{held_page_is}
use Rattle.core_actors.proofs.LeaseKept.{first_owes, place_owes}
use Rattle.core_actors.proofs.OutForCalls.{is_out, out_to_return}
use Rattle.replay.proofs.OwnersStay.{goes_on}

-- ---- the call

module _ (st : SpaceState) (w : View) (frame size : ℕ) (some : IsSome (hand_frame w frame)) where
  -- behind the release there is no frame in hand but one to give back
  out_waiting : (left : List (PageNo × Call)) (back : Option FrameNo) → IsSeatWith size left (just_frame back) w → out_for st frame ≢ None → IsOutForCall st left back frame
  out_waiting left (Some f) has out = out_to_return st frame left f out
  out_waiting left None has out = absurd (let none = has.hand frame in cc)

  out_in : (cells : ℕ) (c : PageNo × Call) (cs : List (PageNo × Call)) (at : CallPlace) (heard : Heard) → IsSeatWith size (calls_behind c cs at) (has_at cells (place_behind cells c.1 at heard) (calls_behind c cs at)) w → IsOutForCall st (c ∷ cs) None frame
      → IsOutForCall st (calls_behind c cs at) (frame_owed (place_behind cells c.1 at heard)) frame
  out_in cells c cs (places.Zero f cell) heard has out = out
  out_in cells c cs (places.MarkZeros f) heard has out = out
  out_in cells c cs (places.Take lease) heard has out = subst (λ (b : Option FrameNo). IsOutForCall st (c ∷ cs) b frame) (sym (place_owes cells c.1 (places.Take lease) heard refl)) out
  out_in cells c cs (places.Draw lease found) heard has out = out
  out_in cells c cs (places.Load found loads) heard has out = out
  out_in cells c cs (places.Store found loads i) heard has out = out
  out_in cells c cs (places.Mark found loads) heard has out = out
  out_in cells c cs (places.Map f kind found) heard has out = out
  out_in cells c cs (places.Unmap found) heard has out = out
  out_in cells c cs (places.Release lease found loads) heard has out = out_waiting cs (frame_back c.1 lease found) has (is_out st frame (c ∷ cs) None out)

  out_at : (owner cells : ℕ) (place : Place) (left : List (PageNo × Call)) (heard : Heard) → frame_owed place ≡ None
      → (let b : OwnerState = owner_after (record { owner = owner; cells = cells; left = left; place = place }) heard in IsSeatWith size b.left (has_of b) w → IsOutForCall st left None frame → IsOutForCall st b.left (frame_owed b.place) frame)
  out_at owner cells (Between (Some f)) left heard none has out = absurd cc
  out_at owner cells (Between None) [] heard none has out = out
  out_at owner cells (Between None) (c ∷ cs) heard none has out = subst (λ (b : Option FrameNo). IsOutForCall st (c ∷ cs) b frame) (sym (first_owes cells c.1 heard)) out
  out_at owner cells (InCall at) [] heard none has out = out
  out_at owner cells (InCall at) (c ∷ cs) heard none has out = out_in cells c cs at heard has out

  -- a frame in the owner's hand is out as its call wants it after an action that gives none back
  pub out_after : (a : OwnerState) (heard : Heard) → frame_owed a.place ≡ None → IsSeatWith size (owner_after a heard).left (has_of (owner_after a heard)) w → IsOutForCall st a.left None frame
      → IsOutForCall st (owner_after a heard).left (frame_owed (owner_after a heard).place) frame
  out_after a heard none has out = out_at a.owner a.cells a.place a.left heard none has out

-- an action that ends no call, and gives no frame back
pub out_goes_on : (st : SpaceState) (a : OwnerState) (heard : Heard) (frame : ℕ) → ends_call a.place ≡ false → frame_owed a.place ≡ None → IsOutForCall st a.left (frame_owed a.place) frame
    → IsOutForCall st (owner_after a heard).left (frame_owed (owner_after a heard).place) frame
out_goes_on st a heard frame going none out =
    let g = goes_on a heard going none in
    subst (λ (l : List (PageNo × Call)). IsOutForCall st l (frame_owed (owner_after a heard).place) frame) (sym g.left)
    (subst (λ (b : Option FrameNo). IsOutForCall st a.left b frame) (none ∙ sym g.owes) out)

pub owes_none : (place : Place) (left : List (PageNo × Call)) (step : Step) → action_in place left ≡ actions.Step step → frame_owed place ≡ None
owes_none (Between (Some f)) left step is = absurd cc
owes_none (Between None) left step is = refl
owes_none (InCall at) left step is = refl

-- ---- a step on the mapping

-- it ends no call
goes_in : (c : PageNo × Call) (at : CallPlace) (step : MoveStep) → action_at c at ≡ actions.Move step → ends_call (InCall at) ≡ false
goes_in c (places.Zero frame cell) step is = refl
goes_in c (places.MarkZeros frame) step is = refl
goes_in c (places.Take lease) step is = refl
goes_in c (places.Draw lease found) step is = refl
goes_in c (places.Load found loads) step is = refl
goes_in c (places.Store found loads i) step is = refl
goes_in c (places.Mark found loads) step is = refl
goes_in c (places.Map frame kind found) step is = refl
goes_in c (places.Unmap found) step is = refl
goes_in c (places.Release lease found loads) step is = absurd cc

pub move_goes_on : (place : Place) (left : List (PageNo × Call)) (step : MoveStep) → action_in place left ≡ actions.Move step → (ends_call place ≡ false) × (frame_owed place ≡ None)
move_goes_on (Between (Some frame)) left step is = absurd cc
move_goes_on (Between None) left step is = (refl, refl)
move_goes_on (InCall at) [] step is = absurd cc
move_goes_on (InCall at) (c ∷ cs) step is = (goes_in c at step is, refl)

module _ (s : Sizes) (o : Opening) (script : List (PageNo × Call)) (v : View) (owner cells : ℕ) (st : SpaceState)
    (held_is_out : (h : Held) → v.held ≡ Some h → mapped_bit h.word ≡ 1 → out_for st (frame_of h.word) ≡ Some (record { page = h.page.0; kind = kind_in h.word })) where
  abbrev state : Place → List (PageNo × Call) → OwnerState
  state place left = record { owner = owner; cells = cells; left = left; place = place }

  -- the frames of a hand are out for these calls
  abbrev AreOut : List (PageNo × Call) → (back : Option FrameNo) → List (Option HandFrame) → Type 0
  AreOut left back hand = (f : ℕ) → IsSome (get_or hand f None) → IsOutForCall st left back f

  module _ (c : PageNo × Call) (cs : List (PageNo × Call)) (before : AreOut (c ∷ cs) None v.hand) where
    -- a frame goes from the hand
    out_map : (frame : FrameNo) → AreOut (c ∷ cs) None (set v.hand frame.0 None)
    out_map frame f some = before f (before_taken v.hand frame.0 f some)

    -- the frame of the page that a free holds comes in hand
    out_unmap : (found : ℕ) → Fits s o script v (state (InCall (places.Unmap found)) (c ∷ cs)) → AllowedMove OneOwner o v Unmap → AreOut (c ∷ cs) None (hand_after_unmap OneOwner v v.held)
    out_unmap found fits may =
        let q = for_some v.held MayUnmap may.1 in
        let h = q.0 in
        let page : h.page.0 ≡ (c.0).0 = sym (ap (λ (x : Option Held). held_page x) q.1) ∙ held_page_is o.cells c (as_found found true [] []) v.held fits.has.held in
        let out : out_for st (frame_of h.word) ≡ Some (record { page = (c.0).0; kind = kind_in h.word }) =
        held_is_out h q.1 q.2.mapped ∙ ap (λ (n : ℕ). Some (record { page = n; kind = kind_in h.word })) page in
        subst (λ (x : Option Held). AreOut (c ∷ cs) None (hand_after_unmap OneOwner v x)) (sym q.1)
        (λ f some. dite (ℕ_discrete f (frame_of h.word))
        (λ e. subst (λ (call : Call). IsOutForCall st ((c.0, call) ∷ cs) None f) (sym fits.under_way.0) (kind_in h.word, ap (λ (g : ℕ). out_for st g) e ∙ out))
        (λ ne. before f (subst (λ (x : Option HandFrame). IsSome x) (get_or-set_other v.hand (frame_of h.word) f (Some (let_out OneOwner v.cells h)) None ne) some)))

    abbrev OutBehind : MoveStep → Type 0
    OutBehind step = AllowedMove OneOwner o v step → AreOut (c ∷ cs) None (view_after_move OneOwner v step).hand

    moved_in : (at : CallPlace) (step : MoveStep) → Fits s o script v (state (InCall at) (c ∷ cs)) → action_at c at ≡ actions.Move step → OutBehind step
    moved_in (places.Zero frame cell) step fits is = absurd cc
    moved_in (places.MarkZeros frame) step fits is = absurd cc
    moved_in (places.Take lease) step fits is = absurd cc
    moved_in (places.Draw lease found) step fits is = absurd cc
    moved_in (places.Load found loads) step fits is = absurd cc
    moved_in (places.Store found loads i) step fits is = absurd cc
    moved_in (places.Mark found loads) step fits is = absurd cc
    moved_in (places.Map frame kind found) step fits is = with_move OutBehind (Map frame kind) step is (λ may. out_map frame)
    moved_in (places.Unmap found) step fits is = with_move OutBehind Unmap step is (λ may. out_unmap found fits may)
    moved_in (places.Release lease found loads) step fits is = absurd cc

  pub moved_at : (place : Place) (left : List (PageNo × Call)) (step : MoveStep) → Fits s o script v (state place left) → action_in place left ≡ actions.Move step → AllowedMove OneOwner o v step
      → AreOut left (frame_owed place) v.hand → AreOut left (frame_owed place) (view_after_move OneOwner v step).hand
  moved_at (Between (Some frame)) left step fits is may before = absurd cc
  moved_at (Between None) [] step fits is may before = absurd cc
  moved_at (Between None) (c ∷ cs) step fits is may before = absurd (first_moves c.0 c.1 step is)
  moved_at (InCall at) [] step fits is may before = absurd cc
  moved_at (InCall at) (c ∷ cs) step fits is may before = moved_in c cs before at step fits is may

-- ---- a lease

-- a frame that is out as the lease asked is out for the call
pub out_as_asked : (a : OwnerState) (page : PageNo) (kind : Kind) (st : SpaceState) (f : ℕ) → next_action a ≡ actions.Space (Lease page kind) → out_for st f ≡ Some (record { page = page.0; kind = kind })
    → IsOutForCall st a.left (frame_owed a.place) f
out_as_asked a page kind st f is out =
    let r = leases_at a.place a.left page kind is in
    subst (λ (p : Place). IsOutForCall st a.left (frame_owed p) f) (sym r.place_is) (subst (λ (l : List (PageNo × Call)). IsOutForCall st l None f) (sym r.left_is) out)
