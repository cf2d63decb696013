-- A step on a word and a step on the mapping: what an owner's calls made then.
use Rattle.std.proofs.Common.{◌≡◌, ℕ, Bool, false, if◌then◌else◌, List, [], ◌∷◌, length, get_or, ◌+◌, refl, sym, ap, ◌∙◌, subst, Some, None}
use Rattle.evac_model.specs.declared.names.PageNo.{PageNo}
use Rattle.evac_model.specs.declared.call.Call.{Call}
use Rattle.evac_model.specs.declared.call.Call.TheVariants.{Alloc, Free, Read, Write, Add, Pin, Unpin}
use Rattle.evac_model.specs.declared.entry.Entry.{Entry}
use Rattle.evac_model.specs.declared.scenario.Scenario.{Scenario}
use Rattle.evac_model.specs.declared.space.SpaceAction.{SpaceAction}
use Rattle.evac_model.specs.Geometry.{Sizes}
use Rattle.core_state.specs.declared.keeper.Keeper.{Keeper}
use Rattle.core_state.specs.declared.opening.Opening.{Opening}
use Rattle.core_state.specs.declared.step.MoveStep.{MoveStep}
use Rattle.core_state.specs.declared.step.MoveStep.TheVariants.{Moving, Remap, Map, Unmap}
use Rattle.core_state.specs.declared.step.Step.{Step}
use Rattle.core_state.specs.declared.step.Step.TheVariants as steps
use Rattle.core_state.specs.declared.view.View.{View}
use Rattle.core_state.specs.MoveSteps.{view_after_move}
use Rattle.core_state.specs.Steps.{view_after}
use Rattle.machine.specs.declared.action.Action.TheVariants as actions
use Rattle.machine.specs.declared.action.Heard.{Heard}
use Rattle.machine.specs.declared.action.Heard.TheVariants.{Word, Nothing}
use Rattle.machine.specs.Made.{heard_by}
use Rattle.core_actors.specs.declared.action.LeaseSeen.TheVariants.{NotAsked}
use Rattle.core_actors.specs.declared.place.Place.{Place}
use Rattle.core_actors.specs.declared.place.Place.TheVariants.{Between, InCall}
use Rattle.core_actors.specs.declared.place.CallPlace.{CallPlace}
use Rattle.core_actors.specs.declared.place.CallPlace.TheVariants as places
use Rattle.core_actors.specs.CallSteps.{first_cell, values_of, reply_of}
use Rattle.core_actors.specs.Places.{first_action, action_at, frame_in, ends_call}
use Rattle.core_actors.specs.Owners.{OwnerState, action_in, next_action, owner_after}
use Rattle.core_actors.specs.Counts.{ComesTo, IsPlaced, IsUnderWay}
use Rattle.core_actors.specs.Fits.{Fits}
use Rattle.core_actors.proofs.Asks.{first_moves}
use Rattle.core_actors.proofs.Cases.{with_step}
use Rattle.core_actors.proofs.Kept.{calls_end}
use Rattle.core_actors.proofs.LeaseKept.{take_owes, place_owes, take_leases, place_leases}
use Rattle.replay.specs.CallsMade.{AreOwnersCallsMade}
use Rattle.replay.specs.Keeping.{IsInOrder}
use Rattle.replay.proofs.CallsKept.{IsAlike, calls_alike}
use Rattle.replay.proofs.CallEnds.{calls_released}
use Rattle.replay.proofs.OutAlong.{move_goes_on}

module _ (owner cells : ℕ) where
  abbrev state : Place → List (PageNo × Call) → OwnerState
  state place left = record { owner = owner; cells = cells; left = left; place = place }

  -- an action in a call that doesn't end it
  alike_in : (c : PageNo × Call) (cs : List (PageNo × Call)) (at : CallPlace) (heard : Heard) → ComesTo cells c.1 at → ends_call (InCall at) ≡ false → IsAlike (state (InCall at) (c ∷ cs)) (owner_after (state (InCall at) (c ∷ cs)) heard)
  alike_in c cs at heard way going = record {
    left = sym (calls_end c cs at) ∙ ap (λ (b : Bool). if b then cs else c ∷ cs) going;
    lease = place_leases cells c.1 at heard way going;
    back = place_owes cells c.1 at heard going;
  }

-- ---- a step on a word

module _ (sc : Scenario) (journal : List SpaceAction) (who : ℕ) (s : Sizes) (o : Opening) (script : List (PageNo × Call)) (v : View) (k : Keeper) (word owner cells : ℕ) where
  abbrev Made : OwnerState → List Entry → Type 0
  Made a es = AreOwnersCallsMade sc journal who a es

  abbrev Then : OwnerState → Step → Type 0
  Then a step = Made (owner_after a (heard_by step word)) (view_after k v step word).entries

  taken : (c : PageNo × Call) (cs : List (PageNo × Call)) (b : OwnerState) → IsAlike (state owner cells (Between None) (c ∷ cs)) b → Made (state owner cells (Between None) (c ∷ cs)) v.entries → Made b v.entries
  taken c cs b alike m = calls_alike who (state owner cells (Between None) (c ∷ cs)) b alike sc journal v.entries m

  begun : (page : PageNo) (call : Call) (cs : List (PageNo × Call)) (step : Step) → first_action (page, call) ≡ actions.Step step → Made (state owner cells (Between None) ((page, call) ∷ cs)) v.entries → Then (state owner cells (Between None) ((page, call) ∷ cs)) step
  begun page (Alloc kind) cs step is m = absurd cc
  begun page Free cs step is m = with_step (Then (state owner cells (Between None) ((page, Free) ∷ cs))) (steps.Take page) step is
      (taken (page, Free) cs _ (record { left = refl; lease = take_leases (Between None) NotAsked word refl; back = take_owes (Between None) NotAsked word refl }) m)
  begun page (Read first count) cs step is m = with_step (Then (state owner cells (Between None) ((page, Read first count) ∷ cs))) (steps.Take page) step is
      (taken (page, Read first count) cs _ (record { left = refl; lease = take_leases (Between None) NotAsked word refl; back = take_owes (Between None) NotAsked word refl }) m)
  begun page (Write first values) cs step is m = with_step (Then (state owner cells (Between None) ((page, Write first values) ∷ cs))) (steps.Take page) step is
      (taken (page, Write first values) cs _ (record { left = refl; lease = take_leases (Between None) NotAsked word refl; back = take_owes (Between None) NotAsked word refl }) m)
  begun page (Add cell value) cs step is m = with_step (Then (state owner cells (Between None) ((page, Add cell value) ∷ cs))) (steps.Take page) step is
      (taken (page, Add cell value) cs _ (record { left = refl; lease = take_leases (Between None) NotAsked word refl; back = take_owes (Between None) NotAsked word refl }) m)
  begun page Pin cs step is m = with_step (Then (state owner cells (Between None) ((page, Pin) ∷ cs))) (steps.Take page) step is
      (taken (page, Pin) cs _ (record { left = refl; lease = take_leases (Between None) NotAsked word refl; back = take_owes (Between None) NotAsked word refl }) m)
  begun page Unpin cs step is m = with_step (Then (state owner cells (Between None) ((page, Unpin) ∷ cs))) (steps.Take page) step is
      (taken (page, Unpin) cs _ (record { left = refl; lease = take_leases (Between None) NotAsked word refl; back = take_owes (Between None) NotAsked word refl }) m)

  module _ (c : PageNo × Call) (cs : List (PageNo × Call)) where
    abbrev here : CallPlace → OwnerState
    here at = state owner cells (InCall at) (c ∷ cs)

    alike : (at : CallPlace) (heard : Heard) → Fits s o script v (here at) → ends_call (InCall at) ≡ false → Made (here at) v.entries → Made (owner_after (here at) heard) v.entries
    alike at heard h going m = calls_alike who (here at) (owner_after (here at) heard) (alike_in owner cells c cs at heard h.under_way going) sc journal v.entries m

    stepped_in : (at : CallPlace) (step : Step) → Fits s o script v (here at) → IsInOrder v → owner ≡ who → action_at c at ≡ actions.Step step → Made (here at) v.entries → Then (here at) step
    stepped_in (places.Zero frame cell) step h order mine is m = with_step (Then (here (places.Zero frame cell))) (steps.Store frame cell 0) step is (alike (places.Zero frame cell) Nothing h refl m)
    stepped_in (places.MarkZeros frame) step h order mine is m = with_step (Then (here (places.MarkZeros frame))) (steps.Mark frame) step is (alike (places.MarkZeros frame) Nothing h refl m)
    stepped_in (places.Take lease) step h order mine is m = with_step (Then (here (places.Take lease))) (steps.Take c.0) step is (alike (places.Take lease) (Word word) h refl m)
    stepped_in (places.Draw lease found) step h order mine is m = with_step (Then (here (places.Draw lease found))) steps.Draw step is (alike (places.Draw lease found) (Word word) h refl m)
    stepped_in (places.Load found loads) step h order mine is m = with_step (Then (here (places.Load found loads))) (steps.Load (first_cell c.1 + length loads)) step is (alike (places.Load found loads) (Word word) h refl m)
    stepped_in (places.Store found loads i) step h order mine is m =
        with_step (Then (here (places.Store found loads i))) (steps.Store (frame_in found) (first_cell c.1 + i) (get_or (values_of loads c.1) i 0)) step is (alike (places.Store found loads i) Nothing h refl m)
    stepped_in (places.Mark found loads) step h order mine is m = with_step (Then (here (places.Mark found loads))) (steps.Mark (frame_in found)) step is (alike (places.Mark found loads) Nothing h refl m)
    stepped_in (places.Map frame kind found) step h order mine is m = absurd cc
    stepped_in (places.Unmap found) step h order mine is m = absurd cc
    stepped_in (places.Release lease found loads) step h order mine is m =
        with_step (Then (here (places.Release lease found loads))) (steps.Release (Some (record { call = c.1; reply = reply_of lease found loads c.1 }))) step is
        (calls_released sc journal who s o script v owner cells c cs lease found loads h order mine m)

  stepped_at : (place : Place) (left : List (PageNo × Call)) (step : Step) → Fits s o script v (state owner cells place left) → IsInOrder v → owner ≡ who → action_in place left ≡ actions.Step step → Made (state owner cells place left) v.entries
      → Then (state owner cells place left) step
  stepped_at (Between (Some frame)) left step h order mine is m = absurd cc
  stepped_at (Between None) [] step h order mine is m = absurd cc
  stepped_at (Between None) (c ∷ cs) step h order mine is m = begun c.0 c.1 cs step is m
  stepped_at (InCall at) [] step h order mine is m = absurd cc
  stepped_at (InCall at) (c ∷ cs) step h order mine is m = stepped_in c cs at step h order mine is m

pub calls_stepped : (sc : Scenario) (journal : List SpaceAction) (who : ℕ) (s : Sizes) (o : Opening) (script : List (PageNo × Call)) (v : View) (a : OwnerState) → Fits s o script v a → IsInOrder v → a.owner ≡ who → AreOwnersCallsMade sc journal who a v.entries
    → (k : Keeper) (step : Step) (word : ℕ) → next_action a ≡ actions.Step step → AreOwnersCallsMade sc journal who (owner_after a (heard_by step word)) (view_after k v step word).entries
calls_stepped sc journal who s o script v a h order mine m k step word is = stepped_at sc journal who s o script v k word a.owner a.cells a.place a.left step h order mine is m

-- ---- a step on the mapping

moved_entries : (k : Keeper) (v : View) (step : MoveStep) → (view_after_move k v step).entries ≡ v.entries
moved_entries k v Moving = refl
moved_entries k v (Remap frame) = refl
moved_entries k v (Map frame kind) = refl
moved_entries k v Unmap = refl

moves_alike : (owner cells : ℕ) (place : Place) (left : List (PageNo × Call)) (step : MoveStep) → IsPlaced cells place left → action_in place left ≡ actions.Move step → ends_call place ≡ false
    → IsAlike (state owner cells place left) (owner_after (state owner cells place left) Nothing)
moves_alike owner cells (Between (Some frame)) left step way is going = absurd cc
moves_alike owner cells (Between None) [] step way is going = absurd cc
moves_alike owner cells (Between None) (c ∷ cs) step way is going = absurd (first_moves c.0 c.1 step is)
moves_alike owner cells (InCall at) [] step way is going = absurd cc
moves_alike owner cells (InCall at) (c ∷ cs) step way is going = alike_in owner cells c cs at Nothing way going

pub calls_moved : (sc : Scenario) (journal : List SpaceAction) (who : ℕ) (k : Keeper) (v : View) (a : OwnerState) (step : MoveStep) → IsUnderWay a → next_action a ≡ actions.Move step → AreOwnersCallsMade sc journal who a v.entries
    → AreOwnersCallsMade sc journal who (owner_after a Nothing) (view_after_move k v step).entries
calls_moved sc journal who k v a step way is m =
    subst (λ (es : List Entry). AreOwnersCallsMade sc journal who (owner_after a Nothing) es) (sym (moved_entries k v step))
    (calls_alike who a (owner_after a Nothing) (moves_alike a.owner a.cells a.place a.left step way is (move_goes_on a.place a.left step is).0) sc journal v.entries m)
