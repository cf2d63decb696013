-- An owner's next action is allowed.
use Rattle.std.proofs.Common.{◌≡◌, inl, inr, ℕ, zero, suc, ◌+◌, ◌<◌, Bool, true, false, List, [], ◌∷◌, length, replicate, get_or, refl, ap, ◌∙◌, subst, arith, Option, Some, None, is_some, IsSome, IsSomeAnd, ◌==◌}
use Rattle.std.specs.List.{AllByRecursion, count_by}
use Rattle.evac_model.specs.declared.names.FrameNo.{FrameNo}
use Rattle.evac_model.specs.declared.names.Kind.{Kind}
use Rattle.evac_model.specs.declared.names.PageNo.{PageNo}
use Rattle.evac_model.specs.declared.call.Call.{Call}
use Rattle.evac_model.specs.declared.call.Call.TheVariants.{Alloc, Free, Read, Write, Add, Pin, Unpin}
use Rattle.evac_model.specs.Geometry.{Sizes}
use Rattle.evac_words.specs.Word.{mapped_bit, pins_of, frame_of, bit_of}
use Rattle.core_state.specs.declared.hand.HandFrame.{HandFrame}
use Rattle.core_state.specs.declared.held.Held.{Held}
use Rattle.core_state.specs.declared.keeper.Keeper.TheVariants.{OneOwner}
use Rattle.core_state.specs.declared.opening.Opening.{Opening}
use Rattle.core_state.specs.declared.step.MoveStep.{MoveStep}
use Rattle.core_state.specs.declared.step.MoveStep.TheVariants as moves
use Rattle.core_state.specs.declared.step.Step.{Step}
use Rattle.core_state.specs.declared.step.Step.TheVariants as steps
use Rattle.core_state.specs.declared.view.View.{View}
use Rattle.core_state.specs.Pages.{Pages}
use Rattle.core_state.specs.Views.{Has, maps_to, hand_frame, Owns}
use Rattle.core_state.specs.Steps.{MayTake, MayEnd, Allowed}
use Rattle.core_state.specs.MoveSteps.{MayMap, MayUnmap, InHand, AllowedMove}
use Rattle.core_state.specs.HandOvers.{IsAtRest}
use Rattle.core_state.proofs.EntryWords.{same_flags-take}
use Rattle.machine.specs.declared.action.Action.TheVariants as actions
use Rattle.machine.specs.declared.action.SpaceCall.TheVariants.{Lease, Return}
use Rattle.core_actors.specs.declared.action.LeaseSeen.{LeaseSeen}
use Rattle.core_actors.specs.declared.place.Place.{Place}
use Rattle.core_actors.specs.declared.place.Place.TheVariants.{Between, InCall}
use Rattle.core_actors.specs.declared.place.CallPlace.{CallPlace}
use Rattle.core_actors.specs.declared.place.CallPlace.TheVariants.{Zero, MarkZeros, Take, Draw, Load, Store, Mark, Map, Unmap, Release}
use Rattle.core_actors.specs.CallSteps.{IsCallOf, first_cell, reply_of, values_of}
use Rattle.core_actors.specs.Places.{frame_in, action_at}
use Rattle.core_actors.specs.Owners.{OwnerState, owner_ended, next_action}
use Rattle.core_actors.specs.Actions.{IsStorable}
use Rattle.core_actors.specs.Fits.{as_found, page_done, has_at, IsHeldAs, IsZeroed, HasInHand, IsSeatWith, Fits}
use Rattle.core_actors.proofs.Cases.{with_move, with_step}
use Rattle.core_actors.proofs.Asks.{first_moves, leases_at, returns_at}
use Rattle.core_actors.proofs.HeldCells.{loads_within, stores_within, maps_here}
use Rattle.core_actors.proofs.HasAt.{freed_page}
use Rattle.core_actors.proofs.Ending.{may_end}

-- ---- small facts

some_times : (P : HandFrame → Type 0) (x : Option HandFrame) → IsSomeAnd x P → 0 < bit_of (is_some x)
some_times P None some = absurd some
some_times P (Some x) some = omega arith

owned_in_hand : (v : View) (frame : FrameNo) (size zeros : ℕ) → HasInHand v (Some frame) (IsZeroed size zeros) → Owns v frame.0
owned_in_hand v frame size zeros has = inl (some_times (IsZeroed size zeros) (hand_frame v frame.0) has.1)

some_in : {A : Type 0} (P Q : A → Type 0) (x : Option A) → ((y : A) → P y → Q y) → IsSomeAnd x P → IsSomeAnd x Q
some_in P Q None f some = some
some_in P Q (Some y) f some = f y some

pub some_if : {A : Type 0} (P : A → Type 0) (x : Option A) → IsSomeAnd x P → IsSome x
some_if P None some = absurd some
some_if P (Some x) some = refl

no_ticket : (ticket : Option ℕ) → is_some ticket ≡ false → ticket ≡ None
no_ticket None e = refl
no_ticket (Some n) e = absurd cc

-- ---- steps

module _ (s : Sizes) (o : Opening) (words : List ℕ) (views : List View) (seat : ℕ) (v : View) (has : Has views seat v) (pages : Pages o words views) (script : List (PageNo × Call)) (owner cells : ℕ) where
  abbrev state : Place → List (PageNo × Call) → OwnerState
  state place left = record { owner = owner; cells = cells; left = left; place = place }

  module _ (c : PageNo × Call) (cs : List (PageNo × Call)) where
    take_allowed : (place : Place) → Fits s o script v (state place (c ∷ cs)) → v.held ≡ None → v.left + 0 ≡ length (c ∷ cs) → MayTake o v c.0.0
    take_allowed place h none left = record {
      seated = h.belongs.seated;
      holds_none = none;
      in_range = let below = (h.belongs.calls.0).page in let same = h.belongs.pages in omega arith;
      leave = inl (omega arith);
    }

    abbrev Holds : ℕ → Bool → List ℕ → List ℕ → Type 0
    Holds found drawn loads stores = IsSomeAnd v.held (IsHeldAs o.cells c (as_found found drawn loads stores))

    mapped_now : (found : ℕ) (loads stores : List ℕ) → mapped_bit found ≡ 1 → Holds found true loads stores → IsSomeAnd v.held (λ x. mapped_bit x.word ≡ 1)
    mapped_now found loads stores mapped h =
        some_in (IsHeldAs o.cells c (as_found found true loads stores)) (λ x. mapped_bit x.word ≡ 1) v.held (λ x p. ap (λ (w : ℕ). mapped_bit w) p.word ∙ ((same_flags-take found).mapped ∙ mapped)) h

    owned_now : (found : ℕ) (loads stores : List ℕ) → mapped_bit found ≡ 1 → Holds found true loads stores → Owns v (frame_of found)
    owned_now found loads stores mapped h =
        inr (some_in (IsHeldAs o.cells c (as_found found true loads stores)) (λ x. maps_to (frame_of found) x.word ≡ 1) v.held (λ x p. ap (λ (w : ℕ). maps_to (frame_of found) w) p.word ∙ maps_here found mapped) h)

    ends_in : (lease : LeaseSeen) (found : ℕ) (loads : List ℕ) → Fits s o script v (state (InCall (Release lease found loads)) (c ∷ cs)) → (x : Option Held) → v.held ≡ x
        → IsSomeAnd x (IsHeldAs o.cells c (page_done c.1 lease found loads)) → IsSomeAnd x (MayEnd o (record { call = c.1; reply = reply_of lease found loads c.1 }))
    ends_in lease found loads h None is some = some
    ends_in lease found loads h (Some x) is some =
        may_end s o c.0 lease found loads x h.belongs.cells ((pages.held seat v x has is).word.found_still) c.1 (h.belongs.calls.0) h.under_way.0 h.under_way.1 some

    step_in : (at : CallPlace) (step : Step) → Fits s o script v (state (InCall at) (c ∷ cs)) → action_at c at ≡ actions.Step step → IsStorable step → Allowed o v step
    step_in (Zero frame cell) step h is fits = with_step (Allowed o v) (steps.Store frame cell 0) step is
        (record { in_range = let a = h.belongs.cells in let b = h.belongs.owner_cells in let lt = h.under_way.1 in omega arith; fits = omega arith; own = owned_in_hand v frame o.cells cell h.has.hand })
    step_in (MarkZeros frame) step h is fits = with_step (Allowed o v) (steps.Mark frame) step is (owned_in_hand v frame o.cells cells h.has.hand)
    step_in (Take lease) step h is fits = with_step (Allowed o v) (steps.Take c.0) step is (take_allowed (InCall (Take lease)) h h.has.held h.has.left)
    step_in (Draw lease found) step h is fits = with_step (Allowed o v) steps.Draw step is (record {
      undrawn = some_in (IsHeldAs o.cells c (as_found found false [] [])) (λ x. x.ticket ≡ None) v.held (λ x p. no_ticket x.ticket p.drawn) h.has.held;
      leave = let a = h.has.left in omega arith;
    })
    step_in (Load found loads) step h is fits = with_step (Allowed o v) (steps.Load (first_cell c.1 + length loads)) step is (record {
      in_range = let within = loads_within s c.1 (h.belongs.calls.0).call in let same = h.belongs.cells in let lt = h.under_way.2 in omega arith;
      mapped = mapped_now found loads [] h.under_way.1 h.has.held;
    })
    step_in (Store found loads i) step h is fits =
        let x : Step = steps.Store (frame_in found) (first_cell c.1 + i) (get_or (values_of loads c.1) i 0) in
        let same_step : step ≡ x = cc in
        with_step (Allowed o v) x step is (record {
          in_range = let within = stores_within s loads c.1 (h.belongs.calls.0).call in let same = h.belongs.cells in let lt = h.under_way.3 in omega arith;
          fits = subst IsStorable same_step fits;
          own = owned_now found loads _ h.under_way.1 h.has.held;
        })
    step_in (Mark found loads) step h is fits = with_step (Allowed o v) (steps.Mark (frame_in found)) step is (owned_now found loads _ h.under_way.1 h.has.held)
    step_in (Map frame kind found) step h is fits = absurd cc
    step_in (Unmap found) step h is fits = absurd cc
    step_in (Release lease found loads) step h is fits = with_step (Allowed o v) (steps.Release (Some (record { call = c.1; reply = reply_of lease found loads c.1 }))) step is
        (h.has.unmarked, ends_in lease found loads h v.held refl h.has.held)

  first_in : (page : PageNo) (call : Call) (cs : List (PageNo × Call)) (step : Step) → Fits s o script v (state (Between None) ((page, call) ∷ cs)) → next_action (state (Between None) ((page, call) ∷ cs)) ≡ actions.Step step → Allowed o v step
  first_in page (Alloc kind) cs step h is = absurd cc
  first_in page Free cs step h is = with_step (Allowed o v) (steps.Take page) step is (take_allowed (page, Free) cs (Between None) h h.has.held h.has.left)
  first_in page (Read first count) cs step h is = with_step (Allowed o v) (steps.Take page) step is (take_allowed (page, Read first count) cs (Between None) h h.has.held h.has.left)
  first_in page (Write first values) cs step h is = with_step (Allowed o v) (steps.Take page) step is (take_allowed (page, Write first values) cs (Between None) h h.has.held h.has.left)
  first_in page (Add cell value) cs step h is = with_step (Allowed o v) (steps.Take page) step is (take_allowed (page, Add cell value) cs (Between None) h h.has.held h.has.left)
  first_in page Pin cs step h is = with_step (Allowed o v) (steps.Take page) step is (take_allowed (page, Pin) cs (Between None) h h.has.held h.has.left)
  first_in page Unpin cs step h is = with_step (Allowed o v) (steps.Take page) step is (take_allowed (page, Unpin) cs (Between None) h h.has.held h.has.left)

  step_at : (place : Place) (left : List (PageNo × Call)) (step : Step) → Fits s o script v (state place left) → next_action (state place left) ≡ actions.Step step → IsStorable step → Allowed o v step
  step_at (Between (Some frame)) left step h is fits = absurd cc
  step_at (Between None) [] step h is fits = absurd cc
  step_at (Between None) (c ∷ cs) step h is fits = first_in c.0 c.1 cs step h is
  step_at (InCall at) [] step h is fits = absurd cc
  step_at (InCall at) (c ∷ cs) step h is fits = step_in c cs at step h is fits

pub next_step_allowed : (s : Sizes) (o : Opening) (words : List ℕ) (views : List View) (seat : ℕ) (v : View) (script : List (PageNo × Call)) (a : OwnerState) (step : Step) → Has views seat v → Pages o words views → Fits s o script v a → owner_ended a ≡ false → next_action a ≡ actions.Step step → IsStorable step → Allowed o v step
next_step_allowed s o words views seat v script a step has pages h going is fits = step_at s o words views seat v has pages script a.owner a.cells a.place a.left step h is fits

-- ---- steps on the mapping

same_cells : (xs : List (Option ℕ)) (n : ℕ) (x : Option ℕ) → length xs ≡ n → ((i : ℕ) → i < n → get_or xs i None ≡ x) → xs ≡ replicate n x
same_cells [] zero x e each = refl
same_cells [] (suc n) x e each = absurd (omega arith)
same_cells (y ∷ ys) zero x e each = absurd (omega arith)
same_cells (y ∷ ys) (suc n) x e each =
    let first : y ≡ x = each 0 (omega arith) in
    let rest = same_cells ys n x (omega arith) (λ i lt. each (suc i) (omega arith)) in
    ap (λ (z : Option ℕ). z ∷ ys) first ∙ ap (λ (l : List (Option ℕ)). x ∷ l) rest

module _ (s : Sizes) (o : Opening) (v : View) (script : List (PageNo × Call)) (owner cells : ℕ) where
  abbrev at_place : Place → List (PageNo × Call) → OwnerState
  at_place place left = record { owner = owner; cells = cells; left = left; place = place }

  module _ (c : PageNo × Call) (cs : List (PageNo × Call)) where
    map_allowed : (frame : FrameNo) (kind : Kind) (found : ℕ) → Fits s o script v (at_place (InCall (Map frame kind found)) (c ∷ cs)) → AllowedMove OneOwner o v (moves.Map frame kind)
    map_allowed frame kind found h = (
      h.belongs.seated,
      some_in (IsHeldAs o.cells c (as_found found true [] [])) (λ y. InHand v frame.0 (λ x. MayMap OneOwner o y x kind)) v.held
          (λ y p. (
            ap (λ (l : List FrameNo). count_by (λ x. x.0 == frame.0) l) h.has.unmarked,
            some_in (IsZeroed o.cells cells) (λ x. MayMap OneOwner o y x kind) (hand_frame v frame.0)
                (λ x z. let a = h.belongs.cells in let b = h.belongs.owner_cells in record {
                  drawn = p.drawn;
                  unmapped = ap (λ (w : ℕ). mapped_bit w) p.word ∙ ((same_flags-take found).mapped ∙ (let ne = h.under_way.1 in omega arith));
                  zeros = same_cells x.stores o.cells (Some 0) z.sized (λ cell lt. z.are_zero cell lt (omega arith));
                  aimed = tt;
                }) h.has.hand.1,
          )) h.has.held,
    )

    unmap_allowed : (found : ℕ) → Fits s o script v (at_place (InCall (Unmap found)) (c ∷ cs)) → AllowedMove OneOwner o v moves.Unmap
    unmap_allowed found h = (
      h.belongs.seated,
      some_in (IsHeldAs o.cells c (as_found found true [] [])) MayUnmap v.held
          (λ y p. let freed = freed_page found h.under_way.1 in record {
            drawn = p.drawn;
            mapped = ap (λ (w : ℕ). mapped_bit w) p.word ∙ ((same_flags-take found).mapped ∙ freed.0);
            no_pins = ap (λ (w : ℕ). pins_of w) p.word ∙ ((same_flags-take found).pins ∙ freed.1);
          }) h.has.held,
    )

    move_in : (at : CallPlace) (step : MoveStep) → Fits s o script v (at_place (InCall at) (c ∷ cs)) → action_at c at ≡ actions.Move step → AllowedMove OneOwner o v step
    move_in (Zero frame cell) step h is = absurd cc
    move_in (MarkZeros frame) step h is = absurd cc
    move_in (Take lease) step h is = absurd cc
    move_in (Draw lease found) step h is = absurd cc
    move_in (Load found loads) step h is = absurd cc
    move_in (Store found loads i) step h is = absurd cc
    move_in (Mark found loads) step h is = absurd cc
    move_in (Map frame kind found) step h is = with_move (AllowedMove OneOwner o v) (moves.Map frame kind) step is (map_allowed frame kind found h)
    move_in (Unmap found) step h is = with_move (AllowedMove OneOwner o v) moves.Unmap step is (unmap_allowed found h)
    move_in (Release lease found loads) step h is = absurd cc

  move_at : (place : Place) (left : List (PageNo × Call)) (step : MoveStep) → Fits s o script v (at_place place left) → next_action (at_place place left) ≡ actions.Move step → AllowedMove OneOwner o v step
  move_at (Between (Some frame)) left step h is = absurd cc
  move_at (Between None) [] step h is = absurd cc
  move_at (Between None) (c ∷ cs) step h is = absurd (first_moves c.0 c.1 step is)
  move_at (InCall at) [] step h is = absurd cc
  move_at (InCall at) (c ∷ cs) step h is = move_in c cs at step h is

pub next_move_allowed : (s : Sizes) (o : Opening) (v : View) (script : List (PageNo × Call)) (a : OwnerState) (m : MoveStep) → Fits s o script v a → owner_ended a ≡ false → next_action a ≡ actions.Move m → AllowedMove OneOwner o v m
next_move_allowed s o v script a m h going is = move_at s o v script a.owner a.cells a.place a.left m h is

-- ---- what is asked of the frame space

module _ (s : Sizes) (o : Opening) (v : View) (script : List (PageNo × Call)) (a : OwnerState) (h : Fits s o script v a) where
  -- between two calls
  rests : (back : Option FrameNo) → a.place ≡ Between back → IsAtRest o v × HasInHand v back (IsZeroed o.cells 0)
  rests back e =
      let has = subst (λ (p : Place). IsSeatWith o.cells a.left (has_at a.cells p a.left) v) e h.has in
      (record { seated = h.belongs.seated; holds_none = has.held; all_marked = has.unmarked }, has.hand)

  pub lease_allowed : (page : PageNo) (kind : Kind) → next_action a ≡ actions.Space (Lease page kind) → IsAtRest o v × (page.0 < s.pages)
  lease_allowed page kind is =
      let r = leases_at a.place a.left page kind is in
      let calls = subst (λ (l : List (PageNo × Call)). AllByRecursion (λ c. IsCallOf s c) l) r.left_is h.belongs.calls in
      ((rests None r.place_is).0, (calls.0).page)

  pub return_allowed : (frame : FrameNo) → next_action a ≡ actions.Space (Return frame) → IsAtRest o v × IsSome (hand_frame v frame.0)
  return_allowed frame is =
      let r = rests (Some frame) (returns_at a.place a.left frame is) in
      (r.0, some_if (IsZeroed o.cells 0) (hand_frame v frame.0) (r.1).1)
