-- An owner's view fits its place in the script after its next action, whichever that is.
use Rattle.std.proofs.Common.{◌≡◌, ℕ, eqb-true, ◌+◌, ◌<◌, ◌==◌, List, [], ◌∷◌, ◌++◌, map, length, length-append, length-set, append_assoc, get_or, refl, sym, ap, ◌∙◌, subst, arith, Option, Some, None}
use Rattle.std.specs.List.{enumerate_from, AllByRecursion}
use Rattle.std.proofs.lemmas.List.{map_push}
use Rattle.evac_model.specs.declared.names.FrameNo.{FrameNo}
use Rattle.evac_model.specs.declared.names.Kind.{Kind}
use Rattle.evac_model.specs.declared.names.PageNo.{PageNo}
use Rattle.evac_model.specs.declared.call.Call.{Call}
use Rattle.evac_model.specs.declared.call.Call.TheVariants.{Alloc, Free, Read, Write, Add, Pin, Unpin}
use Rattle.evac_model.specs.declared.entry.Entry.{Entry}
use Rattle.evac_model.specs.Geometry.{Sizes}
use Rattle.evac_model.specs.Scripts.{numbered_call}
use Rattle.evac_model.proofs.Lists.{all_push}
use Rattle.evac_words.specs.Word.{taken_bit, mapped_bit, frame_of}
use Rattle.core_state.specs.declared.hand.HandFrame.{HandFrame}
use Rattle.core_state.specs.declared.held.Held.{Held}
use Rattle.core_state.specs.declared.keeper.Keeper.{Keeper}
use Rattle.core_state.specs.declared.keeper.Keeper.TheVariants.{OneOwner}
use Rattle.core_state.specs.declared.opening.Opening.{Opening}
use Rattle.core_state.specs.declared.step.CallDone.{CallDone}
use Rattle.core_state.specs.declared.step.MoveStep.{MoveStep}
use Rattle.core_state.specs.declared.step.MoveStep.TheVariants as moves
use Rattle.core_state.specs.declared.step.Step.{Step}
use Rattle.core_state.specs.declared.step.Step.TheVariants as steps
use Rattle.core_state.specs.declared.view.View.{View}
use Rattle.core_state.specs.Pages.{number_or}
use Rattle.core_state.specs.Views.{Has, IsSeated, hand_frame}
use Rattle.core_state.specs.Sound.{Sound}
use Rattle.core_state.specs.Steps.{newly_held, entry_of, with_hand_store, view_after}
use Rattle.core_state.specs.MoveSteps.{hand_after_unmap, view_after_move}
use Rattle.core_state.specs.HandOvers.{MayHandOver, hand_without, hand_with}
use Rattle.core_state.proofs.MovePlaces.{old_low}
use Rattle.machine.specs.declared.action.Action.TheVariants as actions
use Rattle.machine.specs.declared.action.Heard.TheVariants as heards
use Rattle.machine.specs.declared.action.SpaceCall.TheVariants.{Lease, Return}
use Rattle.machine.specs.Made.{heard_by}
use Rattle.machine.proofs.OneFrame.{within, hand_without_one, hand_with_one}
use Rattle.core_actors.specs.declared.action.LeaseSeen.{LeaseSeen}
use Rattle.core_actors.specs.declared.action.LeaseSeen.TheVariants.{NotAsked, Got, Refused}
use Rattle.core_actors.specs.declared.place.Place.{Place}
use Rattle.core_actors.specs.declared.place.Place.TheVariants.{Between, InCall}
use Rattle.core_actors.specs.declared.place.CallPlace.{CallPlace}
use Rattle.core_actors.specs.declared.place.CallPlace.TheVariants.{Zero, MarkZeros, Take, Draw, Load, Store, Mark, Map, Unmap, Release}
use Rattle.core_actors.specs.CallSteps.{first_cell, values_of, leased_frame, reply_of}
use Rattle.core_actors.specs.Places.{frame_in, action_at, zero_from, behind_take, store_from, load_from, behind_draw}
use Rattle.core_actors.specs.Owners.{OwnerState, next_action, owner_after}
use Rattle.core_actors.specs.Counts.{IsUnderWay}
use Rattle.core_actors.specs.Fits.{SeatHas, page_done, has_at, IsZeroed, IsSeatWith, Fits}
use Rattle.core_actors.proofs.Cases.{if_two, with_move, with_step}
use Rattle.core_actors.proofs.UnderWay.{stays_under_way}
use Rattle.core_actors.proofs.Asks.{first_moves, leases_at, returns_at}
use Rattle.core_actors.proofs.HeldCells.{loads_within, stores_within, held_page_is}
use Rattle.core_actors.proofs.HasAt.{freed_page, has_zeros, has_stores, has_loads, has_done, has_drawn, mapped_done, unmapped_done}
use Rattle.core_actors.proofs.SeatSteps.{sits_as, sits_take, sits_draw, sits_load, sits_store, sits_mark, sits_zero, sits_marked, sits_release, sits_map, sits_unmap, sits_leased, sits_returned}

module _ (s : Sizes) (o : Opening) (script : List (PageNo × Call)) (v : View) (owner cells : ℕ) where
  abbrev state : Place → List (PageNo × Call) → OwnerState
  state place left = record { owner = owner; cells = cells; left = left; place = place }

  -- the same calls are left
  on : (left : List (PageNo × Call)) (p q : Place) (w : View) → Fits s o script v (state p left) → IsSeated o w → w.caller ≡ v.caller → w.entries ≡ v.entries → IsUnderWay (state q left)
      → IsSeatWith o.cells left (has_at cells q left) w → Fits s o script w (state q left)
  on left p q w h seated caller entries way has = record {
    belongs = record {
      cells = h.belongs.cells;
      owner_cells = h.belongs.owner_cells;
      pages = h.belongs.pages;
      calls = h.belongs.calls;
      seated = seated;
      caller = caller ∙ h.belongs.caller;
      callers = subst (λ (l : List Entry). AllByRecursion (λ e. e.caller ≡ owner) l) (sym entries) h.belongs.callers;
      entries = ap (λ (l : List Entry). map numbered_call l ++ enumerate_from (length l) left) entries ∙ h.belongs.entries;
    };
    under_way = way;
    has = has;
  }

  module _ (k : Keeper) (c : PageNo × Call) (cs : List (PageNo × Call)) (word : ℕ) where
    abbrev Sits : SeatHas → View → Type 0
    Sits x w = IsSeatWith o.cells (c ∷ cs) x w

    fits_take : (here : Place) (lease : LeaseSeen) (zeros : ℕ) → Fits s o script v (state here (c ∷ cs)) → has_at cells here (c ∷ cs) ≡ record { tickets = 0; unmarked = []; page = None; frame = leased_frame lease; zeros = zeros }
        → Sits (record { tickets = 0; unmarked = []; page = None; frame = leased_frame lease; zeros = cells }) v
        → IsUnderWay (state (behind_take here lease word) (c ∷ cs)) → Fits s o script (view_after k v (steps.Take c.0) word) (state (behind_take here lease word) (c ∷ cs))
    fits_take here lease zeros h is ready way =
        let seated = h.belongs.seated in
        let w : View = view_after k v (steps.Take c.0) word in
        let now : Sits (record { tickets = 0; unmarked = []; page = None; frame = leased_frame lease; zeros = zeros }) v = subst (λ (x : SeatHas). Sits x v) is h.has in
        let first = loads_within s c.1 (h.belongs.calls.0).call in
        let size = h.belongs.cells in
        on (c ∷ cs) here (behind_take here lease word) w h (record { cells = seated.cells; hand = seated.hand; image = seated.image }) refl refl way
        (if_two (λ (p : Place) (x : Option Held). Sits (has_at cells p (c ∷ cs)) (record w { held = x })) (taken_bit word == 0) (InCall (Draw lease word)) here (Some (newly_held v.cells c.0 word)) None
        (λ t. sits_take o.cells c cs k v (leased_frame lease) cells word seated.cells (omega arith) (eqb-true (taken_bit word) 0 t) ready)
        (λ f. subst (λ (x : SeatHas). Sits x (record w { held = None })) (sym is)
        (sits_as o.cells c cs v (record w { held = None }) (leased_frame lease) zeros zeros refl refl (sym now.held) refl (omega arith) now)))

    -- ---- the release

    module _ (lease : LeaseSeen) (found : ℕ) (loads : List ℕ) (h : Fits s o script v (state (InCall (Release lease found loads)) (c ∷ cs))) where
      abbrev done : CallDone
      done = record { call = c.1; reply = reply_of lease found loads c.1 }

      entry_is : numbered_call (entry_of v done) ≡ (length v.entries, c)
      entry_is = ap (λ (p : ℕ). (length v.entries, (record { 0 = p }, c.1))) (held_page_is o.cells c (page_done c.1 lease found loads) v.held h.has.held)

      entries_pushed : map numbered_call (v.entries ++ entry_of v done ∷ []) ++ enumerate_from (length (v.entries ++ entry_of v done ∷ [])) cs ≡ enumerate_from 0 script
      entries_pushed =
          let more : length (v.entries ++ entry_of v done ∷ []) ≡ length v.entries + 1 = length-append v.entries (entry_of v done ∷ []) in
          let rest : List (ℕ × (PageNo × Call)) = enumerate_from (length v.entries + 1) cs in
          ap (λ (i : ℕ). map numbered_call (v.entries ++ entry_of v done ∷ []) ++ enumerate_from i cs) more
          ∙ (ap (λ (l : List (ℕ × (PageNo × Call))). l ++ rest) (map_push numbered_call v.entries (entry_of v done))
          ∙ (append_assoc (map numbered_call v.entries) (numbered_call (entry_of v done) ∷ []) rest
          ∙ (ap (λ (e : ℕ × (PageNo × Call)). map numbered_call v.entries ++ e ∷ rest) entry_is
          ∙ h.belongs.entries)))

      fits_release : Fits s o script (view_after k v (steps.Release (Some done)) word) (owner_after (state (InCall (Release lease found loads)) (c ∷ cs)) heards.Nothing)
      fits_release =
          let b = h.belongs in
          record {
            belongs = record {
              cells = b.cells;
              owner_cells = b.owner_cells;
              pages = b.pages;
              calls = b.calls.1;
              seated = record { cells = b.seated.cells; hand = b.seated.hand; image = b.seated.image };
              caller = b.caller;
              callers = all_push (λ (e : Entry). e.caller ≡ owner) v.entries b.callers (entry_of v done) (ap (λ (x : Option ℕ). number_or x 0) b.caller);
              entries = entries_pushed;
            };
            under_way = tt;
            has = sits_release o.cells c cs k v (page_done c.1 lease found loads) _ word done h.has;
          }

    -- ---- any step in a call

    module _ (h_at : CallPlace) where
      abbrev here : OwnerState
      here = state (InCall h_at) (c ∷ cs)

    abbrev AfterStep : CallPlace → Step → Type 0
    AfterStep at step = Fits s o script (view_after k v step word) (owner_after (here at) (heard_by step word))

    fits_in : (at : CallPlace) (step : Step) → Fits s o script v (here at) → action_at c at ≡ actions.Step step → AfterStep at step
    fits_in (Zero frame cell) step h is =
        let seated = h.belongs.seated in
        let below = h.under_way.1 in
        let a = h.belongs.cells in
        let b = h.belongs.owner_cells in
        let w : View = view_after k v (steps.Store frame cell 0) word in
        with_step (AfterStep (Zero frame cell)) (steps.Store frame cell 0) step is
        (on (c ∷ cs) (InCall (Zero frame cell)) (InCall (zero_from cells frame (cell + 1))) w h
        (record { cells = seated.cells; hand = length-set v.hand frame.0 (with_hand_store (hand_frame v frame.0) cell 0) ∙ seated.hand; image = seated.image }) refl refl
        (stays_under_way (here (Zero frame cell)) heards.Nothing h.under_way)
        (subst (λ (x : SeatHas). Sits x w) (sym (has_zeros cells c.1 frame (cell + 1) (omega arith))) (sits_zero o.cells c cs k v frame cell word (omega arith) h.has)))
    fits_in (MarkZeros frame) step h is =
        let seated = h.belongs.seated in
        with_step (AfterStep (MarkZeros frame)) (steps.Mark frame) step is
        (on (c ∷ cs) (InCall (MarkZeros frame)) (InCall (Take (Got frame))) (view_after k v (steps.Mark frame) word) h (record { cells = seated.cells; hand = seated.hand; image = seated.image }) refl refl
        (stays_under_way (here (MarkZeros frame)) heards.Nothing h.under_way)
        (sits_marked o.cells c cs k v frame cells word h.has))
    fits_in (Take lease) step h is =
        with_step (AfterStep (Take lease)) (steps.Take c.0) step is
        (fits_take (InCall (Take lease)) lease cells h refl h.has (stays_under_way (here (Take lease)) (heards.Word word) h.under_way))
    fits_in (Draw lease found) step h is =
        let seated = h.belongs.seated in
        let w : View = view_after k v steps.Draw word in
        with_step (AfterStep (Draw lease found)) steps.Draw step is
        (on (c ∷ cs) (InCall (Draw lease found)) (InCall (behind_draw c.1 lease found)) w h (record { cells = seated.cells; hand = seated.hand; image = seated.image }) refl refl
        (stays_under_way (here (Draw lease found)) (heards.Word word) h.under_way)
        (has_drawn cells found (λ (x : SeatHas). Sits x w) c.1 lease h.under_way
        (λ zeros le. sits_draw o.cells c cs k v (leased_frame lease) cells zeros found word le h.has)))
    fits_in (Load found loads) step h is =
        let seated = h.belongs.seated in
        let w : View = view_after k v (steps.Load (first_cell c.1 + length loads)) word in
        let few = h.under_way.2 in
        let within_page = loads_within s c.1 (h.belongs.calls.0).call in
        let size = h.belongs.cells in
        with_step (AfterStep (Load found loads)) (steps.Load (first_cell c.1 + length loads)) step is
        (on (c ∷ cs) (InCall (Load found loads)) (InCall (load_from c.1 found (loads ++ word ∷ []))) w h (record { cells = seated.cells; hand = seated.hand; image = seated.image }) refl refl
        (stays_under_way (here (Load found loads)) (heards.Word word) h.under_way)
        (subst (λ (x : SeatHas). Sits x w) (sym (has_loads cells c.1 found h.under_way.0 (loads ++ word ∷ []) h.under_way.1))
        (sits_load o.cells c cs k v found word loads (omega arith) h.has)))
    fits_in (Store found loads i) step h is =
        let seated = h.belongs.seated in
        let value : ℕ = get_or (values_of loads c.1) i 0 in
        let w : View = view_after k v (steps.Store (frame_in found) (first_cell c.1 + i) value) word in
        let few = h.under_way.3 in
        let within_page = stores_within s loads c.1 (h.belongs.calls.0).call in
        let size = h.belongs.cells in
        with_step (AfterStep (Store found loads i)) (steps.Store (frame_in found) (first_cell c.1 + i) value) step is
        (on (c ∷ cs) (InCall (Store found loads i)) (InCall (store_from c.1 found loads (i + 1))) w h
        (record { cells = seated.cells; hand = length-set v.hand (frame_of found) (with_hand_store (hand_frame v (frame_of found)) (first_cell c.1 + i) value) ∙ seated.hand; image = seated.image }) refl refl
        (stays_under_way (here (Store found loads i)) heards.Nothing h.under_way)
        (subst (λ (x : SeatHas). Sits x w) (sym (has_stores cells c.1 found loads h.under_way.0 h.under_way.1 (i + 1) (omega arith)))
        (sits_store o.cells c cs k v found word loads (values_of loads c.1) i h.under_way.1 few (omega arith) h.has)))
    fits_in (Mark found loads) step h is =
        let seated = h.belongs.seated in
        let w : View = view_after k v (steps.Mark (frame_in found)) word in
        with_step (AfterStep (Mark found loads)) (steps.Mark (frame_in found)) step is
        (on (c ∷ cs) (InCall (Mark found loads)) (InCall (Release NotAsked found loads)) w h (record { cells = seated.cells; hand = seated.hand; image = seated.image }) refl refl
        (stays_under_way (here (Mark found loads)) heards.Nothing h.under_way)
        (subst (λ (x : SeatHas). Sits x w) (sym (has_done cells c.1 found h.under_way.0 loads h.under_way.1))
        (sits_mark o.cells c cs k v found word (length (values_of loads c.1)) loads (values_of loads c.1) h.has)))
    fits_in (Map frame kind found) step h is = absurd cc
    fits_in (Unmap found) step h is = absurd cc
    fits_in (Release lease found loads) step h is =
        with_step (AfterStep (Release lease found loads)) (steps.Release (Some (done lease found loads h))) step is (fits_release lease found loads h)

    -- a call that begins with its take
    fits_first : Fits s o script v (state (Between None) (c ∷ cs)) → IsUnderWay (state (behind_take (Between None) NotAsked word) (c ∷ cs))
        → Fits s o script (view_after k v (steps.Take c.0) word) (state (behind_take (Between None) NotAsked word) (c ∷ cs))
    fits_first h way = fits_take (Between None) NotAsked 0 h refl (record { left = h.has.left; unmarked = h.has.unmarked; held = h.has.held; hand = h.has.hand }) way

  -- ---- the next step

  module _ (k : Keeper) (step : Step) (word : ℕ) where
    abbrev Then : Place → List (PageNo × Call) → Step → Type 0
    Then place left step = Fits s o script (view_after k v step word) (owner_after (state place left) (heard_by step word))

    fits_begun : (page : PageNo) (call : Call) (cs : List (PageNo × Call)) → Fits s o script v (state (Between None) ((page, call) ∷ cs)) → next_action (state (Between None) ((page, call) ∷ cs)) ≡ actions.Step step
        → Then (Between None) ((page, call) ∷ cs) step
    fits_begun page (Alloc kind) cs h is = absurd cc
    fits_begun page Free cs h is = with_step (Then (Between None) ((page, Free) ∷ cs)) (steps.Take page) step is (fits_first k (page, Free) cs word h (stays_under_way (state (Between None) ((page, Free) ∷ cs)) (heards.Word word) tt))
    fits_begun page (Read first count) cs h is = with_step (Then (Between None) ((page, Read first count) ∷ cs)) (steps.Take page) step is
        (fits_first k (page, Read first count) cs word h (stays_under_way (state (Between None) ((page, Read first count) ∷ cs)) (heards.Word word) tt))
    fits_begun page (Write first values) cs h is = with_step (Then (Between None) ((page, Write first values) ∷ cs)) (steps.Take page) step is
        (fits_first k (page, Write first values) cs word h (stays_under_way (state (Between None) ((page, Write first values) ∷ cs)) (heards.Word word) tt))
    fits_begun page (Add cell value) cs h is = with_step (Then (Between None) ((page, Add cell value) ∷ cs)) (steps.Take page) step is
        (fits_first k (page, Add cell value) cs word h (stays_under_way (state (Between None) ((page, Add cell value) ∷ cs)) (heards.Word word) tt))
    fits_begun page Pin cs h is = with_step (Then (Between None) ((page, Pin) ∷ cs)) (steps.Take page) step is (fits_first k (page, Pin) cs word h (stays_under_way (state (Between None) ((page, Pin) ∷ cs)) (heards.Word word) tt))
    fits_begun page Unpin cs h is = with_step (Then (Between None) ((page, Unpin) ∷ cs)) (steps.Take page) step is (fits_first k (page, Unpin) cs word h (stays_under_way (state (Between None) ((page, Unpin) ∷ cs)) (heards.Word word) tt))

    fits_then : (place : Place) (left : List (PageNo × Call)) → Fits s o script v (state place left) → next_action (state place left) ≡ actions.Step step → Then place left step
    fits_then (Between (Some frame)) left h is = absurd cc
    fits_then (Between None) [] h is = absurd cc
    fits_then (Between None) (c ∷ cs) h is = fits_begun c.0 c.1 cs h is
    fits_then (InCall at) [] h is = absurd cc
    fits_then (InCall at) (c ∷ cs) h is = fits_in k c cs word at step h is

  -- ---- the step on the mapping

  abbrev Moved : Place → List (PageNo × Call) → MoveStep → Type 0
  Moved place left step = Fits s o script (view_after_move OneOwner v step) (owner_after (state place left) heards.Nothing)

  hand_sized : (held : Option Held) → length (hand_after_unmap OneOwner v held) ≡ length v.hand
  hand_sized None = refl
  hand_sized (Some x) = length-set v.hand (frame_of x.word) _

  module _ (low : (x : Held) → v.held ≡ Some x → mapped_bit x.word ≡ 1 → frame_of x.word < o.frames) where
    fits_moved : (c : PageNo × Call) (cs : List (PageNo × Call)) (at : CallPlace) (step : MoveStep) → Fits s o script v (state (InCall at) (c ∷ cs)) → action_at c at ≡ actions.Move step → Moved (InCall at) (c ∷ cs) step
    fits_moved c cs (Zero frame cell) step h is = absurd cc
    fits_moved c cs (MarkZeros frame) step h is = absurd cc
    fits_moved c cs (Take lease) step h is = absurd cc
    fits_moved c cs (Draw lease found) step h is = absurd cc
    fits_moved c cs (Load found loads) step h is = absurd cc
    fits_moved c cs (Store found loads i) step h is = absurd cc
    fits_moved c cs (Mark found loads) step h is = absurd cc
    fits_moved c cs (Map frame kind found) step h is =
        let seated = h.belongs.seated in
        let w : View = view_after_move OneOwner v (moves.Map frame kind) in
        let first = loads_within s c.1 (h.belongs.calls.0).call in
        let size = h.belongs.cells in
        with_move (Moved (InCall (Map frame kind found)) (c ∷ cs)) (moves.Map frame kind) step is
        (on (c ∷ cs) (InCall (Map frame kind found)) (InCall (Release (Got frame) found [])) w h (record { cells = seated.cells; hand = length-set v.hand frame.0 None ∙ seated.hand; image = seated.image }) refl refl
        (stays_under_way (state (InCall (Map frame kind found)) (c ∷ cs)) heards.Nothing h.under_way)
        (subst (λ (x : SeatHas). IsSeatWith o.cells (c ∷ cs) x w) (sym (mapped_done cells found c.1 kind frame h.under_way.0 h.under_way.1))
        (sits_map o.cells c cs v found cells frame kind seated.cells (omega arith) h.has)))
    fits_moved c cs (Unmap found) step h is =
        let seated = h.belongs.seated in
        let w : View = view_after_move OneOwner v moves.Unmap in
        let first = loads_within s c.1 (h.belongs.calls.0).call in
        let size = h.belongs.cells in
        let long = seated.hand in
        with_move (Moved (InCall (Unmap found)) (c ∷ cs)) moves.Unmap step is
        (on (c ∷ cs) (InCall (Unmap found)) (InCall (Release NotAsked found [])) w h (record { cells = seated.cells; hand = hand_sized v.held ∙ seated.hand; image = seated.image }) refl refl
        (stays_under_way (state (InCall (Unmap found)) (c ∷ cs)) heards.Nothing h.under_way)
        (subst (λ (x : SeatHas). IsSeatWith o.cells (c ∷ cs) x w) (sym (unmapped_done cells found c.1 h.under_way.0 h.under_way.1))
        (sits_unmap o.cells c cs v found seated.cells (omega arith) (freed_page found h.under_way.1).0 (λ x e m. let l = low x e m in omega arith) h.has)))
    fits_moved c cs (Release lease found loads) step h is = absurd cc

    moved_then : (place : Place) (left : List (PageNo × Call)) (step : MoveStep) → Fits s o script v (state place left) → next_action (state place left) ≡ actions.Move step → Moved place left step
    moved_then (Between (Some frame)) left step h is = absurd cc
    moved_then (Between None) [] step h is = absurd cc
    moved_then (Between None) (c ∷ cs) step h is = absurd (first_moves c.0 c.1 step is)
    moved_then (InCall at) [] step h is = absurd cc
    moved_then (InCall at) (c ∷ cs) step h is = fits_moved c cs at step h is

  -- ---- the frame space

  fits_returned : (frame : FrameNo) (left : List (PageNo × Call)) → Fits s o script v (state (Between (Some frame)) left) → Fits s o script (record v { hand = hand_without v.hand frame.0 1 }) (state (Between None) left)
  fits_returned frame left h =
      let seated = h.belongs.seated in
      let w : View = record v { hand = hand_without v.hand frame.0 1 } in
      let place : frame.0 < length v.hand = within v.hand frame.0 (IsZeroed o.cells 0) (h.has.hand).1 in
      let long : length w.hand ≡ length v.hand = ap (λ (l : List (Option HandFrame)). length l) (hand_without_one v.hand frame.0 place) ∙ length-set v.hand frame.0 None in
      on left (Between (Some frame)) (Between None) w h (record { cells = seated.cells; hand = long ∙ seated.hand; image = seated.image }) refl refl tt (sits_returned o.cells left v frame h.has)

  module _ (page : PageNo) (kind : Kind) (cs : List (PageNo × Call)) (h : Fits s o script v (state (Between None) ((page, Alloc kind) ∷ cs))) where
    abbrev alloc : List (PageNo × Call)
    alloc = (page, Alloc kind) ∷ cs

    fits_refused : (i : ℕ) → Fits s o script v (state (InCall (Take (Refused i))) alloc)
    fits_refused i = on alloc (Between None) (InCall (Take (Refused i))) v h h.belongs.seated refl refl (stays_under_way (state (Between None) alloc) (heards.NoFrame i) tt)
        (record { left = h.has.left; unmarked = h.has.unmarked; held = h.has.held; hand = h.has.hand })

    fits_leased : (giver : View) (frame : FrameNo) (x : HandFrame) → MayHandOver o giver v frame.0 1 → hand_frame giver frame.0 ≡ Some x → length x.stores ≡ o.cells
        → Fits s o script (record v { hand = hand_with v.hand giver.hand frame.0 1 }) (state (InCall (zero_from cells frame 0)) alloc)
    fits_leased giver frame x may is size =
        let seated = h.belongs.seated in
        let w : View = record v { hand = hand_with v.hand giver.hand frame.0 1 } in
        let in_had : frame.0 < length v.hand = let a = may.in_range in let b = seated.hand in omega arith in
        let in_given : frame.0 < length giver.hand = let a = may.in_range in let b = may.giver_rests.seated.hand in omega arith in
        let long : length w.hand ≡ length v.hand = ap (λ (l : List (Option HandFrame)). length l) (hand_with_one giver.hand v.hand frame.0 in_given in_had) ∙ length-set v.hand frame.0 _ in
        on alloc (Between None) (InCall (zero_from cells frame 0)) w h (record { cells = seated.cells; hand = long ∙ seated.hand; image = seated.image }) refl refl
        (stays_under_way (state (Between None) alloc) (heards.Leased frame) tt)
        (subst (λ (y : SeatHas). IsSeatWith o.cells alloc y w) (sym (has_zeros cells (Alloc kind) frame 0 (omega arith))) (sits_leased o.cells alloc v giver frame x in_given in_had is size h.has))

-- ---- any action

module _ (s : Sizes) (o : Opening) (v : View) (script : List (PageNo × Call)) (a : OwnerState) (h : Fits s o script v a) where
  pub fits_after_step : (k : Keeper) (step : Step) (found : ℕ) → next_action a ≡ actions.Step step → Fits s o script (view_after k v step found) (owner_after a (heard_by step found))
  fits_after_step k step found is = fits_then s o script v a.owner a.cells k step found a.place a.left h is

  pub fits_after_move : (words : List ℕ) (views : List View) (seat : ℕ) (step : MoveStep) → Has views seat v → Sound o words views → next_action a ≡ actions.Move step → Fits s o script (view_after_move OneOwner v step) (owner_after a heards.Nothing)
  fits_after_move words views seat step has sound is = moved_then s o script v a.owner a.cells (old_low o words views sound seat v has) a.place a.left step h is

  -- the owner stands before an alloc
  module _ (page : PageNo) (kind : Kind) (is : next_action a ≡ actions.Space (Lease page kind)) where
    abbrev there : Place → List (PageNo × Call) → OwnerState
    there place left = record { owner = a.owner; cells = a.cells; left = left; place = place }

    before_alloc : (P : OwnerState → Type 0) → ((cs : List (PageNo × Call)) → Fits s o script v (there (Between None) ((page, Alloc kind) ∷ cs)) → P (there (Between None) ((page, Alloc kind) ∷ cs))) → P a
    before_alloc P f =
        let r = leases_at a.place a.left page kind is in
        let same : a ≡ there (Between None) ((page, Alloc kind) ∷ r.rest) = λ i. there (r.place_is i) (r.left_is i) in
        subst P (sym same) (f r.rest (subst (λ (x : OwnerState). Fits s o script v x) same h))

    pub fits_after_refusal : (i : ℕ) → Fits s o script v (owner_after a (heards.NoFrame i))
    fits_after_refusal i = before_alloc (λ (x : OwnerState). Fits s o script v (owner_after x (heards.NoFrame i))) (λ cs g. fits_refused s o script v a.owner a.cells page kind cs g i)

    pub fits_after_lease : (giver : View) (frame : FrameNo) (x : HandFrame) → MayHandOver o giver v frame.0 1 → hand_frame giver frame.0 ≡ Some x → length x.stores ≡ o.cells
        → Fits s o script (record v { hand = hand_with v.hand giver.hand frame.0 1 }) (owner_after a (heards.Leased frame))
    fits_after_lease giver frame x may given size =
        before_alloc (λ (y : OwnerState). Fits s o script (record v { hand = hand_with v.hand giver.hand frame.0 1 }) (owner_after y (heards.Leased frame)))
        (λ cs g. fits_leased s o script v a.owner a.cells page kind cs g giver frame x may given size)

  pub fits_after_return : (frame : FrameNo) → next_action a ≡ actions.Space (Return frame) → Fits s o script (record v { hand = hand_without v.hand frame.0 1 }) (owner_after a heards.Nothing)
  fits_after_return frame is =
      let same : a ≡ record a { place = Between (Some frame) } = λ i. record a { place = returns_at a.place a.left frame is i } in
      subst (λ (x : OwnerState). Fits s o script (record v { hand = hand_without v.hand frame.0 1 }) (owner_after x heards.Nothing)) (sym same)
      (fits_returned s o script v a.owner a.cells frame a.left (subst (λ (x : OwnerState). Fits s o script v x) same h))
