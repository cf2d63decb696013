-- What an owner's seat has after each kind of action.
use Rattle.std.proofs.Common.{◌≡◌, ℕ, suc, eq-eqb, ◌+◌, ◌<◌, ◌≤◌, Bool, true, false, List, [], ◌∷◌, ◌++◌, length, take, get_or, set, bit_or, refl, sym, ap, ◌∙◌, subst, arith, Option, Some, None, if◌then◌else◌, IsSomeAnd}
use Rattle.std.proofs.lemmas.List.{length-take-le, length-replicate}
use Rattle.std.proofs.Math.Seq.{take-suc}
use Rattle.evac_model.specs.declared.names.FrameNo.{FrameNo}
use Rattle.evac_model.specs.declared.names.Kind.{Kind}
use Rattle.evac_model.specs.declared.names.PageNo.{PageNo}
use Rattle.evac_model.specs.declared.call.Call.{Call}
use Rattle.evac_words.specs.Word.{taken_bit, mapped_bit, frame_of}
use Rattle.core_state.specs.declared.hand.HandFrame.{HandFrame}
use Rattle.core_state.specs.declared.held.Change.TheVariants.{Mapped, Unmapped}
use Rattle.core_state.specs.declared.held.Held.{Held}
use Rattle.core_state.specs.declared.keeper.Keeper.{Keeper}
use Rattle.core_state.specs.declared.keeper.Keeper.TheVariants.{OneOwner}
use Rattle.core_state.specs.declared.step.CallDone.{CallDone}
use Rattle.core_state.specs.declared.step.MoveStep.TheVariants as moves
use Rattle.core_state.specs.declared.step.Step.TheVariants as steps
use Rattle.core_state.specs.declared.view.View.{View}
use Rattle.core_state.specs.Views.{hand_frame, maps_to}
use Rattle.core_state.specs.Words.{mapped_word, unmapped_word}
use Rattle.core_state.specs.Steps.{nothing_known, newly_held, note, with_ticket, with_load, with_store, with_hand_store, view_after}
use Rattle.core_state.specs.MoveSteps.{held_after_map, held_after_unmap, hand_after_unmap, let_out, view_after_move}
use Rattle.core_state.specs.HandOvers.{hand_without, hand_with}
use Rattle.core_state.proofs.EntryWords.{same_flags-take}
use Rattle.core_state.proofs.Holding.{for_some}
use Rattle.machine.proofs.OneFrame.{within, hand_without_one, hand_with_one}
use Rattle.core_actors.specs.CallSteps.{first_cell}
use Rattle.core_actors.specs.Places.{frame_in}
use Rattle.core_actors.specs.Fits.{known_from, PageHeld, SeatHas, just_frame, unmarked_by, zeroed, as_found, with_cells, IsHeldAs, IsZeroed, IsSeatWith}
use Rattle.core_actors.proofs.Unmarked.{unmarked_now, marked_now, more_unmarked}
use Rattle.core_actors.proofs.Known.{known_from-push, known_from-none, nothing_there}
use Rattle.core_actors.proofs.HeldCells.{maps_here}
use Rattle.core_actors.proofs.HandSteps.{has_set, has_set_none, store_elsewhere, hand_as, zero_more}
use Rattle.core_actors.proofs.HasAt.{drawn}

-- ---- the page that is held

module _ (size : ℕ) (c : PageNo × Call) (found : ℕ) where
  abbrev known : List ℕ → List (Option ℕ)
  known xs = known_from size (first_cell c.1) xs

  nothing_yet : (n : ℕ) → n ≡ size → first_cell c.1 ≤ size → nothing_known n ≡ known []
  nothing_yet n same within = ap (λ (m : ℕ). nothing_known m) same ∙ sym (known_from-none size (first_cell c.1) within)

  held_take : (n : ℕ) → n ≡ size → first_cell c.1 ≤ size → taken_bit found ≡ 0 → IsHeldAs size c (as_found found false [] []) (newly_held n c.0 found)
  held_take n same within free =
      record { page = refl; found = refl; free = free; word = refl; drawn = refl; loads = nothing_yet n same within; stores = nothing_yet n same within; change = refl }

  held_draw : (held : Option Held) (ticket : ℕ) → IsSomeAnd held (IsHeldAs size c (as_found found false [] [])) → IsSomeAnd (with_ticket held ticket) (IsHeldAs size c (as_found found true [] []))
  held_draw None ticket h = h
  held_draw (Some x) ticket h = record { page = h.page; found = h.found; free = h.free; word = h.word; drawn = refl; loads = h.loads; stores = h.stores; change = h.change }

  held_load : (held : Option Held) (loads : List ℕ) (word : ℕ) → first_cell c.1 + length loads < size → IsSomeAnd held (IsHeldAs size c (as_found found true loads []))
      → IsSomeAnd (with_load held (first_cell c.1 + length loads) word) (IsHeldAs size c (as_found found true (loads ++ word ∷ []) []))
  held_load None loads word lt h = h
  held_load (Some x) loads word lt h =
      let cell : ℕ = first_cell c.1 + length loads in
      let unknown : get_or x.stores cell None ≡ None = ap (λ (l : List (Option ℕ)). get_or l cell None) h.stores ∙ nothing_there size (first_cell c.1) cell (omega arith) in
      record {
        page = h.page;
        found = h.found;
        free = h.free;
        word = h.word;
        drawn = h.drawn;
        loads = ap (λ (m : Option ℕ). note m x.loads cell word) unknown
            ∙ (ap (λ (l : List (Option ℕ)). set l cell (Some word)) h.loads ∙ known_from-push size (first_cell c.1) loads word cell refl lt);
        stores = h.stores;
        change = h.change;
      }

  held_store : (held : Option Held) (loads values : List ℕ) (i : ℕ) → mapped_bit found ≡ 1 → i < length values → first_cell c.1 + length values ≤ size → IsSomeAnd held (IsHeldAs size c (as_found found true loads (take i values)))
      → IsSomeAnd (with_store held (frame_of found) (first_cell c.1 + i) (get_or values i 0)) (IsHeldAs size c (as_found found true loads (take (i + 1) values)))
  held_store None loads values i mapped lt within h = h
  held_store (Some x) loads values i mapped lt within h =
      let cell : ℕ = first_cell c.1 + i in
      let value : ℕ = get_or values i 0 in
      let y : Held = record x { stores = set x.stores cell (Some value) } in
      let here : maps_to (frame_of found) x.word ≡ 1 = ap (λ (k : ℕ). maps_to (frame_of found) k) h.word ∙ maps_here found mapped in
      let long : length (take i values) ≡ i = length-take-le i values (omega arith) in
      let next : i + 1 ≡ suc i = omega arith in
      let is : IsHeldAs size c (as_found found true loads (take (i + 1) values)) y = record {
        page = h.page;
        found = h.found;
        free = h.free;
        word = h.word;
        drawn = h.drawn;
        loads = h.loads;
        stores = ap (λ (l : List (Option ℕ)). set l cell (Some value)) h.stores
            ∙ (known_from-push size (first_cell c.1) (take i values) value cell (omega arith) (omega arith)
            ∙ ap known (sym (ap (λ (k : ℕ). take k values) next ∙ take-suc values i 0 lt)));
        change = h.change;
      } in
      subst (λ (b : Bool). IsHeldAs size c (as_found found true loads (take (i + 1) values)) (if b then y else x)) (sym (eq-eqb _ _ here)) is

  held_map : (v : View) (held : Option Held) (frame : ℕ) (kind : Kind) → v.cells ≡ size → first_cell c.1 ≤ size → IsSomeAnd held (IsHeldAs size c (as_found found true [] []))
      → IsSomeAnd (held_after_map v held frame kind)
      (IsHeldAs size c (record { found = found; change = Mapped kind; word = mapped_word (bit_or found 1) frame kind; drawn = true; loads = []; stores = [] }))
  held_map v None frame kind same within h = h
  held_map v (Some x) frame kind same within h = record {
    page = h.page;
    found = h.found;
    free = h.free;
    word = ap (λ (w : ℕ). mapped_word w frame kind) h.word;
    drawn = h.drawn;
    loads = nothing_yet v.cells same within;
    stores = nothing_yet v.cells same within;
    change = refl;
  }

  held_unmap : (v : View) (held : Option Held) → v.cells ≡ size → first_cell c.1 ≤ size → IsSomeAnd held (IsHeldAs size c (as_found found true [] []))
      → IsSomeAnd (held_after_unmap v held) (IsHeldAs size c (record { found = found; change = Unmapped; word = unmapped_word (bit_or found 1); drawn = true; loads = []; stores = [] }))
  held_unmap v None same within h = h
  held_unmap v (Some x) same within h = record {
    page = h.page;
    found = h.found;
    free = h.free;
    word = ap unmapped_word h.word;
    drawn = h.drawn;
    loads = nothing_yet v.cells same within;
    stores = nothing_yet v.cells same within;
    change = refl;
  }

-- ---- the seat

module _ (size : ℕ) (c : PageNo × Call) (cs : List (PageNo × Call)) where
  abbrev Sits : SeatHas → View → Type 0
  Sits x v = IsSeatWith size (c ∷ cs) x v

  -- nothing of the seat changes but what is known of the leased frame
  pub sits_as : (v w : View) (frame : Option FrameNo) (before after : ℕ) → w.left ≡ v.left → w.unmarked ≡ v.unmarked → w.held ≡ v.held → w.hand ≡ v.hand → after ≤ before
      → Sits (record { tickets = 0; unmarked = []; page = None; frame = frame; zeros = before }) v → Sits (record { tickets = 0; unmarked = []; page = None; frame = frame; zeros = after }) w
  sits_as v w frame before after a b d e le h = record { left = ap (λ (n : ℕ). n + 0) a ∙ h.left; unmarked = b ∙ h.unmarked; held = d ∙ h.held; hand = hand_as size v w frame before after e le h.hand }

  module _ (k : Keeper) (v : View) where
    pub sits_take : (frame : Option FrameNo) (zeros found : ℕ) → v.cells ≡ size → first_cell c.1 ≤ size → taken_bit found ≡ 0
        → Sits (record { tickets = 0; unmarked = []; page = None; frame = frame; zeros = zeros }) v
        → Sits (record { tickets = 0; unmarked = []; page = Some (as_found found false [] []); frame = frame; zeros = zeros }) (record (view_after k v (steps.Take c.0) found) { held = Some (newly_held v.cells c.0 found) })
    sits_take frame zeros found same within free h = record {
      left = h.left;
      unmarked = h.unmarked;
      held = held_take size c found v.cells same within free;
      hand = hand_as size v (record (view_after k v (steps.Take c.0) found) { held = Some (newly_held v.cells c.0 found) }) frame zeros zeros refl (omega arith) h.hand;
    }

    pub sits_draw : (frame : Option FrameNo) (zeros after found word : ℕ) → after ≤ zeros → Sits (record { tickets = 0; unmarked = []; page = Some (as_found found false [] []); frame = frame; zeros = zeros }) v
        → Sits (drawn found frame after) (view_after k v steps.Draw word)
    sits_draw frame zeros after found word le h = record {
      left = let a = h.left in omega arith;
      unmarked = h.unmarked;
      held = held_draw size c found v.held word h.held;
      hand = hand_as size v (view_after k v steps.Draw word) frame zeros after refl le h.hand;
    }

    pub sits_load : (found word : ℕ) (loads : List ℕ) → first_cell c.1 + length loads < size → Sits (with_cells found loads [] []) v
        → Sits (with_cells found (loads ++ word ∷ []) [] []) (view_after k v (steps.Load (first_cell c.1 + length loads)) word)
    sits_load found word loads lt h = record { left = h.left; unmarked = h.unmarked; held = held_load size c found v.held loads word lt h.held; hand = h.hand }

    pub sits_store : (found word : ℕ) (loads values : List ℕ) (i : ℕ) → mapped_bit found ≡ 1 → i < length values → first_cell c.1 + length values ≤ size → Sits (with_cells found loads (take i values) (unmarked_by i (frame_in found))) v
        → Sits (with_cells found loads (take (i + 1) values) (unmarked_by (i + 1) (frame_in found))) (view_after k v (steps.Store (frame_in found) (first_cell c.1 + i) (get_or values i 0)) word)
    sits_store found word loads values i mapped lt within h =
        let w : View = view_after k v (steps.Store (frame_in found) (first_cell c.1 + i) (get_or values i 0)) word in
        record {
          left = h.left;
          unmarked = unmarked_now v (frame_in found) i h.unmarked ∙ more_unmarked i (frame_in found);
          held = held_store size c found v.held loads values i mapped lt within h.held;
          hand = hand_as size v w None 0 0 (store_elsewhere v (frame_of found) (first_cell c.1 + i) (get_or values i 0) (h.hand (frame_of found))) (omega arith) h.hand;
        }

    pub sits_mark : (found word n : ℕ) (loads values : List ℕ) → Sits (with_cells found loads values (unmarked_by n (frame_in found))) v → Sits (with_cells found loads values []) (view_after k v (steps.Mark (frame_in found)) word)
    sits_mark found word n loads values h = record { left = h.left; unmarked = marked_now v (frame_in found) n h.unmarked; held = h.held; hand = h.hand }

    pub sits_zero : (frame : FrameNo) (cell word : ℕ) → cell < size → Sits (zeroed frame cell) v → Sits (zeroed frame (cell + 1)) (view_after k v (steps.Store frame cell 0) word)
    sits_zero frame cell word lt h =
        let place : frame.0 < length v.hand = within v.hand frame.0 (IsZeroed size cell) h.hand.1 in
        record {
          left = h.left;
          unmarked = unmarked_now v frame cell h.unmarked ∙ more_unmarked cell frame;
          held = ap (λ (x : Option Held). with_store x frame.0 cell 0) h.held;
          hand = has_set v (view_after k v (steps.Store frame cell 0) word) frame (with_hand_store (hand_frame v frame.0) cell 0) refl place h.hand.0 (IsZeroed size (cell + 1))
              (zero_more size cell (hand_frame v frame.0) lt h.hand.1);
        }

    pub sits_marked : (frame : FrameNo) (zeros word : ℕ) → Sits (zeroed frame zeros) v → Sits (record { tickets = 0; unmarked = []; page = None; frame = Some frame; zeros = zeros }) (view_after k v (steps.Mark frame) word)
    sits_marked frame zeros word h = record { left = h.left; unmarked = marked_now v frame zeros h.unmarked; held = h.held; hand = h.hand }

    -- the call has ended
    pub sits_release : (p : PageHeld) (frame : Option FrameNo) (word : ℕ) (done : CallDone) → Sits (record { tickets = 1; unmarked = []; page = Some p; frame = frame; zeros = 0 }) v
        → IsSeatWith size cs (just_frame frame) (view_after k v (steps.Release (Some done)) word)
    sits_release p frame word done h =
        record { left = let a = h.left in omega arith; unmarked = h.unmarked; held = refl; hand = hand_as size v (view_after k v (steps.Release (Some done)) word) frame 0 0 refl (omega arith) h.hand }

  module _ (v : View) where
    pub sits_map : (found zeros : ℕ) (frame : FrameNo) (kind : Kind) → v.cells ≡ size → first_cell c.1 ≤ size → Sits (drawn found (Some frame) zeros) v
        → Sits (record { tickets = 1; unmarked = []; page = Some (record { found = found; change = Mapped kind; word = mapped_word (bit_or found 1) frame.0 kind; drawn = true; loads = []; stores = [] }); frame = None; zeros = 0 })
        (view_after_move OneOwner v (moves.Map frame kind))
    sits_map found zeros frame kind same within_page h = record {
      left = h.left;
      unmarked = h.unmarked;
      held = held_map size c found v v.held frame.0 kind same within_page h.held;
      hand = has_set_none v (view_after_move OneOwner v (moves.Map frame kind)) frame None refl (within v.hand frame.0 (IsZeroed size zeros) h.hand.1) h.hand.0 (IsZeroed size 0) refl;
    }

    -- the page's frame comes in hand
    pub sits_unmap : (found : ℕ) → v.cells ≡ size → first_cell c.1 ≤ size → mapped_bit found ≡ 1 → ((x : Held) → v.held ≡ Some x → mapped_bit x.word ≡ 1 → frame_of x.word < length v.hand) → Sits (with_cells found [] [] []) v
        → Sits (record { tickets = 1; unmarked = []; page = Some (record { found = found; change = Unmapped; word = unmapped_word (bit_or found 1); drawn = true; loads = []; stores = [] }); frame = Some (frame_in found); zeros = 0 })
        (view_after_move OneOwner v moves.Unmap)
    sits_unmap found same within_page mapped low h =
        let w : View = view_after_move OneOwner v moves.Unmap in
        let one = for_some v.held (IsHeldAs size c (as_found found true [] [])) h.held in
        let x : Held = one.0 in
        let it : frame_of x.word ≡ frame_of found = ap (λ (n : ℕ). frame_of n) (one.2).word ∙ (same_flags-take found).frame in
        let hand_now : w.hand ≡ set v.hand (frame_of found) (Some (let_out OneOwner v.cells x)) =
        ap (λ (m : Option Held). hand_after_unmap OneOwner v m) one.1 ∙ ap (λ (f : ℕ). set v.hand f (Some (let_out OneOwner v.cells x))) it in
        record {
          left = h.left;
          unmarked = h.unmarked;
          held = held_unmap size c found v v.held same within_page h.held;
          hand = has_set v w (frame_in found) (Some (let_out OneOwner v.cells x)) hand_now (let a = low x one.1 (ap (λ (n : ℕ). mapped_bit n) (one.2).word ∙ ((same_flags-take found).mapped ∙ mapped)) in omega arith) (λ f ne. h.hand f) (IsZeroed size 0)
              (record { sized = length-replicate v.cells None ∙ same; are_zero = λ cell lt early. absurd (omega arith) });
        }

-- ---- between two calls

module _ (size : ℕ) (calls : List (PageNo × Call)) (v : View) where
  pub sits_leased : (giver : View) (frame : FrameNo) (x : HandFrame) → frame.0 < length giver.hand → frame.0 < length v.hand → hand_frame giver frame.0 ≡ Some x → length x.stores ≡ size
      → IsSeatWith size calls (just_frame None) v → IsSeatWith size calls (zeroed frame 0) (record v { hand = hand_with v.hand giver.hand frame.0 1 })
  sits_leased giver frame x in_given in_had is sized h =
      let one : hand_with v.hand giver.hand frame.0 1 ≡ set v.hand frame.0 (Some x) = hand_with_one giver.hand v.hand frame.0 in_given in_had ∙ ap (λ (y : Option HandFrame). set v.hand frame.0 y) is in
      record {
        left = h.left;
        unmarked = h.unmarked;
        held = h.held;
        hand = has_set v (record v { hand = hand_with v.hand giver.hand frame.0 1 }) frame (Some x) one in_had (λ f ne. h.hand f) (IsZeroed size 0)
            (record { sized = sized; are_zero = λ cell low early. absurd (omega arith) });
      }

  pub sits_returned : (frame : FrameNo) → IsSeatWith size calls (just_frame (Some frame)) v → IsSeatWith size calls (just_frame None) (record v { hand = hand_without v.hand frame.0 1 })
  sits_returned frame h =
      let place : frame.0 < length v.hand = within v.hand frame.0 (IsZeroed size 0) h.hand.1 in
      record {
        left = h.left;
        unmarked = h.unmarked;
        held = h.held;
        hand = has_set_none v (record v { hand = hand_without v.hand frame.0 1 }) frame None (hand_without_one v.hand frame.0 place) place h.hand.0 (IsZeroed size 0) refl;
      }
