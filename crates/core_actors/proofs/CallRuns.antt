-- From the start of a call an owner makes the actions of its list, one after another, whatever it hears.
use Rattle.std.proofs.Common.{◌≡◌, ◌≢◌, ℕ, zero, suc, eq-eqb, eqb-true, ne_eqb, ◌+◌, ◌<◌, ◌≤◌, ◌==◌, nat_lt, Bool, true, false, List, [], ◌∷◌, ◌++◌, length, length-append, map, take, get_or, append_assoc, append-nil, refl, sym, ap, ◌∙◌, subst, arith, Some, None, if◌then◌else◌}
use Rattle.std.specs.List.{range_with_len}
use Rattle.std.proofs.lemmas.Bool.Decides.{nat_tests}
use Rattle.std.proofs.lemmas.List.{map_push, length-take-le}
use Rattle.std.proofs.Math.Seq.{take-suc}
use Rattle.evac_model.specs.declared.names.FrameNo.{FrameNo}
use Rattle.evac_model.specs.declared.names.Kind.{Kind}
use Rattle.evac_model.specs.declared.names.PageNo.{PageNo}
use Rattle.evac_model.specs.declared.call.Call.{Call}
use Rattle.evac_model.specs.declared.call.Call.TheVariants.{Alloc, Free, Read, Write, Add, Pin, Unpin}
use Rattle.evac_model.specs.Geometry.{Sizes}
use Rattle.evac_model.specs.Calls.{IsCallFor}
use Rattle.evac_words.specs.Word.{taken_bit, mapped_bit}
use Rattle.core_state.specs.declared.step.MoveStep.TheVariants as moves
use Rattle.core_state.specs.declared.step.Step.{Step}
use Rattle.core_state.specs.declared.step.Step.TheVariants as steps
use Rattle.machine.specs.declared.action.Action.{Action}
use Rattle.machine.specs.declared.action.Action.TheVariants as actions
use Rattle.machine.specs.declared.action.Heard.{Heard}
use Rattle.machine.specs.declared.action.SpaceCall.TheVariants.{Lease}
use Rattle.core_actors.specs.declared.action.LeaseSeen.{LeaseSeen}
use Rattle.core_actors.specs.declared.action.LeaseSeen.TheVariants.{NotAsked, Got, Refused}
use Rattle.core_actors.specs.declared.place.Place.{Place}
use Rattle.core_actors.specs.declared.place.Place.TheVariants.{Between, InCall}
use Rattle.core_actors.specs.declared.place.CallPlace.{CallPlace}
use Rattle.core_actors.specs.declared.place.CallPlace.TheVariants.{Zero, MarkZeros, Take, Draw, Load, Store, Mark, Map, Unmap, Release}
use Rattle.core_actors.specs.CallSteps.{first_cell, load_count, values_of, is_freed, load_steps, store_steps, cell_steps, middle_steps, as_actions, lead_actions, map_actions, mapping_actions, call_actions}
use Rattle.core_actors.specs.Places.{frame_in, first_action, action_at, word_in, lease_in, zero_from, behind_lease, behind_take, store_from, behind_loads, load_from, cells_behind, map_behind, behind_draw, behind_first, place_behind, frame_owed, ends_call}
use Rattle.core_actors.specs.Owners.{OwnerState, next_action, owner_after}
use Rattle.core_actors.specs.Counts.{IsAlloc, NamesCells, IsLeaseOf, ComesTo, IsUnderWay}
use Rattle.core_actors.specs.CallRuns.{listed, made_hearing, after_hearing}
use Rattle.core_actors.proofs.Cases.{by_test, if_then, same_either}
use Rattle.core_actors.proofs.UnderWay.{stays_under_way}
use Rattle.core_actors.proofs.HasAt.{all_taken}
use Rattle.core_actors.proofs.Kept.{calls_end}
use Rattle.core_actors.proofs.LeaseKept.{take_owes, first_owes}

-- ---- lists of steps

range_push : {A : Type 0} (f : ℕ → A) (first n : ℕ) → map f (range_with_len first (suc n)) ≡ map f (range_with_len first n) ++ f (first + n) ∷ []
range_push f first zero = let e : first ≡ first + 0 = omega arith in ap (λ (k : ℕ). f k ∷ []) e
range_push f first (suc n) =
    let e : first + 1 + n ≡ first + suc n = omega arith in
    ap (λ l. f first ∷ l) (range_push f (first + 1) n ∙ ap (λ (k : ℕ). map f (range_with_len (first + 1) n) ++ f k ∷ []) e)

range_one_more : {A : Type 0} (f : ℕ → A) (first n : ℕ) → map f (range_with_len first (n + 1)) ≡ map f (range_with_len first n) ++ f (first + n) ∷ []
range_one_more f first n = let e : n + 1 ≡ suc n = omega arith in ap (λ (k : ℕ). map f (range_with_len first k)) e ∙ range_push f first n

store_push : (frame : FrameNo) (first : ℕ) (xs : List ℕ) (x : ℕ) → store_steps frame first (xs ++ x ∷ []) ≡ store_steps frame first xs ++ steps.Store frame (first + length xs) x ∷ []
store_push frame first [] x = let e : first ≡ first + 0 = omega arith in ap (λ (k : ℕ). steps.Store frame k x ∷ []) e
store_push frame first (y ∷ ys) x =
    let e : first + 1 + length ys ≡ first + length (y ∷ ys) = omega arith in
    ap (λ (l : List Step). steps.Store frame first y ∷ l) (store_push frame (first + 1) ys x ∙ ap (λ (k : ℕ). store_steps frame (first + 1) ys ++ steps.Store frame k x ∷ []) e)

as_push : (xs : List Step) (x : Step) → as_actions (xs ++ x ∷ []) ≡ as_actions xs ++ actions.Step x ∷ []
as_push xs x = map_push (λ (s : Step). actions.Step s) xs x

-- ---- what a call has made at each of its places

module _ (cells : ℕ) (page : PageNo) where
  abbrev asked : Call → List Action
  asked (Alloc kind) = actions.Space (Lease page kind) ∷ []
  asked call = []

  abbrev begun : List Action → List Action
  begun behind = actions.Step (steps.Take page) ∷ actions.Step steps.Draw ∷ behind

  abbrev zeros : FrameNo → ℕ → List Action
  zeros frame n = as_actions (map (λ cell. steps.Store frame cell 0) (range_with_len 0 n))

  abbrev loaded : Call → ℕ → List Step
  loaded call n = load_steps (first_cell call) n

  abbrev stored : Call → ℕ → List ℕ → List Step
  stored call found values = loaded call (load_count call) ++ store_steps (frame_in found) (first_cell call) values

  abbrev pub done_in : Call → CallPlace → List Action
  done_in call (Zero frame cell) = asked call ++ zeros frame cell
  done_in call (MarkZeros frame) = asked call ++ zeros frame cells
  done_in call (Take lease) = lead_actions cells page call lease
  done_in call (Draw lease found) = lead_actions cells page call lease ++ actions.Step (steps.Take page) ∷ []
  done_in call (Load found loads) = begun (as_actions (loaded call (length loads)))
  done_in call (Store found loads i) = begun (as_actions (stored call found (take i (values_of loads call))))
  done_in call (Mark found loads) = begun (as_actions (stored call found (values_of loads call)))
  done_in call (Map frame kind found) = lead_actions cells page call (Got frame) ++ begun []
  done_in call (Unmap found) = begun []
  done_in call (Release lease found loads) = lead_actions cells page call lease ++ begun (as_actions (middle_steps found loads call)) ++ mapping_actions call lease found

  -- ---- zeros

  done_zeros : (call : Call) (frame : FrameNo) (cell : ℕ) → cell ≤ cells → done_in call (zero_from cells frame cell) ≡ asked call ++ zeros frame cell
  done_zeros call frame cell le = if_then (λ (at : CallPlace). done_in call at ≡ asked call ++ zeros frame cell) (nat_lt cell cells) (Zero frame cell) (MarkZeros frame) (λ t. refl)
      (λ f. let e : cells ≡ cell = grind (arith, nat_tests) in ap (λ (n : ℕ). asked call ++ zeros frame n) e)

  zero_made : (call : Call) (frame : FrameNo) (cell : ℕ) → cell < cells → done_in call (zero_from cells frame (cell + 1)) ≡ (asked call ++ zeros frame cell) ++ actions.Step (steps.Store frame cell 0) ∷ []
  zero_made call frame cell lt =
      let e : 0 + cell ≡ cell = omega arith in
      done_zeros call frame (cell + 1) (omega arith)
      ∙ (ap (λ (l : List Step). asked call ++ as_actions l) (range_one_more (λ (i : ℕ). steps.Store frame i 0) 0 cell ∙ ap (λ (k : ℕ). map (λ (i : ℕ). steps.Store frame i 0) (range_with_len 0 cell) ++ steps.Store frame k 0 ∷ []) e)
      ∙ (ap (λ (l : List Action). asked call ++ l) (as_push (map (λ (i : ℕ). steps.Store frame i 0) (range_with_len 0 cell)) (steps.Store frame cell 0))
      ∙ sym (append_assoc (asked call) (zeros frame cell) (actions.Step (steps.Store frame cell 0) ∷ []))))

  marked_made : (call : Call) (frame : FrameNo) → IsAlloc call → lead_actions cells page call (Got frame) ≡ (asked call ++ zeros frame cells) ++ actions.Step (steps.Mark frame) ∷ []
  marked_made (Alloc kind) frame alloc = ap (λ (l : List Action). actions.Space (Lease page kind) ∷ l) (as_push (map (λ cell. steps.Store frame cell 0) (range_with_len 0 cells)) (steps.Mark frame))
  marked_made Free frame alloc = absurd alloc
  marked_made (Read first count) frame alloc = absurd alloc
  marked_made (Write first values) frame alloc = absurd alloc
  marked_made (Add cell value) frame alloc = absurd alloc
  marked_made Pin frame alloc = absurd alloc
  marked_made Unpin frame alloc = absurd alloc

  -- ---- the cells

  -- a call with steps on cells, where it has made them
  cells_done : (found : ℕ) (loads : List ℕ) (call : Call) (b : Bool) → NamesCells call → (mapped_bit found == 1) ≡ b
      → done_in call (Release NotAsked found loads) ≡ begun (as_actions (if b then cell_steps (frame_in found) loads call else []))
  cells_done found loads (Alloc kind) b names e = absurd names
  cells_done found loads Free b names e = absurd names
  cells_done found loads (Read first count) b names e = append-nil _ ∙ ap (λ (x : Bool). begun (as_actions (if x then cell_steps (frame_in found) loads (Read first count) else []))) e
  cells_done found loads (Write first values) b names e = append-nil _ ∙ ap (λ (x : Bool). begun (as_actions (if x then cell_steps (frame_in found) loads (Write first values) else []))) e
  cells_done found loads (Add cell value) b names e = append-nil _ ∙ ap (λ (x : Bool). begun (as_actions (if x then cell_steps (frame_in found) loads (Add cell value) else []))) e
  cells_done found loads Pin b names e = absurd names
  cells_done found loads Unpin b names e = absurd names

  module _ (s : Sizes) (call : Call) (fits : IsCallFor s call) (names : NamesCells call) (found : ℕ) (mapped : mapped_bit found ≡ 1) (loads : List ℕ) where
    all_loaded : length (values_of loads call) ≡ 0 → cell_steps (frame_in found) loads call ≡ loaded call (load_count call)
    all_loaded none = by_call call fits names none
      where
        by_call : (call : Call) → IsCallFor s call → NamesCells call → length (values_of loads call) ≡ 0 → cell_steps (frame_in found) loads call ≡ loaded call (load_count call)
        by_call (Alloc kind) fits names none = absurd names
        by_call Free fits names none = absurd names
        by_call (Read first count) fits names none = refl
        by_call (Write first values) fits names none = let some = fits.0 in absurd (omega arith)
        by_call (Add cell value) fits names none = absurd (omega arith)
        by_call Pin fits names none = absurd names
        by_call Unpin fits names none = absurd names

    all_stored : 0 < length (values_of loads call) → cell_steps (frame_in found) loads call ≡ stored call found (values_of loads call) ++ steps.Mark (frame_in found) ∷ []
    all_stored some = by_call call names some
      where
        by_call : (call : Call) → NamesCells call → 0 < length (values_of loads call) → cell_steps (frame_in found) loads call ≡ stored call found (values_of loads call) ++ steps.Mark (frame_in found) ∷ []
        by_call (Alloc kind) names some = absurd names
        by_call Free names some = absurd names
        by_call (Read first count) names some = absurd (omega arith)
        by_call (Write first values) names some = refl
        by_call (Add cell value) names some = refl
        by_call Pin names some = absurd names
        by_call Unpin names some = absurd names

    done_loads : length loads ≤ load_count call → done_in call (load_from call found loads) ≡ begun (as_actions (loaded call (length loads)))
    done_loads le = if_then (λ (at : CallPlace). done_in call at ≡ begun (as_actions (loaded call (length loads)))) (nat_lt (length loads) (load_count call)) (Load found loads) (behind_loads call found loads) (λ t. refl)
        (λ f.
        let all : load_count call ≡ length loads = grind (arith, nat_tests) in
        if_then (λ (at : CallPlace). done_in call at ≡ begun (as_actions (loaded call (length loads)))) (length (values_of loads call) == 0) (Release NotAsked found loads) (Store found loads 0)
        (λ t. cells_done found loads call true names (eq-eqb (mapped_bit found) 1 mapped)
        ∙ (ap (λ (l : List Step). begun (as_actions l)) (all_loaded (eqb-true (length (values_of loads call)) 0 t))
        ∙ ap (λ (n : ℕ). begun (as_actions (loaded call n))) all))
        (λ g. ap (λ (l : List Step). begun (as_actions l)) (append-nil (loaded call (load_count call))) ∙ ap (λ (n : ℕ). begun (as_actions (loaded call n))) all))

    done_stores : (i : ℕ) → i ≤ length (values_of loads call) → done_in call (store_from call found loads i) ≡ begun (as_actions (stored call found (take i (values_of loads call))))
    done_stores i le = if_then (λ (at : CallPlace). done_in call at ≡ begun (as_actions (stored call found (take i (values_of loads call))))) (nat_lt i (length (values_of loads call))) (Store found loads i) (Mark found loads) (λ t. refl)
        (λ f. ap (λ (l : List ℕ). begun (as_actions (stored call found l))) (sym (all_taken (values_of loads call) i (grind (arith, nat_tests)))))

    load_made : (word : ℕ) → length loads < load_count call → begun (as_actions (loaded call (length (loads ++ word ∷ [])))) ≡ begun (as_actions (loaded call (length loads))) ++ actions.Step (steps.Load (first_cell call + length loads)) ∷ []
    load_made word lt =
        ap (λ (n : ℕ). begun (as_actions (loaded call n))) (length-append loads (word ∷ []))
        ∙ (ap (λ (l : List Step). begun (as_actions l)) (range_one_more (λ (i : ℕ). steps.Load i) (first_cell call) (length loads))
        ∙ ap begun (as_push (loaded call (length loads)) (steps.Load (first_cell call + length loads))))

    store_made : (i : ℕ) → i < length (values_of loads call)
        → begun (as_actions (stored call found (take (i + 1) (values_of loads call)))) ≡ begun (as_actions (stored call found (take i (values_of loads call)))) ++ actions.Step (steps.Store (frame_in found) (first_cell call + i) (get_or (values_of loads call) i 0)) ∷ []
    store_made i lt =
        let values : List ℕ = values_of loads call in
        let next : i + 1 ≡ suc i = omega arith in
        let x : Step = steps.Store (frame_in found) (first_cell call + i) (get_or values i 0) in
        let pushed : store_steps (frame_in found) (first_cell call) (take (i + 1) values) ≡ store_steps (frame_in found) (first_cell call) (take i values) ++ x ∷ [] =
        ap (λ (l : List ℕ). store_steps (frame_in found) (first_cell call) l) (ap (λ (k : ℕ). take k values) next ∙ take-suc values i 0 lt)
        ∙ (store_push (frame_in found) (first_cell call) (take i values) (get_or values i 0)
        ∙ ap (λ (k : ℕ). store_steps (frame_in found) (first_cell call) (take i values) ++ steps.Store (frame_in found) (first_cell call + k) (get_or values i 0) ∷ []) (length-take-le i values (omega arith))) in
        ap (λ (l : List Step). begun (as_actions (loaded call (load_count call) ++ l))) pushed
        ∙ (ap (λ (l : List Step). begun (as_actions l)) (sym (append_assoc (loaded call (load_count call)) (store_steps (frame_in found) (first_cell call) (take i values)) (x ∷ [])))
        ∙ ap begun (as_push (stored call found (take i values)) x))

    mark_made : 0 < length (values_of loads call) → done_in call (Release NotAsked found loads) ≡ begun (as_actions (stored call found (values_of loads call))) ++ actions.Step (steps.Mark (frame_in found)) ∷ []
    mark_made some =
        cells_done found loads call true names (eq-eqb (mapped_bit found) 1 mapped)
        ∙ (ap (λ (l : List Step). begun (as_actions l)) (all_stored some) ∙ ap begun (as_push (stored call found (values_of loads call)) (steps.Mark (frame_in found))))

  -- ---- behind the draw

  drawn_cells : (s : Sizes) (call : Call) → IsCallFor s call → NamesCells call → (found : ℕ) → done_in call (cells_behind call found) ≡ begun []
  drawn_cells s call fits names found = if_then (λ (at : CallPlace). done_in call at ≡ begun []) (mapped_bit found == 1) (load_from call found []) (Release NotAsked found [])
      (λ t. done_loads s call fits names found (eqb-true (mapped_bit found) 1 t) [] (omega arith))
      (λ f. cells_done found [] call false names f)

  drawn_pins : (found : ℕ) → done_in Pin (Release NotAsked found []) ≡ begun []
  drawn_pins found = append-nil _ ∙ ap (λ (l : List Step). begun (as_actions l)) (same_either (mapped_bit found == 1) [])

  alloc_kept : (kind : Kind) (lease : LeaseSeen) (found : ℕ) (b : Bool) → (if b then [] else map_actions kind lease) ≡ []
      → lead_actions cells page (Alloc kind) lease ++ begun (as_actions (if b then [] else [])) ++ (if b then [] else map_actions kind lease) ≡ lead_actions cells page (Alloc kind) lease ++ begun []
  alloc_kept kind lease found true none = append-nil _
  alloc_kept kind lease found false none = ap (λ (l : List Action). lead_actions cells page (Alloc kind) lease ++ begun [] ++ l) none ∙ append-nil _

  drawn_alloc : (kind : Kind) (lease : LeaseSeen) (found : ℕ) → lease ≢ NotAsked → done_in (Alloc kind) (map_behind kind lease found) ≡ lead_actions cells page (Alloc kind) lease ++ begun []
  drawn_alloc kind NotAsked found some = absurd (some refl)
  drawn_alloc kind (Got frame) found some = if_then (λ (at : CallPlace). done_in (Alloc kind) at ≡ lead_actions cells page (Alloc kind) (Got frame) ++ begun []) (mapped_bit found == 1) (Release (Got frame) found []) (Map frame kind found)
      (λ t. alloc_kept kind (Got frame) found (mapped_bit found == 1) (ap (λ (b : Bool). if b then [] else map_actions kind (Got frame)) t)) (λ f. refl)
  drawn_alloc kind (Refused i) found some = alloc_kept kind (Refused i) found (mapped_bit found == 1) (same_either (mapped_bit found == 1) [])

  free_done : (found : ℕ) (b freed : Bool) → begun (as_actions (if b then [] else [])) ++ (if freed then actions.Move moves.Unmap ∷ [] else []) ≡ begun (if freed then actions.Move moves.Unmap ∷ [] else [])
  free_done found true freed = refl
  free_done found false freed = refl

  drawn_free : (found : ℕ) → done_in Free (if is_freed found then Unmap found else Release NotAsked found []) ≡ begun []
  drawn_free found = if_then (λ (at : CallPlace). done_in Free at ≡ begun []) (is_freed found) (Unmap found) (Release NotAsked found []) (λ t. refl)
      (λ f. free_done found (mapped_bit found == 1) (is_freed found) ∙ ap (λ (b : Bool). begun (if b then actions.Move moves.Unmap ∷ [] else [])) f)

  -- the actions before the take of a call without a lease
  drawn_by : (s : Sizes) (call : Call) (lease : LeaseSeen) (found : ℕ) → IsCallFor s call → IsLeaseOf call lease → done_in call (behind_draw call lease found) ≡ lead_actions cells page call lease ++ begun []
  drawn_by s (Alloc kind) lease found fits is = drawn_alloc kind lease found is
  drawn_by s Free lease found fits is = drawn_free found
  drawn_by s (Read first count) lease found fits is = drawn_cells s (Read first count) fits tt found
  drawn_by s (Write first values) lease found fits is = drawn_cells s (Write first values) fits tt found
  drawn_by s (Add cell value) lease found fits is = drawn_cells s (Add cell value) fits tt found
  drawn_by s Pin lease found fits is = drawn_pins found
  drawn_by s Unpin lease found fits is = drawn_pins found

  map_made : (call : Call) (frame : FrameNo) (kind : Kind) (found : ℕ) → call ≡ Alloc kind → mapped_bit found ≢ 1 → done_in call (Release (Got frame) found []) ≡ (lead_actions cells page call (Got frame) ++ begun []) ++ actions.Move (moves.Map frame kind) ∷ []
  map_made call frame kind found e ne =
      subst (λ (x : Call). done_in x (Release (Got frame) found []) ≡ (lead_actions cells page x (Got frame) ++ begun []) ++ actions.Move (moves.Map frame kind) ∷ []) (sym e) (rw (ne_eqb (mapped_bit found) 1 ne) refl)

  unmap_made : (call : Call) (found : ℕ) → call ≡ Free → is_freed found ≡ true → done_in call (Release NotAsked found []) ≡ begun [] ++ actions.Move moves.Unmap ∷ []
  unmap_made call found e freed =
      ap (λ (x : Call). done_in x (Release NotAsked found [])) e
      ∙ (free_done found (mapped_bit found == 1) (is_freed found) ∙ ap (λ (b : Bool). begun (if b then actions.Move moves.Unmap ∷ [] else [])) freed)

-- ---- from one action to the next

module _ (s : Sizes) (page : PageNo) (call : Call) (fits : IsCallFor s call) where
  abbrev pub c : PageNo × Call
  c = (page, call)

  abbrev pub done_at : Place → List Action
  done_at (Between back) = []
  done_at (InCall at) = done_in s.cells page call at

  -- the actions made before, the one at the place, and those behind
  abbrev pub Goes : Place → Action → Heard → Place → Type 0
  Goes place action heard next = (behind : List Action) → done_at place ++ listed action heard behind ≡ done_at next ++ behind

  one_more : (done next behind : List Action) (x : Action) → next ≡ done ++ x ∷ [] → done ++ x ∷ behind ≡ next ++ behind
  one_more done next behind x e = sym (append_assoc done (x ∷ []) behind) ∙ ap (λ (l : List Action). l ++ behind) (sym e)

  taken : (here : Place) (lease : LeaseSeen) (heard : Heard) → done_at here ≡ lead_actions s.cells page call lease → Goes here (actions.Step (steps.Take page)) heard (behind_take here lease (word_in heard))
  taken here lease heard e behind = by_test (taken_bit (word_in heard) == 0)
      (λ t. rw t (one_more (done_at here) (lead_actions s.cells page call lease ++ actions.Step (steps.Take page) ∷ []) behind (actions.Step (steps.Take page)) (ap (λ (l : List Action). l ++ actions.Step (steps.Take page) ∷ []) (sym e))))
      (λ f. rw f refl)

  pub goes : (at : CallPlace) (heard : Heard) → ComesTo s.cells call at → ends_call (InCall at) ≡ false → Goes (InCall at) (action_at c at) heard (place_behind s.cells call at heard)
  goes (Zero frame cell) heard way same behind = one_more (done_at (InCall (Zero frame cell))) _ behind (action_at c (Zero frame cell)) (zero_made s.cells page call frame cell way.1)
  goes (MarkZeros frame) heard way same behind = one_more (done_at (InCall (MarkZeros frame))) _ behind (action_at c (MarkZeros frame)) (marked_made s.cells page call frame way)
  goes (Take lease) heard way same behind = taken (InCall (Take lease)) lease heard refl behind
  goes (Draw lease found) heard way same behind = one_more (done_at (InCall (Draw lease found))) _ behind (action_at c (Draw lease found)) (drawn_by s.cells page s call lease found fits way ∙ sym (append_assoc (lead_actions s.cells page call lease) (actions.Step (steps.Take page) ∷ []) (actions.Step steps.Draw ∷ [])))
  goes (Load found loads) heard way same behind = one_more (done_at (InCall (Load found loads))) _ behind (action_at c (Load found loads))
      (done_loads s.cells page s call fits way.0 found way.1 (loads ++ word_in heard ∷ []) (let few = way.2 in let more = length-append loads (word_in heard ∷ []) in omega arith)
      ∙ load_made s.cells page s call fits way.0 found way.1 loads (word_in heard) way.2)
  goes (Store found loads i) heard way same behind = one_more (done_at (InCall (Store found loads i))) _ behind (action_at c (Store found loads i))
      (done_stores s.cells page s call fits way.0 found way.1 loads (i + 1) (let lt = way.3 in omega arith) ∙ store_made s.cells page s call fits way.0 found way.1 loads i way.3)
  goes (Mark found loads) heard way same behind = one_more (done_at (InCall (Mark found loads))) _ behind (action_at c (Mark found loads)) (mark_made s.cells page s call fits way.0 found way.1 loads way.3)
  goes (Map frame kind found) heard way same behind = one_more (done_at (InCall (Map frame kind found))) _ behind (action_at c (Map frame kind found)) (map_made s.cells page call frame kind found way.0 way.1)
  goes (Unmap found) heard way same behind = one_more (done_at (InCall (Unmap found))) _ behind (action_at c (Unmap found)) (unmap_made s.cells page call found way.0 way.1)
  goes (Release lease found loads) heard way same behind = absurd cc

begins_with : (s : Sizes) (page : PageNo) (kind : Kind) (lease : LeaseSeen) → done_in s.cells page (Alloc kind) (behind_lease s.cells lease) ≡ actions.Space (Lease page kind) ∷ []
begins_with s page kind NotAsked = refl
begins_with s page kind (Got frame) = done_zeros s.cells page (Alloc kind) frame 0 (omega arith)
begins_with s page kind (Refused i) = refl

pub begins : (s : Sizes) (page : PageNo) (call : Call) (fits : IsCallFor s call) (heard : Heard) → Goes s page call fits (Between None) (first_action (page, call)) heard (behind_first s.cells call heard)
begins s page (Alloc kind) fits heard behind = ap (λ (l : List Action). l ++ behind) (sym (begins_with s page kind (lease_in heard)))
begins s page Free fits heard behind = taken s page Free fits (Between None) NotAsked heard refl behind
begins s page (Read first count) fits heard behind = taken s page (Read first count) fits (Between None) NotAsked heard refl behind
begins s page (Write first values) fits heard behind = taken s page (Write first values) fits (Between None) NotAsked heard refl behind
begins s page (Add cell value) fits heard behind = taken s page (Add cell value) fits (Between None) NotAsked heard refl behind
begins s page Pin fits heard behind = taken s page Pin fits (Between None) NotAsked heard refl behind
begins s page Unpin fits heard behind = taken s page Unpin fits (Between None) NotAsked heard refl behind

-- ---- all actions of a call

module _ (owner cells : ℕ) where
  abbrev state : Place → List (PageNo × Call) → OwnerState
  state place left = record { owner = owner; cells = cells; left = left; place = place }

  no_more_at : (place : Place) (left : List (PageNo × Call)) (heard : Heard) → length (owner_after (state place left) heard).left ≤ length left
  no_more_at (Between (Some frame)) left heard = omega arith
  no_more_at (Between None) [] heard = omega arith
  no_more_at (Between None) (c ∷ cs) heard = omega arith
  no_more_at (InCall at) [] heard = omega arith
  no_more_at (InCall at) (c ∷ cs) heard = subst (λ (l : List (PageNo × Call)). length l ≤ length (c ∷ cs)) (calls_end c cs at)
      (if_then (λ (l : List (PageNo × Call)). length l ≤ length (c ∷ cs)) (ends_call (InCall at)) cs (c ∷ cs) (λ t. omega arith) (λ f. omega arith))

no_more : (a : OwnerState) (heards : List Heard) → length (after_hearing a heards).left ≤ length a.left
no_more a [] = omega arith
no_more a (heard ∷ rest) =
    let one : length (owner_after a heard).left ≤ length a.left = no_more_at a.owner a.cells a.place a.left heard in
    omega (arith, no_more (owner_after a heard) rest)

module _ (owner : ℕ) (s : Sizes) (page : PageNo) (call : Call) (fits : IsCallFor s call) (cs : List (PageNo × Call)) (lease : LeaseSeen) (found : ℕ) (loads : List ℕ) where
  abbrev at : Place → OwnerState
  at place = state owner s.cells place ((page, call) ∷ cs)

  abbrev the_end : Place
  the_end = InCall (Release lease found loads)

  -- from a place on, up to the release
  abbrev Runs : List Heard → Place → Type 0
  Runs heards place = IsUnderWay (at place) → frame_owed place ≡ None → after_hearing (at place) heards ≡ at the_end → done_at s page call fits place ++ made_hearing (at place) heards ≡ done_at s page call fits the_end

  runs_on : (heard : Heard) (rest : List Heard) (place : CallPlace) → ends_call (InCall place) ≡ false → Runs rest (place_behind s.cells call place heard) → frame_owed (place_behind s.cells call place heard) ≡ None
      → owner_after (at (InCall place)) heard ≡ at (place_behind s.cells call place heard) → Runs (heard ∷ rest) (InCall place)
  runs_on heard rest place goes_on later owes same way none e =
      let next : Place = place_behind s.cells call place heard in
      goes s page call fits place heard way goes_on (made_hearing (owner_after (at (InCall place)) heard) rest)
      ∙ (ap (λ (a : OwnerState). done_at s page call fits next ++ made_hearing a rest) same
      ∙ later (subst IsUnderWay same (stays_under_way (at (InCall place)) heard way)) owes (ap (λ (a : OwnerState). after_hearing a rest) (sym same) ∙ e))

  runs : (heards : List Heard) (place : Place) → Runs heards place
  runs [] place way none e = append-nil (done_at s page call fits place) ∙ ap (λ (a : OwnerState). done_at s page call fits a.place) e
  runs (heard ∷ rest) (Between (Some frame)) way none e = absurd cc
  runs (heard ∷ rest) (Between None) way none e =
      begins s page call fits heard (made_hearing (owner_after (at (Between None)) heard) rest)
      ∙ runs rest (behind_first s.cells call heard) (stays_under_way (at (Between None)) heard way) (first_owes s.cells call heard) e
  runs (heard ∷ rest) (InCall (Zero frame cell)) way none e = runs_on heard rest (Zero frame cell) refl (runs rest _) refl refl way none e
  runs (heard ∷ rest) (InCall (MarkZeros frame)) way none e = runs_on heard rest (MarkZeros frame) refl (runs rest _) refl refl way none e
  runs (heard ∷ rest) (InCall (Take l)) way none e = runs_on heard rest (Take l) refl (runs rest _) (take_owes (InCall (Take l)) l (word_in heard) refl) refl way none e
  runs (heard ∷ rest) (InCall (Draw l f)) way none e = runs_on heard rest (Draw l f) refl (runs rest _) refl refl way none e
  runs (heard ∷ rest) (InCall (Load f xs)) way none e = runs_on heard rest (Load f xs) refl (runs rest _) refl refl way none e
  runs (heard ∷ rest) (InCall (Store f xs i)) way none e = runs_on heard rest (Store f xs i) refl (runs rest _) refl refl way none e
  runs (heard ∷ rest) (InCall (Mark f xs)) way none e = runs_on heard rest (Mark f xs) refl (runs rest _) refl refl way none e
  runs (heard ∷ rest) (InCall (Map frame kind f)) way none e = runs_on heard rest (Map frame kind f) refl (runs rest _) refl refl way none e
  runs (heard ∷ rest) (InCall (Unmap f)) way none e = runs_on heard rest (Unmap f) refl (runs rest _) refl refl way none e
  -- behind the release fewer calls are left
  runs (heard ∷ rest) (InCall (Release l f xs)) way none e =
      let few = no_more (owner_after (at (InCall (Release l f xs))) heard) rest in
      let long : length (after_hearing (owner_after (at (InCall (Release l f xs))) heard) rest).left ≡ length ((page, call) ∷ cs) = ap (λ (a : OwnerState). length a.left) e in
      absurd (omega arith)

  pub makes_its_actions : (heards : List Heard) → after_hearing (at (Between None)) heards ≡ at the_end → made_hearing (at (Between None)) heards ++ next_action (at the_end) ∷ [] ≡ call_actions s.cells page call lease found loads
  makes_its_actions heards e = ap (λ (l : List Action). l ++ next_action (at the_end) ∷ []) (runs heards (Between None) tt refl e)
