-- What the driver's seat has behind the begin of a move, and while the cells of the page are copied to the target.
use Rattle.std.proofs.Common.{◌≡◌, ℕ, ◌+◌, ◌<◌, ◌≤◌, ◌==◌, nat_lt, if◌then◌else◌, List, get_or, get_or-set_same, get_or-set_other, set, refl, sym, ap, ◌∙◌, subst, arith, Option, None, Some, IsSomeAnd}
use Rattle.std.proofs.lemmas.Bool.Decides.{nat_tests}
use mathlib.Core.Logic.{dite}
use native.Mathlib.Decide.{ℕ_discrete}
use Rattle.evac_model.specs.declared.evacuation.MoveLease.{MoveLease}
use Rattle.evac_model.specs.Geometry.{Sizes}
use Rattle.evac_model.proofs.Bounds.{power_to_512_least}
use Rattle.evac_model.proofs.Lists.{get_or-replicate_same}
use Rattle.evac_model.proofs.Options.{some_from_test, some_and}
use Rattle.evac_words.specs.Word.{taken_bit, mapped_bit, unmovable_bit, pins_of, frame_of, bound_of}
use Rattle.core_state.specs.declared.hand.HandFrame.{HandFrame}
use Rattle.core_state.specs.declared.held.Held.{Held}
use Rattle.core_state.specs.declared.keeper.Keeper.TheVariants.{OneOwner}
use Rattle.core_state.specs.declared.opening.Opening.{Opening}
use Rattle.core_state.specs.declared.step.MoveStep.TheVariants as moves
use Rattle.core_state.specs.declared.step.Step.TheVariants as steps
use Rattle.core_state.specs.declared.view.View.{View}
use Rattle.core_state.specs.MoveSteps.{held_after_begin, view_after_move}
use Rattle.core_state.specs.Stepped.{word_found}
use Rattle.core_state.specs.Steps.{nothing_known, held_word, note, with_load, with_store, with_hand_store, view_after}
use Rattle.core_state.specs.Views.{hand_frame}
use Rattle.core_state.specs.Words.{moving_word}
use Rattle.core_state.proofs.EntryWords.{Fits, moving_bit-packed, mapped_bit-packed, unmovable_bit-packed, pins_of-packed, frame_of-packed}
use Rattle.core_state.proofs.FrameSteps.{hand-set_same}
use Rattle.core_state.proofs.SeatSteps.{held_room, hand_room}
use Rattle.machine.specs.CellNumbers.{HaveNumbersInCells}
use Rattle.machine.specs.Consistent.{IsSetting, IsConsistent}
use Rattle.machine.specs.Made.{step_made, move_made}
use Rattle.machine.specs.World.{Setting, World}
use Rattle.core_actors.specs.declared.host_place.HostPlace.TheVariants as places
use Rattle.core_actors.specs.declared.host_place.MovePlace.{MovePlace}
use Rattle.core_actors.specs.declared.host_place.MovePlace.TheVariants.{Beginning, Loading, Storing, Marking, Remapping}
use Rattle.core_actors.specs.Hosts.{HostState}
use Rattle.core_actors.specs.HostSeat.{IsHeldToMove, AreCopied, IsCopying, HasLoaded, IsMovingAt, HostSeat}
use Rattle.core_actors.proofs.Cases.{if_then}
use Rattle.core_actors.proofs.Unmarked.{unmarked_now, marked_now, more_unmarked}
use Rattle.core_actors.proofs.HostViews.{driver_of, driver_there, driver_as, held_frame_low, held_elsewhere, Drives, seat_stepped, seat_moved}

-- ---- a page of which some cells are copied

-- the page and the target
pub record Copies (o : Opening) (v : View) (lease : MoveLease) (n : ℕ) : Type 0 where
  pub page : Held
  pub held : v.held ≡ Some page
  pub to_move : IsHeldToMove o.cells lease 1 page
  pub target : HandFrame
  pub in_hand : hand_frame v lease.target.0 ≡ Some target
  pub copied : AreCopied n page target

module _ (o : Opening) (v : View) (lease : MoveLease) (n : ℕ) where
  pub copies : IsCopying o v lease n → Copies o v lease n
  copies is =
      let p = some_and v.held (λ h. IsHeldToMove o.cells lease 1 h × IsSomeAnd (hand_frame v lease.target.0) (AreCopied n h)) is in
      let x = some_and (hand_frame v lease.target.0) (AreCopied n p.0) p.2.1 in
      record { page = p.0; held = p.1; to_move = p.2.0; target = x.0; in_hand = x.1; copied = x.2 }

  pub copying : Copies o v lease n → IsCopying o v lease n
  copying q =
      subst (λ (m : Option Held). IsSomeAnd m (λ h. IsHeldToMove o.cells lease 1 h × IsSomeAnd (hand_frame v lease.target.0) (AreCopied n h))) (sym q.held) (
        q.to_move,
        subst (λ (m : Option HandFrame). IsSomeAnd m (AreCopied n q.page)) (sym q.in_hand) q.copied,
      )

-- the page is the same but for its loads
as_loaded : (cells : ℕ) (lease : MoveLease) (h : Held) (loads : List (Option ℕ)) → IsHeldToMove cells lease 1 h → IsHeldToMove cells lease 1 (record h { loads = loads })
as_loaded cells lease h loads m = record {
  page = m.page;
  undrawn = m.undrawn;
  change = m.change;
  stores = m.stores;
  mapped = m.mapped;
  frame = m.frame;
  movable = m.movable;
  no_pins = m.no_pins;
  moving_now = m.moving_now;
}

-- the same, once its move has begun
as_begun : (cells : ℕ) (lease : MoveLease) (h : Held) (loads : List (Option ℕ)) → IsHeldToMove cells lease 0 h → IsHeldToMove cells lease 1 (record h { word = moving_word h.word; loads = loads })
as_begun cells lease h loads m =
    let n = h.word in
    let fits : Fits (taken_bit n) 1 (mapped_bit n) (unmovable_bit n) (pins_of n) (frame_of n) =
    record { taken_fits = omega arith; moving_fits = omega arith; mapped_fits = omega arith; unmovable_fits = omega arith; pins_fits = omega arith; frame_fits = omega arith } in
    record {
      page = m.page;
      undrawn = m.undrawn;
      change = m.change;
      stores = m.stores;
      mapped = mapped_bit-packed (taken_bit n) 1 (mapped_bit n) (unmovable_bit n) (pins_of n) (frame_of n) (bound_of n) fits ∙ m.mapped;
      frame = frame_of-packed (taken_bit n) 1 (mapped_bit n) (unmovable_bit n) (pins_of n) (frame_of n) (bound_of n) fits ∙ m.frame;
      movable = unmovable_bit-packed (taken_bit n) 1 (mapped_bit n) (unmovable_bit n) (pins_of n) (frame_of n) (bound_of n) fits ∙ m.movable;
      no_pins = pins_of-packed (taken_bit n) 1 (mapped_bit n) (unmovable_bit n) (pins_of n) (frame_of n) (bound_of n) fits ∙ m.no_pins;
      moving_now = moving_bit-packed (taken_bit n) 1 (mapped_bit n) (unmovable_bit n) (pins_of n) (frame_of n) (bound_of n) fits;
    }

-- ---- the steps

module _ (c : Setting) (w : World) (h : HostState) (lease : MoveLease) (k : IsConsistent c w) (d : Drives c w (driver_of w) (Some (record { frame = lease.target.0; page = lease.page.0 }))) where
  abbrev v : View
  v = driver_of w

  abbrev moving_at : MovePlace → HostState
  moving_at at = record h { place = places.Moving lease at }

  -- ---- the move begins

  begun : 0 < c.opening.cells → IsMovingAt c.opening v lease Beginning → IsMovingAt c.opening (view_after_move OneOwner v moves.Moving) lease (Loading 0)
  begun some_cells at =
      let p = some_and v.held (IsHeldToMove c.opening.cells lease 0) at.1 in
      let g = p.0 in
      let x = some_from_test (hand_frame v lease.target.0) d.has.0 in
      let copied : Copies c.opening (view_after_move OneOwner v moves.Moving) lease 0 = record {
        page = record g { word = moving_word g.word; loads = nothing_known v.cells };
        held = ap (λ (m : Option Held). held_after_begin v m) p.1;
        to_move = as_begun c.opening.cells lease g (nothing_known v.cells) p.2;
        target = x.0;
        in_hand = x.1;
        copied = λ cell below. absurd (omega arith);
      } in
      (at.0, some_cells, copying c.opening (view_after_move OneOwner v moves.Moving) lease 0 copied)

  pub seat_begun : IsSetting c → IsMovingAt c.opening v lease Beginning → HostSeat c (move_made 0 w moves.Moving).world (moving_at (Loading 0))
  seat_begun set at =
      let some_cells : 0 < c.opening.cells = let same = set.cells in let least = power_to_512_least c.sizes.cells set.limits.cells in omega arith in
      let behind : Drives c w (view_after_move OneOwner v moves.Moving) (Some (record { frame = lease.target.0; page = lease.page.0 })) = record {
        driver = driver_as c.opening v (view_after_move OneOwner v moves.Moving) refl refl refl refl refl refl d.driver;
        has = d.has;
        hand = d.hand;
      } in
      seat_moved c w k (moving_at (Loading 0)) moves.Moving behind (begun some_cells at)

  -- ---- a cell is loaded

  module _ (cell : ℕ) (at : IsMovingAt c.opening v lease (Loading cell)) where
    abbrev value : ℕ
    value = word_found c.opening w.snapshot.words v (steps.Load cell)

    abbrev loaded : View
    loaded = view_after OneOwner v (steps.Load cell) value

    q : Copies c.opening v lease cell
    q = copies c.opening v lease cell at.2

    abbrev page : Held
    page = record q.page { loads = set (q.page).loads cell (Some value) }

    loaded_held : loaded.held ≡ Some page
    loaded_held =
        ap (λ (m : Option Held). with_load m cell value) q.held
        ∙ (ap (λ (l : List (Option ℕ)). Some (record q.page { loads = note (get_or l cell None) (q.page).loads cell value })) q.to_move.stores
        ∙ ap (λ (m : Option ℕ). Some (record q.page { loads = note m (q.page).loads cell value })) (get_or-replicate_same c.opening.cells cell None))

    still_copied : Copies c.opening loaded lease cell
    still_copied = record {
      page = page;
      held = loaded_held;
      to_move = as_loaded c.opening.cells lease q.page (set (q.page).loads cell (Some value)) q.to_move;
      target = q.target;
      in_hand = q.in_hand;
      copied = λ i below. let a = q.copied i below in (a.0, get_or-set_other (q.page).loads cell i (Some value) None (λ e. absurd (omega arith)) ∙ a.1, a.2);
    }

    has_loaded : HasLoaded loaded cell value
    has_loaded =
        let long = (held_room c.opening w.snapshot.views k.sound.seats 0 v (driver_there c w k) q.page q.held).loads in
        let low = at.1 in
        subst (λ (m : Option Held). IsSomeAnd m (λ g. get_or g.loads cell None ≡ Some value)) (sym loaded_held)
        (get_or-set_same (q.page).loads cell (Some value) None (omega arith))

    pub seat_loaded : HaveNumbersInCells c w.snapshot.words → HostSeat c (step_made c 0 w (steps.Load cell)).world (moving_at (Storing cell value))
    seat_loaded numbers =
        let word : held_word v.held ≡ (q.page).word = ap (λ (m : Option Held). held_word m) q.held in
        let there : frame_of (held_word v.held) < c.opening.frames = subst (λ (n : ℕ). frame_of n < c.opening.frames) (sym word) (held_frame_low c w k q.page q.held q.to_move.mapped) in
        seat_stepped c w k (moving_at (Storing cell value)) (steps.Load cell) tt d
        (at.0, at.1, numbers (frame_of (held_word v.held)) cell there at.1, copying c.opening loaded lease cell still_copied, has_loaded)

  -- ---- and stored in the target

  module _ (cell value : ℕ) (at : IsMovingAt c.opening v lease (Storing cell value)) where
    abbrev stored : View
    stored = view_after OneOwner v (steps.Store lease.target cell value) 0

    p : Copies c.opening v lease cell
    p = copies c.opening v lease cell at.3

    abbrev target : HandFrame
    target = record p.target { stores = set (p.target).stores cell (Some value) }

    stored_held : stored.held ≡ Some p.page
    stored_held =
        ap (λ (m : Option Held). with_store m lease.target.0 cell value) p.held
        ∙ ap (λ (n : ℕ). Some (if n == 1 then record p.page { stores = set (p.page).stores cell (Some value) } else p.page)) (held_elsewhere c w k p.page p.held lease.target.0 p.target p.in_hand)

    stored_hand : hand_frame stored lease.target.0 ≡ Some target
    stored_hand =
        hand-set_same v.hand lease.target.0 (with_hand_store (hand_frame v lease.target.0) cell value) (λ none. ap (λ (m : Option HandFrame). with_hand_store m cell value) none)
        ∙ ap (λ (m : Option HandFrame). with_hand_store m cell value) p.in_hand

    loaded_there : get_or (p.page).loads cell None ≡ Some value
    loaded_there = subst (λ (m : Option Held). IsSomeAnd m (λ g. get_or g.loads cell None ≡ Some value)) p.held at.4

    stored_there : get_or target.stores cell None ≡ Some value
    stored_there =
        let long = hand_room c.opening w.snapshot.views k.sound.seats 0 v (driver_there c w k) lease.target.0 p.target p.in_hand in
        let low = at.1 in
        get_or-set_same (p.target).stores cell (Some value) None (omega arith)

    abbrev IsCellCopied : ℕ → Type 0
    IsCellCopied i = (x : ℕ) × (get_or (p.page).loads i None ≡ Some x) × (get_or target.stores i None ≡ Some x)

    more_copied : AreCopied (cell + 1) p.page target
    more_copied = λ i below. dite (ℕ_discrete i cell)
        (λ e. subst IsCellCopied (sym e) (value, loaded_there, stored_there))
        (λ ne. let a = p.copied i (omega arith) in (a.0, a.1, get_or-set_other (p.target).stores cell i (Some value) None ne ∙ a.2))

    one_more : IsCopying c.opening stored lease (cell + 1)
    one_more = copying c.opening stored lease (cell + 1) (record { page = p.page; held = stored_held; to_move = p.to_move; target = target; in_hand = stored_hand; copied = more_copied })

    pub seat_stored : h.sizes ≡ c.sizes → IsSetting c
        → HostSeat c (step_made c 0 w (steps.Store lease.target cell value)).world (moving_at (if nat_lt (cell + 1) h.sizes.cells then Loading (cell + 1) else Marking))
    seat_stored sizes set =
        let same : h.sizes.cells ≡ c.opening.cells = ap (λ (s : Sizes). s.cells) sizes ∙ sym set.cells in
        let marks = unmarked_now v lease.target cell at.0 in
        let low = at.1 in
        if_then (λ (x : MovePlace). HostSeat c (step_made c 0 w (steps.Store lease.target cell value)).world (moving_at x)) (nat_lt (cell + 1) h.sizes.cells) (Loading (cell + 1)) Marking
        (λ t. let next : cell + 1 < h.sizes.cells = grind (arith, nat_tests) in
        seat_stepped c w k (moving_at (Loading (cell + 1))) (steps.Store lease.target cell value) tt d (marks ∙ more_unmarked cell lease.target, omega arith, one_more))
        (λ f. let last : h.sizes.cells ≤ cell + 1 = grind (arith, nat_tests) in
        let all : cell + 1 ≡ c.opening.cells = omega arith in
        seat_stepped c w k (moving_at Marking) (steps.Store lease.target cell value) tt d (marks, subst (λ (n : ℕ). IsCopying c.opening stored lease n) all one_more))

  -- ---- and the target is marked

  pub seat_marked : IsMovingAt c.opening v lease Marking → HostSeat c (step_made c 0 w (steps.Mark lease.target)).world (moving_at Remapping)
  seat_marked at = seat_stepped c w k (moving_at Remapping) (steps.Mark lease.target) tt d (marked_now v lease.target 1 at.0, at.1)
