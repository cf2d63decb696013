-- What the driver has behind a step: its view is the one behind the step, and no frame comes in its hand or leaves it but by
-- a remap.
use Rattle.std.proofs.Common.{◌≡◌, ◌⊎◌, ℕ, ◌<◌, Bool, false, List, length, length-set, get_or, get_or-set_same, refl, sym, ap, ◌∙◌, subst, inl, inr, ⊎_elim, arith, Option, Some, None, IsSome}
use Rattle.std.specs.Prelude.{IfSome, ⊤}
use Rattle.evac_model.specs.declared.names.Kind.TheVariants.{Movable}
use Rattle.evac_model.specs.SpaceJournal.{out_for}
use Rattle.evac_words.specs.Word.{mapped_bit, frame_of, bit_of}
use Rattle.core_state.specs.declared.hand.HandFrame.{HandFrame}
use Rattle.core_state.specs.declared.held.Held.{Held}
use Rattle.core_state.specs.declared.keeper.Keeper.TheVariants.{OneOwner}
use Rattle.core_state.specs.declared.opening.Opening.{Opening}
use Rattle.core_state.specs.declared.scan.Scan.{Scan}
use Rattle.core_state.specs.declared.snapshot.Snapshot.{Snapshot}
use Rattle.core_state.specs.declared.step.MoveStep.{MoveStep}
use Rattle.core_state.specs.declared.step.Step.{Step}
use Rattle.core_state.specs.declared.step.Step.TheVariants.{Take, Draw, Load, Store, Mark, Release}
use Rattle.core_state.specs.declared.view.View.{View}
use Rattle.core_state.specs.MoveSteps.{view_after_move}
use Rattle.core_state.specs.Stepped.{word_found}
use Rattle.core_state.specs.Steps.{with_hand_store, view_after}
use Rattle.core_state.specs.Views.{Has, view_of, hand_frame, times_in_hand, maps_to, spent}
use Rattle.core_state.specs.Words.{entry_word_of}
use Rattle.core_state.proofs.Frames.{maps_to-one, frame_once, maps_le, owned_in_range}
use Rattle.core_state.proofs.FrameSteps.{some_and, in_hand-some}
use Rattle.core_state.proofs.Lists.{member_le_sum_by}
use Rattle.core_state.proofs.Rooms.{seat_has}
use Rattle.machine.specs.Consistent.{IsConsistent}
use Rattle.machine.specs.Made.{step_made, move_made}
use Rattle.machine.specs.World.{Setting, World, space_now}
use Rattle.machine.proofs.Quiet.{actor_there}
use Rattle.machine.proofs.StepsKept.{hand_before, hand_behind}
use Rattle.core_actors.specs.Hosts.{HostState}
use Rattle.core_actors.specs.HostSeat.{ForPage, for_page, HasForPage, IsThatFrame, IsOfHeldBlock, IsViewAt, IsDriver, HostSeat}

-- ---- the driver's view

abbrev pub driver_of : World → View
driver_of w = view_of w.snapshot.views 0

module _ (c : Setting) (w : World) (k : IsConsistent c w) where
  some_seat : 0 < length w.snapshot.views
  some_seat = actor_there c w 0 k (omega arith)

  pub driver_there : Has w.snapshot.views 0 (driver_of w)
  driver_there = seat_has w.snapshot.views 0 some_seat

  pub driver_stepped : (step : Step) → driver_of (step_made c 0 w step).world ≡ view_after OneOwner (driver_of w) step (word_found c.opening w.snapshot.words (driver_of w) step)
  driver_stepped step = get_or-set_same w.snapshot.views 0 (view_after OneOwner (driver_of w) step (word_found c.opening w.snapshot.words (driver_of w) step)) spent some_seat

  pub driver_moved : (step : MoveStep) → driver_of (move_made 0 w step).world ≡ view_after_move OneOwner (driver_of w) step
  driver_moved step = get_or-set_same w.snapshot.views 0 (view_after_move OneOwner (driver_of w) step) spent some_seat

-- the view of a driver with as many places, and with the same entries, tickets and rights
pub driver_as : (o : Opening) (v u : View) → u.cells ≡ v.cells → length u.hand ≡ length v.hand → u.scan ≡ v.scan → u.entries ≡ v.entries → u.left ≡ v.left → u.mover ≡ v.mover → IsDriver o v → IsDriver o u
driver_as o v u cells hand scan entries left mover d = record {
  seated = record {
    cells = cells ∙ d.seated.cells;
    hand = hand ∙ d.seated.hand;
    image = subst (λ (m : Option Scan). IfSome m (λ z. length z.image ≡ o.frames)) (sym scan) d.seated.image;
  };
  no_entries = entries ∙ d.no_entries;
  no_tickets = left ∙ d.no_tickets;
  rights = λ page low. subst (λ (m : List Bool). 0 < bit_of (get_or m page false)) (sym mover) (d.rights page low);
}

-- ---- the page that it holds

-- The page is one of the machine. Its frame is, too, and is in no hand.
module _ (c : Setting) (w : World) (k : IsConsistent c w) (h : Held) (held : (driver_of w).held ≡ Some h) where
  mine : (h.page.0 < c.opening.pages) × (entry_word_of w.snapshot.words h.page.0 ≡ h.word)
  mine = k.sound.turn.held_word 0 (driver_of w) h (driver_there c w k) held

  pub held_low : h.page.0 < c.opening.pages
  held_low = mine.0

  pub held_frame_low : mapped_bit h.word ≡ 1 → frame_of h.word < c.opening.frames
  held_frame_low mapped = owned_in_range c.opening w.snapshot.words w.snapshot.views k.sound.shaped k.sound.turn k.sound.frames 0 (driver_of w) (frame_of h.word) (driver_there c w k)
      (inr (some_and (driver_of w).held h (λ g. maps_to (frame_of h.word) g.word ≡ 1) held (maps_to-one (frame_of h.word) h.word mapped refl)))

  pub held_elsewhere : (frame : ℕ) (x : HandFrame) → hand_frame (driver_of w) frame ≡ Some x → maps_to frame h.word ≡ 0
  held_elsewhere frame x is =
      let word : maps_to frame (entry_word_of w.snapshot.words h.page.0) ≡ maps_to frame h.word = ap (λ (n : ℕ). maps_to frame n) mine.1 in
      let one = in_hand-some (driver_of w) frame x is in
      let hands = member_le_sum_by (λ u. times_in_hand frame u) w.snapshot.views 0 (driver_of w) (driver_there c w k) in
      let maps = maps_le c.opening w.snapshot.words w.snapshot.views k.sound.shaped k.sound.turn k.sound.frames frame h.page.0 mine.0 in
      let once = frame_once c.opening w.snapshot.words w.snapshot.views k.sound.shaped k.sound.turn k.sound.frames frame in
      omega arith

-- ---- what it has beside its page and its marks

abbrev pub HasOut : Setting → World → View → Option ForPage → Type 0
HasOut c w v None = ⊤
HasOut c w v (Some x) = IsSome (hand_frame v x.frame) × (out_for (space_now c w) x.frame ≡ Some (record { page = x.page; kind = Movable }))

-- It is a driver. In its hand are that frame, which is out for the page, and those of the blocks that it holds.
pub record Drives (c : Setting) (w : World) (v : View) (x : Option ForPage) : Type 0 where
  pub driver : IsDriver c.opening v
  pub has : HasOut c w v x
  pub hand : (frame : ℕ) → IsSome (hand_frame v frame) → IsOfHeldBlock c w frame ⊎ IsThatFrame x frame

module _ (c : Setting) (w : World) where
  has_out : (x : Option ForPage) → HasForPage c w x → HasOut c w (driver_of w) x
  has_out None has = tt
  has_out (Some x) has = (has.in_hand, has.out)

  pub drives_now : (h : HostState) → HostSeat c w h → Drives c w (driver_of w) (for_page h)
  drives_now h seat = record { driver = seat.driver; has = has_out (for_page h) seat.has; hand = seat.hand }

  -- with other words and views, among them this one of the driver's
  module _ (s : Snapshot) (v : View) (is : view_of s.views 0 ≡ v) where
    abbrev later : World
    later = record w { snapshot = s }

    has_there : (x : Option ForPage) → HasOut c w v x → HasForPage c later x
    has_there None has = tt
    has_there (Some x) has = record { in_hand = subst (λ (u : View). IsSome (hand_frame u x.frame)) (sym is) has.0; out = has.1 }

    of_block : (frame : ℕ) → IsOfHeldBlock c w frame → IsOfHeldBlock c later frame
    of_block frame b = record { block = b.block; held = b.held; in_block = b.in_block }

    pub seat_with : (h : HostState) → Drives c w v (for_page h) → IsViewAt c.opening v h.place → HostSeat c later h
    seat_with h d at = record {
      driver = subst (λ (u : View). IsDriver c.opening u) (sym is) d.driver;
      view = subst (λ (u : View). IsViewAt c.opening u h.place) (sym is) at;
      has = has_there (for_page h) d.has;
      hand = λ frame some. ⊎_elim (λ b. inl (of_block frame b)) (λ e. inr e) (d.hand frame (subst (λ (u : View). IsSome (hand_frame u frame)) is some));
    }

-- ---- behind a step

-- the steps that a driver makes on words
abbrev pub IsDriverStep : Step → Type 0
IsDriverStep (Take page) = ⊤
IsDriverStep Draw = ⊥
IsDriverStep (Load cell) = ⊤
IsDriverStep (Store frame cell value) = ⊤
IsDriverStep (Mark frame) = ⊤
IsDriverStep (Release None) = ⊤
IsDriverStep (Release (Some done)) = ⊥

driver_behind : (o : Opening) (v : View) (step : Step) (found : ℕ) → IsDriverStep step → IsDriver o v → IsDriver o (view_after OneOwner v step found)
driver_behind o v (Take page) found its d = driver_as o v (view_after OneOwner v (Take page) found) refl refl refl refl refl refl d
driver_behind o v Draw found its d = absurd its
driver_behind o v (Load cell) found its d = driver_as o v (view_after OneOwner v (Load cell) found) refl refl refl refl refl refl d
driver_behind o v (Store frame cell value) found its d =
    driver_as o v (view_after OneOwner v (Store frame cell value) found) refl (length-set v.hand frame.0 (with_hand_store (hand_frame v frame.0) cell value)) refl refl refl refl d
driver_behind o v (Mark frame) found its d = driver_as o v (view_after OneOwner v (Mark frame) found) refl refl refl refl refl refl d
driver_behind o v (Release None) found its d = driver_as o v (view_after OneOwner v (Release None) found) refl refl refl refl refl refl d
driver_behind o v (Release (Some done)) found its d = absurd its

module _ (c : Setting) (w : World) where
  has_behind : (v : View) (step : Step) (found : ℕ) (x : Option ForPage) → HasOut c w v x → HasOut c w (view_after OneOwner v step found) x
  has_behind v step found None has = tt
  has_behind v step found (Some x) has = (hand_behind OneOwner v step found x.frame has.0, has.1)

  drives_behind : (v : View) (step : Step) (found : ℕ) (x : Option ForPage) → IsDriverStep step → Drives c w v x → Drives c w (view_after OneOwner v step found) x
  drives_behind v step found x its d = record {
    driver = driver_behind c.opening v step found its d.driver;
    has = has_behind v step found x d.has;
    hand = λ frame some. d.hand frame (hand_before OneOwner v step found frame some);
  }

  module _ (k : IsConsistent c w) where
    abbrev found : Step → ℕ
    found step = word_found c.opening w.snapshot.words (driver_of w) step

    -- the host's place behind the step goes with the driver's view then
    pub seat_stepped : (h : HostState) (step : Step) → IsDriverStep step → Drives c w (driver_of w) (for_page h) → IsViewAt c.opening (view_after OneOwner (driver_of w) step (found step)) h.place
        → HostSeat c (step_made c 0 w step).world h
    seat_stepped h step its d at =
        seat_with c w (step_made c 0 w step).world.snapshot (view_after OneOwner (driver_of w) step (found step)) (driver_stepped c w k step) h
        (drives_behind (driver_of w) step (found step) (for_page h) its d) at

    pub seat_moved : (h : HostState) (step : MoveStep) → Drives c w (view_after_move OneOwner (driver_of w) step) (for_page h) → IsViewAt c.opening (view_after_move OneOwner (driver_of w) step) h.place
        → HostSeat c (move_made 0 w step).world h
    seat_moved h step d at = seat_with c w (move_made 0 w step).world.snapshot (view_after_move OneOwner (driver_of w) step) (driver_moved c w k step) h d at
