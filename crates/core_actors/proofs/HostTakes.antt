-- What the driver's seat has behind the take of a page that is to be moved, and behind letting a page go.
use Rattle.std.proofs.Common.{◌≡◌, ℕ, ◌<◌, ◌==◌, not, Bool, false, eqb-true, ne_eqb, if◌then◌else◌, List, [], bit_or, refl, sym, ap, ◌∙◌, subst, arith, Option, None, Some, IsSomeAnd}
use Rattle.std.proofs.lemmas.Bool.{eqb-false, or_parts, and_parts, not-false, or_left}
use Rattle.std.proofs.lemmas.Bool.Decides.{nat_tests}
use mathlib.Core.Logic.{dite}
use native.Mathlib.Decide.{ℕ_discrete}
use Rattle.evac_model.specs.declared.evacuation.MoveLease.{MoveLease}
use Rattle.evac_model.specs.declared.names.Kind.TheVariants.{Movable, Unmovable}
use Rattle.evac_model.specs.Page.{Page, kind_of}
use Rattle.evac_model.specs.SpaceJournal.{Out, out_for}
use Rattle.evac_words.specs.Word.{taken_bit, moving_bit, mapped_bit, unmovable_bit, pins_of, frame_of}
use Rattle.evacuate.specs.declared.stage.Stage.{Stage}
use Rattle.evacuate.specs.declared.stage.Stage.TheVariants as stages
use Rattle.evacuate.specs.Found.{maps, is_busy, is_pinned}
use Rattle.evacuate.specs.Tale.{Tale, last_frame}
use Rattle.evacuate.specs.UnderWay.{Stands}
use Rattle.evacuate.proofs.Frames.{next_in_block}
use Rattle.core_state.specs.declared.held.Held.{Held}
use Rattle.core_state.specs.declared.keeper.Keeper.TheVariants.{OneOwner}
use Rattle.core_state.specs.declared.opening.Opening.{Opening}
use Rattle.core_state.specs.declared.step.Step.TheVariants as steps
use Rattle.core_state.specs.declared.view.View.{View}
use Rattle.core_state.specs.Pages.{mapped_as, with_stores, Untouched}
use Rattle.core_state.specs.Steps.{nothing_known, newly_held, MayLetGo, view_after}
use Rattle.core_state.specs.Words.{entry_word_of, kind_in}
use Rattle.core_state.proofs.EntryWords.{same_flags-take}
use Rattle.core_state.proofs.Holding.{held_after_take-free, held_after_take-busy}
use Rattle.core_state.proofs.Pages.{with_stores-nothing}
use Rattle.machine.specs.Consistent.{IsSetting, IsConsistent}
use Rattle.machine.specs.Made.{step_made}
use Rattle.machine.specs.MayMake.{MayStep}
use Rattle.machine.specs.World.{Setting, World, space_now}
use Rattle.core_actors.specs.declared.host_place.HostPlace.TheVariants as places
use Rattle.core_actors.specs.declared.host_place.MovePlace.{MovePlace}
use Rattle.core_actors.specs.declared.host_place.MovePlace.TheVariants.{Beginning, Releasing}
use Rattle.core_actors.specs.Hosts.{HostState}
use Rattle.core_actors.specs.HostHears.{HostHeard, told, moves_on, stays, found, came_of}
use Rattle.core_actors.specs.HostSeat.{frame_moving, IsHeldToMove, Rests, HostSeat}
use Rattle.core_actors.specs.HostSpace.{AreOutByTale, IsSpaceAt, IsEmptying, StaysAt}
use Rattle.core_actors.proofs.Cases.{if_then}
use Rattle.core_actors.proofs.HostViews.{driver_of, Drives, seat_stepped}
use Rattle.core_actors.proofs.HostTold.{giving_back, told_back}

-- ---- a page in which nothing was stored

-- a page that is mapped as it was, or moved, is left as it was taken
pub untouched : (o : Opening) (h : Held) → h.stores ≡ nothing_known o.cells → ((m : Page) → mapped_as o.cells h.change m ≡ m) → Untouched o h
untouched o h none same = λ m could.
    ap (λ (p : Page). with_stores h.stores p) (same m)
    ∙ (ap (λ (l : List (Option ℕ)). with_stores l m) none ∙ with_stores-nothing o.cells m)

-- ---- the word that was found

-- A page that doesn't stay lies in the frame, and where it is movable it has no pins.
record GoesFrom (word frame : ℕ) : Type 0 where
  mapped : mapped_bit word ≡ 1
  there : frame_of word ≡ frame
  no_pins : unmovable_bit word ≡ 0 → pins_of word ≡ 0

goes_from : (word frame : ℕ) → stays word frame ≡ false → GoesFrom word frame
goes_from word frame goes =
    let neither = or_parts (is_busy word frame) (is_pinned word frame) goes in
    let free = or_parts (taken_bit word == 1) (not (maps word frame)) neither.0 in
    let there = and_parts (mapped_bit word == 1) (frame_of word == frame) (not-false (maps word frame) free.1) in
    record {
      mapped = eqb-true (mapped_bit word) 1 there.0;
      there = eqb-true (frame_of word) frame there.1;
      no_pins = λ movable. grind (arith, nat_tests);
    }

bit_of_movable : (bit : ℕ) → kind_of (bit == 0) ≡ Movable → bit ≡ 0
bit_of_movable bit movable = dite (ℕ_discrete bit 0)
    (λ e. e)
    (λ ne. absurd (let other : Unmovable ≡ Movable = ap (λ (b : Bool). kind_of b) (sym (ne_eqb bit 0 ne)) ∙ movable in cc))

-- ---- the take

module _ (c : Setting) (w : World) (h : HostState) (t : Tale) (lease : MoveLease) (set : IsSetting c) (k : IsConsistent c w) (e : IsEmptying c w h t) (stage : h.evacuation.stage ≡ stages.Moving lease) where
  -- what is out in the frame is out as a movable page
  movable_there : (x : Out) → out_for (space_now c w) lease.from.0 ≡ Some x → x.kind ≡ Movable
  movable_there x out =
      let stands : Stands h.evacuation t (stages.Moving lease) = subst (λ (s : Stage). Stands h.evacuation t s) stage e.goes_by.stands in
      let space : AreOutByTale (space_now c w) h.evacuation t = subst (λ (s : Stage). IsSpaceAt (space_now c w) h.evacuation t s) stage e.space in
      (space lease.from.0 x (next_in_block h.evacuation.sizes h.evacuation.block (last_frame t.attempts) lease.from.0 stands.0.next) out).movable

  module _ (plugged : List ℕ) (d : Drives c w (driver_of w) (Some (record { frame = lease.target.0; page = lease.page.0 }))) (rests : Rests (driver_of w)) (may : MayStep c 0 w (steps.Take lease.page)) where
    abbrev v : View
    v = driver_of w

    -- the word found
    abbrev n : ℕ
    n = entry_word_of w.snapshot.words lease.page.0

    abbrev u : View
    u = view_after OneOwner v (steps.Take lease.page) n

    low : lease.page.0 < c.opening.pages
    low = may.allowed.in_range

    abbrev SeatIn : HostHeard → Type 0
    SeatIn x = HostSeat c (step_made c 0 w (steps.Take lease.page)).world x.state

    -- ---- somebody holds the page

    seat_busy : taken_bit n ≡ 1 → SeatIn (told plugged h (came_of (Some n)))
    seat_busy taken =
        subst SeatIn (sym (told_back plugged h lease (Some n) stage (or_left (is_busy n lease.from.0) (is_pinned n lease.from.0) (or_left (taken_bit n == 1) (not (maps n lease.from.0)) (ap (λ (b : ℕ). b == 1) taken)))))
        (seat_stepped c w k (giving_back h lease (Some n)) (steps.Take lease.page) tt d
        (held_after_take-busy v.cells lease.page n (λ free. omega arith), rests.1))

    -- ---- it is held now

    module _ (free : taken_bit n ≡ 0) where
      abbrev held : Held
      held = newly_held v.cells lease.page n

      held_now : u.held ≡ Some held
      held_now = held_after_take-free v.cells lease.page n free

      still : moving_bit (bit_or n 1) ≡ 0
      still = (same_flags-take n).moving ∙ (k.sound.pages.free lease.page.0 low (k.sound.turn.taken_by_one lease.page.0 low ∙ free)).still

      none_stored : held.stores ≡ nothing_known c.opening.cells
      none_stored = ap (λ (m : ℕ). nothing_known m) d.driver.seated.cells

      may_go : MayLetGo c.opening u held
      may_go = record { still = still; undrawn = refl; right = d.driver.rights lease.page.0 low; untouched = untouched c.opening held none_stored (λ m. refl) }

      to_move : stays n lease.from.0 ≡ false → IsHeldToMove c.opening.cells lease 0 held
      to_move goes =
          let word = goes_from n lease.from.0 goes in
          let flags = same_flags-take n in
          let out : out_for (space_now c w) lease.from.0 ≡ Some (record { page = lease.page.0; kind = kind_in n }) =
          ap (λ (f : ℕ). out_for (space_now c w) f) (sym word.there) ∙ k.mapped lease.page.0 (let pages = set.pages in omega arith) word.mapped in
          let movable : unmovable_bit n ≡ 0 = bit_of_movable (unmovable_bit n) (movable_there (record { page = lease.page.0; kind = kind_in n }) out) in
          record {
            page = refl;
            undrawn = refl;
            change = refl;
            stores = none_stored;
            mapped = flags.mapped ∙ word.mapped;
            frame = flags.frame ∙ word.there;
            movable = flags.unmovable ∙ movable;
            no_pins = flags.pins ∙ word.no_pins movable;
            moving_now = still;
          }

      seat_free : SeatIn (moves_on h lease (if stays n lease.from.0 then Releasing (Some n) else Beginning))
      seat_free = if_then (λ (at : MovePlace). SeatIn (moves_on h lease at)) (stays n lease.from.0) (Releasing (Some n)) Beginning
          (λ t. seat_stepped c w k (record h { place = places.Moving lease (Releasing (Some n)) }) (steps.Take lease.page) tt d
          (rests.1, subst (λ (m : Option Held). IsSomeAnd m (MayLetGo c.opening u)) (sym held_now) may_go))
          (λ f. seat_stepped c w k (record h { place = places.Moving lease Beginning }) (steps.Take lease.page) tt d
          (rests.1, subst (λ (m : Option Held). IsSomeAnd m (IsHeldToMove c.opening.cells lease 0)) (sym held_now) (to_move f)))

    pub seat_taken : SeatIn (found plugged h lease n)
    seat_taken = if_then SeatIn (taken_bit n == 1) (told plugged h (came_of (Some n))) (moves_on h lease (if stays n lease.from.0 then Releasing (Some n) else Beginning))
        (λ t. seat_busy (eqb-true (taken_bit n) 1 t))
        (λ f. seat_free (let ne = eqb-false (taken_bit n) 1 f in omega arith))

-- ---- letting go

-- a page is let go, and the frame that is in hand for it is the one to be given back
module _ (c : Setting) (w : World) (h : HostState) (lease : MoveLease) (k : IsConsistent c w) (marked : (driver_of w).unmarked ≡ []) where
  seat_back : (came : Option ℕ) → Drives c w (driver_of w) (Some (record { frame = (frame_moving lease (Releasing came)).0; page = lease.page.0 })) → HostSeat c (step_made c 0 w (steps.Release None)).world (giving_back h lease came)
  seat_back None d = seat_stepped c w k (giving_back h lease None) (steps.Release None) tt d (refl, marked)
  seat_back (Some word) d = seat_stepped c w k (giving_back h lease (Some word)) (steps.Release None) tt d (refl, marked)

  pub seat_released : (plugged : List ℕ) (came : Option ℕ) → h.evacuation.stage ≡ stages.Moving lease → StaysAt lease (Releasing came) → Drives c w (driver_of w) (Some (record { frame = (frame_moving lease (Releasing came)).0; page = lease.page.0 }))
      → HostSeat c (step_made c 0 w (steps.Release None)).world (told plugged h (came_of came)).state
  seat_released plugged came stage stays d =
      subst (λ (x : HostHeard). HostSeat c (step_made c 0 w (steps.Release None)).world x.state) (sym (told_back plugged h lease came stage stays)) (seat_back came d)
