-- One frame goes from the hand of one seat to that of another: the hands then, and the world, where the one seat is the
-- driver's or an owner's and the other that of the free frames.
use Rattle.std.proofs.Common.{◌≡◌, ◌≢◌, ◌⊎◌, ◌↔◌, ℕ, zero, suc, ◌+◌, ◌<◌, ◌≤◌, ◌&&◌, ◌||◌, true, false, List, [], ◌∷◌, length, get_or, set, sym, ap, ◌∙◌, subst, inl, inr, arith, Option, None, IsSome, IsSomeAnd}
use Rattle.std.proofs.lemmas.Bool.{cases_lt}
use mathlib.Core.Logic.{dite}
use native.Mathlib.Decide.{ℕ_discrete}
use Rattle.evac_model.specs.declared.space.SpaceAction.{SpaceAction}
use Rattle.evac_model.specs.Geometry.{frame_count}
use Rattle.evac_model.specs.Numbers.{is_in}
use Rattle.evac_model.specs.SpaceJournal.{Out, SpaceState, out_for, is_frame_of, is_frame_in, IsPossibleJournal}
use Rattle.evac_model.proofs.Options.{some_from_test}
use Rattle.evac_words.specs.Word.{mapped_bit, frame_of}
use Rattle.core_state.specs.declared.hand.HandFrame.{HandFrame}
use Rattle.core_state.specs.declared.opening.Opening.{Opening}
use Rattle.core_state.specs.declared.view.View.{View}
use Rattle.core_state.specs.HandOvers.{IsAtRest, MayHandOver, hand_without, hand_with, views_after_hand_over}
use Rattle.core_state.specs.Views.{view_of, hand_frame}
use Rattle.core_state.specs.Words.{entry_word_of}
use Rattle.core_state.proofs.PassedFrames.{without_more, place_left, with_more, without_none, with_none}
use Rattle.core_moves.proofs.Moves.{in_range as hand_in_range}
use Rattle.machine.specs.Consistent.{IsConsistent}
use Rattle.machine.specs.World.{Setting, World, scanner_seat, free_seat, unplugged_seat, IsOwnerSeat, IsActorSeat, HasFrame, space_at, space_now, device_now, unplugged_now, is_held}
use Rattle.machine.proofs.HandedFrames.{left_behind, brought, kept_by_giver, kept_by_receiver, IsSnapshotKept}

-- ---- hands as lists

pub within : (hand : List (Option HandFrame)) (f : ℕ) (P : HandFrame → Type 0) → IsSomeAnd (get_or hand f None) P → f < length hand
within [] f P some = absurd (nothing f some)
  where
    nothing : (f : ℕ) → IsSomeAnd (get_or [] f None) P → ⊥
    nothing f some = some
within (y ∷ ys) zero P some = omega arith
within (y ∷ ys) (suc f) P some = omega (arith, within ys f P some)

pub hand_without_one : (hand : List (Option HandFrame)) (f : ℕ) → f < length hand → hand_without hand f 1 ≡ set hand f None
hand_without_one hand f lt =
    let e : f + 0 ≡ f = omega arith in
    sym (without_more hand hand f 0 (omega arith) (omega arith))
    ∙ (ap (λ (l : List (Option HandFrame)). set l (f + 0) None) (without_none hand f)
    ∙ ap (λ (i : ℕ). set hand i None) e)

pub hand_with_one : (given had : List (Option HandFrame)) (f : ℕ) → f < length given → f < length had → hand_with had given f 1 ≡ set had f (get_or given f None)
hand_with_one given had f lt_given lt_had =
    let e : f + 0 ≡ f = omega arith in
    sym (with_more given had f 0 (omega arith) (omega arith))
    ∙ (ap (λ (l : List (Option HandFrame)). set l (f + 0) (get_or (hand_without given f 0) (f + 0) None)) (with_none given had f)
    ∙ (ap (λ (x : Option HandFrame). set had (f + 0) x) (place_left given had f 0 (omega arith) (omega arith))
    ∙ ap (λ (i : ℕ). set had i (get_or given i None)) e))

-- ---- one frame changes hands

-- one frame in hand may be handed over
pub one_handed : (o : Opening) (giver receiver : View) (frame : ℕ) → IsAtRest o giver → IsAtRest o receiver → IsSome (hand_frame giver frame) → MayHandOver o giver receiver frame 1
one_handed o giver receiver frame gives takes has =
    let x = some_from_test (hand_frame giver frame) has in
    let lt = hand_in_range o giver frame x.0 gives.seated x.1 in
    record {
      giver_rests = gives;
      receiver_rests = takes;
      in_range = omega arith;
      in_hand = λ f low high. subst (λ (g : ℕ). IsSome (hand_frame giver g)) (let e : frame ≡ f = omega arith in e) has;
    }

beside : (frame f : ℕ) → f ≢ frame → (f < frame) ⊎ (frame + 1 ≤ f)
beside frame f ne = elim (cases_lt f frame) [ inl below ↦ inl below | inr from ↦ inr (omega arith) ]

module _ (o : Opening) (views : List View) (from to : ℕ) (apart : from ≢ to) (from_lt : from < length views) (to_lt : to < length views) (frame : ℕ) (may : MayHandOver o (view_of views from) (view_of views to) frame 1) where
  abbrev after : List View
  after = views_after_hand_over views from to (view_of views from) (view_of views to) frame 1

  -- the giver has all but the frame, and the receiver has it beside what it had
  pub giver_gone : hand_frame (view_of after from) frame ≡ None
  giver_gone = left_behind views from to apart from_lt to_lt frame 1 o may frame (omega arith) (omega arith)

  pub giver_still : (f : ℕ) → f ≢ frame → hand_frame (view_of after from) f ≡ hand_frame (view_of views from) f
  giver_still f ne = kept_by_giver views from to apart from_lt to_lt frame 1 o may f (beside frame f ne)

  pub receiver_has : hand_frame (view_of after to) frame ≡ hand_frame (view_of views from) frame
  receiver_has = brought views from to apart from_lt to_lt frame 1 o may frame (omega arith) (omega arith)

  pub receiver_still : (f : ℕ) → f ≢ frame → hand_frame (view_of after to) f ≡ hand_frame (view_of views to) f
  receiver_still f ne = kept_by_receiver views from to apart from_lt to_lt frame 1 o may f (beside frame f ne)

-- ---- the world then

-- who keeps the free frames has the frame exactly where it is neither out nor in an offline block
abbrev pub IsFreeAs : Setting → SpaceState → View → (frame : ℕ) → Type 0
IsFreeAs c st v frame = IsSome (hand_frame v frame) ↔ ((out_for st frame ≡ None) × (is_frame_in c.sizes st.offline frame ≡ false))

-- All but the hands of the actor and of the free frames is as it was, and all but the one frame in them, which no mapped
-- page and no other owner has. An owner's frames are out then, and the driver has those of the blocks that it holds.
pub record IsMoved (c : Setting) (w : World) (seat frame : ℕ) (views : List View) (journal : List SpaceAction) : Type 0 where
  pub actor : IsActorSeat c seat
  pub snapshot : IsSnapshotKept c w (record { words = w.snapshot.words; views = views })
  pub others : (other : ℕ) → other ≢ seat → other ≢ free_seat c → view_of views other ≡ view_of w.snapshot.views other
  pub possible : IsPossibleJournal c.sizes c.online c.space journal
  pub offline : (space_at c journal).offline ≡ (space_now c w).offline
  pub out : (f : ℕ) → f ≢ frame → out_for (space_at c journal) f ≡ out_for (space_now c w) f
  pub free : (f : ℕ) → f ≢ frame → hand_frame (view_of views (free_seat c)) f ≡ hand_frame (view_of w.snapshot.views (free_seat c)) f
  pub here : IsFreeAs c (space_at c journal) (view_of views (free_seat c)) frame
  pub unmapped : (page : ℕ) → page < c.sizes.pages → mapped_bit (entry_word_of w.snapshot.words page) ≡ 1 → frame_of (entry_word_of w.snapshot.words page) ≢ frame
  pub in_no_hand : (other : ℕ) → IsOwnerSeat c other → other ≢ seat → ¬ HasFrame w other frame
  pub in_hand : IsOwnerSeat c seat → (f : ℕ) → IsSome (hand_frame (view_of views seat) f) → out_for (space_at c journal) f ≢ None
  pub driver : seat ≡ 0 → (block f : ℕ) → is_held c w block ≡ true → is_frame_of c.sizes block f ≡ true → IsSome (hand_frame (view_of views seat) f)

module _ (c : Setting) (w : World) (kept : IsConsistent c w) (seat frame : ℕ) (views : List View) (journal : List SpaceAction) (h : IsMoved c w seat frame views journal) where
  -- the world with these views and this journal
  abbrev later : World
  later = record w { snapshot = record { words = w.snapshot.words; views = views }; space = journal }

  -- a seat behind those of the actors
  keeper_still : (keeper : ℕ) → c.owners < keeper → keeper ≢ free_seat c → view_of views keeper ≡ view_of w.snapshot.views keeper
  keeper_still keeper behind other = h.others keeper (λ e. let high = h.actor in omega arith) other

  driver_still : seat ≢ 0 → view_of views 0 ≡ view_of w.snapshot.views 0
  driver_still ne = h.others 0 (λ e. ne (sym e)) (λ e. omega arith)

  free_still : (f : ℕ) → f ≢ frame → f < frame_count c.sizes → IsFreeAs c (space_now c later) (view_of views (free_seat c)) f
  free_still f ne low =
      subst (λ (x : Option HandFrame). IsSome x ↔ ((out_for (space_now c later) f ≡ None) × (is_frame_in c.sizes (space_now c later).offline f ≡ false))) (sym (h.free f ne))
      (subst (λ (o : Option Out). HasFrame w (free_seat c) f ↔ ((o ≡ None) × (is_frame_in c.sizes (space_now c later).offline f ≡ false))) (sym (h.out f ne))
      (subst (λ (l : List ℕ). HasFrame w (free_seat c) f ↔ ((out_for (space_now c w) f ≡ None) × (is_frame_in c.sizes l f ≡ false))) (sym h.offline) (kept.free f low)))

  -- the driver holds the same blocks, and has their frames
  pub held_still : (block : ℕ) → is_held c later block ≡ is_held c w block
  held_still block = ap (λ (l : List ℕ). is_in block l && is_in block (device_now c w).plugged) h.offline

  driver_has : (block f : ℕ) → is_held c w block ≡ true → is_frame_of c.sizes block f ≡ true → HasFrame later 0 f
  driver_has block f held its = dite (ℕ_discrete seat 0)
      (λ e. subst (λ (i : ℕ). HasFrame later i f) e (h.driver e block f held its))
      (λ ne. subst (λ (v : View). IsSome (hand_frame v f)) (sym (driver_still ne)) (kept.driver block f held its))

  in_hand_out : (other f : ℕ) → IsOwnerSeat c other → other ≢ seat → HasFrame later other f → out_for (space_now c later) f ≢ None
  in_hand_out other f own ne has =
      let had : HasFrame w other f = subst (λ (v : View). IsSome (hand_frame v f)) (h.others other ne (λ e. let high = own.1 in omega arith)) has in
      let not_it : f ≢ frame = λ e. h.in_no_hand other own ne (subst (λ (g : ℕ). HasFrame w other g) e had) in
      subst (λ (o : Option Out). o ≢ None) (sym (h.out f not_it)) (kept.in_hand other f own had)

  pub moved_kept : IsConsistent c later
  moved_kept = record {
    sound = h.snapshot.sound;
    seats = h.snapshot.seats;
    quiet = h.snapshot.quiet;
    keeper_rests = h.snapshot.keeper_rests;
    unplugged_rests = h.snapshot.unplugged_rests;
    possible = h.possible;
    answered = kept.answered;
    free = λ f low. dite (ℕ_discrete f frame)
        (λ e. subst (λ (g : ℕ). IsFreeAs c (space_now c later) (view_of views (free_seat c)) g) (sym e) h.here)
        (λ ne. free_still f ne low);
    unplugged = λ f low. subst (λ (v : View). IsSome (hand_frame v f) ↔ (is_frame_in c.sizes (unplugged_now c w) f ≡ true)) (sym (keeper_still (unplugged_seat c) (omega arith) (omega arith))) (kept.unplugged f low);
    driver = λ block f held its. driver_has block f (sym (held_still block) ∙ held) its;
    scanner = λ f. ap (λ (v : View). hand_frame v f) (keeper_still (scanner_seat c) (omega arith) (omega arith)) ∙ kept.scanner f;
    offline = λ block. subst (λ (l : List ℕ). is_in block l ≡ (is_in block (unplugged_now c w) || (is_in block l && is_in block (device_now c w).plugged))) (sym h.offline) (kept.offline block);
    mapped = λ page low on. h.out (frame_of (entry_word_of w.snapshot.words page)) (h.unmapped page low on) ∙ kept.mapped page low on;
    in_hand = λ other f own has. dite (ℕ_discrete other seat)
        (λ e. h.in_hand (subst (λ (i : ℕ). IsOwnerSeat c i) e own) f (subst (λ (i : ℕ). IsSome (hand_frame (view_of views i) f)) e has))
        (λ ne. in_hand_out other f own ne has);
  }
