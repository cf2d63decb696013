-- The views behind a hand-over of frames: the giver has none of them any more, the receiver has them, and all else
-- is as it was.
use Rattle.std.proofs.Common.{◌≡◌, ◌≢◌, ℕ, ◌+◌, ◌*◌, ◌<◌, ◌≤◌, ◌⊎◌, Bool, true, false, not, ◌&&◌, ◌||◌, List, [], length, length-set, get_or-set_same, get_or-set_other, set, refl, sym, ap, subst, ◌∙◌, arith, inl, inr, Option, None, is_some}
use Rattle.std.specs.List.{range_with_len}
use Rattle.std.proofs.lemmas.Bool.{cases_Bool, cases_eq, and_right, or_right}
use Rattle.evac_model.specs.Geometry.{Sizes, first_frame}
use Rattle.evac_model.specs.SpaceJournal.{is_frame_in}
use Rattle.core_state.specs.declared.hand.HandFrame.{HandFrame}
use Rattle.core_state.specs.declared.opening.Opening.{Opening}
use Rattle.core_state.specs.declared.snapshot.Snapshot.{Snapshot}
use Rattle.core_state.specs.declared.view.View.{View}
use Rattle.core_state.specs.Views.{view_of, spent, hand_frame}
use Rattle.core_state.specs.HandOvers.{IsAtRest, MayHandOver, hand_without, hand_with, views_after_hand_over}
use Rattle.core_state.specs.Sound.{Sound}
use Rattle.core_state.proofs.HandParts.{left_giver, came, stayed, was_there, length-without, length-with}
use Rattle.core_state.proofs.Rooms.{seat_has}
use Rattle.core_moves.proofs.HandOvers.{hand_overs_keep_sound}
use Rattle.machine.specs.Consistent.{IsQuiet, IsConsistent}
use Rattle.machine.specs.Made.{handed_frames}
use Rattle.machine.specs.World.{Setting, World, free_seat, unplugged_seat}
use Rattle.machine.proofs.BlockFrames.{frame_within, frame_outside}
use Rattle.machine.proofs.Quiet.{quiet_handed}

-- whether the seat has the frame in hand
abbrev pub has_frame : List View → (seat frame : ℕ) → Bool
has_frame views seat frame = is_some (hand_frame (view_of views seat) frame)

-- a view at rest, with another hand of the same length
rests_with : (o : Opening) (v : View) (hand : List (Option HandFrame)) → IsAtRest o v → length hand ≡ length v.hand → IsAtRest o (record v { hand = hand })
rests_with o v hand rests long = record {
  seated = record { cells = rests.seated.cells; hand = long ∙ rests.seated.hand; image = rests.seated.image };
  holds_none = rests.holds_none;
  all_marked = rests.all_marked;
}

module _ (views : List View) (from to : ℕ) (apart : from ≢ to) (from_lt : from < length views) (to_lt : to < length views) (first n : ℕ) where
  abbrev giver : View
  giver = view_of views from

  abbrev receiver : View
  receiver = view_of views to

  abbrev after : List View
  after = views_after_hand_over views from to giver receiver first n

  abbrev given : View
  given = record giver { hand = hand_without giver.hand first n }

  abbrev got : View
  got = record receiver { hand = hand_with receiver.hand giver.hand first n }

  -- the views of the two seats, and of any other
  pub giver_after : view_of after from ≡ given
  giver_after = get_or-set_other (set views from given) to from got spent apart ∙ get_or-set_same views from given spent from_lt

  pub receiver_after : view_of after to ≡ got
  receiver_after = get_or-set_same (set views from given) to got spent (let l = length-set views from given in omega arith)

  pub other_after : (seat : ℕ) → seat ≢ from → seat ≢ to → view_of after seat ≡ view_of views seat
  other_after seat not_from not_to = get_or-set_other (set views from given) to seat got spent not_to ∙ get_or-set_other views from seat given spent not_from

  pub long_after : length after ≡ length views
  long_after = length-set (set views from given) to got ∙ length-set views from given

  -- seats at rest stay so
  pub rests_after : (o : Opening) → MayHandOver o giver receiver first n → (seat : ℕ) → IsAtRest o (view_of views seat) → IsAtRest o (view_of after seat)
  rests_after o may seat rests = elim (cases_eq seat from) [
    | inl here ↦
        let gives : IsAtRest o given = rests_with o giver (hand_without giver.hand first n) may.giver_rests (length-without o giver receiver first n may) in
        subst (λ (k : ℕ). IsAtRest o (view_of after k)) (sym here) (subst (λ (v : View). IsAtRest o v) (sym giver_after) gives)
    | inr not_from ↦ elim (cases_eq seat to) [
      | inl here ↦
          let takes : IsAtRest o got = rests_with o receiver (hand_with receiver.hand giver.hand first n) may.receiver_rests (length-with o giver receiver first n may) in
          subst (λ (k : ℕ). IsAtRest o (view_of after k)) (sym here) (subst (λ (v : View). IsAtRest o v) (sym receiver_after) takes)
      | inr not_to ↦ subst (λ (v : View). IsAtRest o v) (sym (other_after seat not_from not_to)) rests
    ]
  ]

  -- the frames in the two hands
  module _ (o : Opening) (may : MayHandOver o giver receiver first n) (f : ℕ) where
    pub left_behind : first ≤ f → f < first + n → hand_frame (view_of after from) f ≡ None
    left_behind low high = ap (λ (v : View). hand_frame v f) giver_after ∙ left_giver o giver receiver first n may f low high

    pub brought : first ≤ f → f < first + n → hand_frame (view_of after to) f ≡ hand_frame giver f
    brought low high = ap (λ (v : View). hand_frame v f) receiver_after ∙ came o giver receiver first n may f low high

    pub kept_by_giver : (f < first) ⊎ (first + n ≤ f) → hand_frame (view_of after from) f ≡ hand_frame giver f
    kept_by_giver out = ap (λ (v : View). hand_frame v f) giver_after ∙ stayed o giver receiver first n may f out

    pub kept_by_receiver : (f < first) ⊎ (first + n ≤ f) → hand_frame (view_of after to) f ≡ hand_frame receiver f
    kept_by_receiver out = ap (λ (v : View). hand_frame v f) receiver_after ∙ was_there o giver receiver first n may f out

-- the frames of these blocks went from the hand of one seat to that of another
pub record AreHanded (s : Sizes) (before after : List View) (from to : ℕ) (blocks : List ℕ) : Type 0 where
  pub others : (seat : ℕ) → seat ≢ from → seat ≢ to → view_of after seat ≡ view_of before seat
  pub giver : (f : ℕ) → has_frame after from f ≡ (has_frame before from f && not (is_frame_in s blocks f))
  pub receiver : (f : ℕ) → has_frame after to f ≡ (has_frame before to f || is_frame_in s blocks f)

but_all : (x y : Bool) → y ≡ true → (x && not y) ≡ false
but_all x y h = and_right x (not y) (ap not h)

pub but_none : (x y : Bool) → y ≡ false → (x && not y) ≡ x
but_none true y h = ap not h
but_none false y h = refl

pub or_none : (x y : Bool) → y ≡ false → (x || y) ≡ x
or_none true y h = refl
or_none false y h = h

-- there are no blocks
pub none_handed : (s : Sizes) (views : List View) (from to : ℕ) (blocks : List ℕ) → blocks ≡ [] → AreHanded s views views from to blocks
none_handed s views from to blocks none =
    let empty : (f : ℕ) → is_frame_in s blocks f ≡ false = λ f. ap (λ (l : List ℕ). is_frame_in s l f) none in
    record {
      others = λ seat not_from not_to. refl;
      giver = λ f. sym (but_none (has_frame views from f) (is_frame_in s blocks f) (empty f));
      receiver = λ f. sym (or_none (has_frame views to f) (is_frame_in s blocks f) (empty f));
    }

-- the frames are those of a range of blocks
module _ (s : Sizes) (o : Opening) (views : List View) (from to : ℕ) (apart : from ≢ to) (from_lt : from < length views) (to_lt : to < length views) (block count n : ℕ) (long : n ≡ count * s.block)
    (may : MayHandOver o (view_of views from) (view_of views to) (first_frame s block) n) where
  abbrev later : List View
  later = views_after_hand_over views from to (view_of views from) (view_of views to) (first_frame s block) n

  abbrev blocks : List ℕ
  blocks = range_with_len block count

  within_them : (f : ℕ) → is_frame_in s blocks f ≡ true → (first_frame s block ≤ f) × (f < first_frame s block + n)
  within_them f h = let q = frame_within s block count f h in (q.0, omega (arith, q.1, long))

  outside_them : (f : ℕ) → is_frame_in s blocks f ≡ false → (f < first_frame s block) ⊎ (first_frame s block + n ≤ f)
  outside_them f h = elim (frame_outside s block count f h) [ inl l ↦ inl l | inr g ↦ inr (omega (arith, g, long)) ]

  pub blocks_handed : AreHanded s views later from to blocks
  blocks_handed = record {
    others = other_after views from to apart from_lt to_lt (first_frame s block) n;
    giver = λ f. elim (cases_Bool (is_frame_in s blocks f)) [
      | inl in_them ↦
          let q = within_them f in_them in
          ap (λ (x : Option HandFrame). is_some x) (left_behind views from to apart from_lt to_lt (first_frame s block) n o may f q.0 q.1)
          ∙ sym (but_all (has_frame views from f) (is_frame_in s blocks f) in_them)
      | inr other ↦
          ap (λ (x : Option HandFrame). is_some x) (kept_by_giver views from to apart from_lt to_lt (first_frame s block) n o may f (outside_them f other))
          ∙ sym (but_none (has_frame views from f) (is_frame_in s blocks f) other)
    ];
    receiver = λ f. elim (cases_Bool (is_frame_in s blocks f)) [
      | inl in_them ↦
          let q = within_them f in_them in
          ap (λ (x : Option HandFrame). is_some x) (brought views from to apart from_lt to_lt (first_frame s block) n o may f q.0 q.1)
          ∙ (may.in_hand f q.0 q.1 ∙ sym (or_right (has_frame views to f) (is_frame_in s blocks f) in_them))
      | inr other ↦
          ap (λ (x : Option HandFrame). is_some x) (kept_by_receiver views from to apart from_lt to_lt (first_frame s block) n o may f (outside_them f other))
          ∙ sym (or_none (has_frame views to f) (is_frame_in s blocks f) other)
    ];
  }

-- ---- the words and the views by themselves

-- what holds of them between any two actions, where the words are those of this world
pub record IsSnapshotKept (c : Setting) (w : World) (x : Snapshot) : Type 0 where
  pub words : x.words ≡ w.snapshot.words
  pub sound : Sound c.opening x.words x.views
  pub seats : length x.views ≡ c.owners + 4
  pub quiet : IsQuiet x.views
  pub keeper_rests : IsAtRest c.opening (view_of x.views (free_seat c))
  pub unplugged_rests : IsAtRest c.opening (view_of x.views (unplugged_seat c))

-- a hand-over that is allowed keeps it
pub handed_again : (c : Setting) (w : World) (x : Snapshot) → IsSnapshotKept c w x → (from to first n : ℕ) → from ≢ to → from < c.owners + 4 → to < c.owners + 4 → MayHandOver c.opening (view_of x.views from) (view_of x.views to) first n
    → IsSnapshotKept c w (handed_frames x from to first n)
handed_again c w x q from to first n apart from_in to_in may =
    let views : List View = x.views in
    let seats = q.seats in
    let from_lt : from < length x.views = omega arith in
    let to_lt : to < length x.views = omega arith in
    record {
      words = q.words;
      sound = hand_overs_keep_sound c.opening x.words views from to (view_of views from) (view_of views to) first n (seat_has views from from_lt) (seat_has views to to_lt) apart q.sound may;
      seats = long_after views from to apart from_lt to_lt first n ∙ q.seats;
      quiet = quiet_handed x from to first n from_lt to_lt q.quiet;
      keeper_rests = rests_after views from to apart from_lt to_lt first n c.opening may (free_seat c) q.keeper_rests;
      unplugged_rests = rests_after views from to apart from_lt to_lt first n c.opening may (unplugged_seat c) q.unplugged_rests;
    }

module _ (c : Setting) (w : World) (k : IsConsistent c w) where
  pub same_kept : IsSnapshotKept c w w.snapshot
  same_kept = record { words = refl; sound = k.sound; seats = k.seats; quiet = k.quiet; keeper_rests = k.keeper_rests; unplugged_rests = k.unplugged_rests }

  pub handed_kept : (from to first n : ℕ) → from ≢ to → from < c.owners + 4 → to < c.owners + 4 → MayHandOver c.opening (view_of w.snapshot.views from) (view_of w.snapshot.views to) first n
      → IsSnapshotKept c w (handed_frames w.snapshot from to first n)
  handed_kept = handed_again c w w.snapshot same_kept
