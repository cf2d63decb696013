-- A machine at its start is consistent: the words and the views are sound, the frames of the start pages are mapped, and
-- the others are in the hands of who keeps the free and the unplugged frames. Nothing is held.
use Rattle.std.proofs.Common.{◌≡◌, ◌≢◌, ◌↔◌, ℕ, zero, suc, ◌+◌, ◌-◌, ◌*◌, ◌<◌, ◌≤◌, eqb, nat_eq, Bool, true, false, not, ◌&&◌, ◌||◌, List, [], ◌∷◌, ◌++◌, length, length-append, map, set, get_or, get_or-set_other, refl, sym, ap, ◌∙◌, subst, eq-eqb, ne_eqb, mul-le-mul_right, arith, Option, Some, None, IsSome}
use Rattle.std.proofs.Math.Bool.{or-false}
use Rattle.std.proofs.Math.Seq.{get_or-append_right}
use Rattle.std.proofs.lemmas.Bool.{false≢true, eqb-false, false_from_ne_true, cond-true, cond-false, and_left, and_right, or_left, or_right}
use Rattle.std.proofs.lemmas.List.{length-replicate, get_or-replicate, get_or_append_left}
use Rattle.std.proofs.lemmas.Map.Keys.{IsDistinct-head, IsDistinct-tail}
use Rattle.std.proofs.lemmas.Option.{none-some}
use Rattle.std.specs.List.{AllByRecursion, IsDistinct, range_with_len}
use mathlib.Core.Logic.{dite}
use native.Mathlib.Decide.{ℕ_discrete, dec_lt}
use Rattle.evac_model.specs.declared.names.Kind.{Kind}
use Rattle.evac_model.specs.declared.scenario.StartPage.{StartPage}
use Rattle.evac_model.specs.DeviceAnswer.{unplugged_blocks}
use Rattle.evac_model.specs.Geometry.{Sizes, IsWithinLimits, IsThereAtStart, frame_count, first_frame}
use Rattle.evac_model.specs.Numbers.{is_in, is_between}
use Rattle.evac_model.specs.SpaceJournal.{out_for, is_frame_in, out_at_start}
use Rattle.evac_model.specs.StartPages.{IsStartPage}
use Rattle.evac_model.proofs.Lists.{all_weaker, get_or-replicate_same}
use Rattle.evac_model.proofs.Members.{is_in-range_with_len}
use Rattle.evac_model.proofs.Numbers.{numbers_agree}
use Rattle.evac_model.proofs.Ranges.{between_inside, between_below, between_above}
use Rattle.evac_words.specs.Word.{mapped_bit, frame_of}
use Rattle.evac_words.specs.Table.{entry_index, table_length}
use Rattle.core_state.specs.declared.hand.HandFrame.{HandFrame}
use Rattle.core_state.specs.declared.view.View.{View}
use Rattle.core_state.specs.Words.{entry_word_of, kind_in, mapped_word}
use Rattle.core_state.specs.CoreOpens.{opening_of, opening_words, opening_views, frames_there, fresh_frame, empty_places, fresh_places, free_hand, unplugged_hand, owner_views, scanner_view, keeper_view, keeper_views}
use Rattle.core_state.specs.HandOvers.{IsAtRest}
use Rattle.core_state.specs.Opens.{Opens}
use Rattle.core_state.specs.Views.{hand_frame, view_of, spent}
use Rattle.core_state.proofs.CoreOpened.{core_opens}
use Rattle.core_state.proofs.Opened.{openings_are_sound}
use Rattle.core_state.proofs.Rooms.{seat_has}
use Rattle.core_state.proofs.Starts.{length-opening_words, frame_within}
use Rattle.core_state.proofs.WordsAt.{entry_word-here, entry_word-other}
use Rattle.core_moves.proofs.MoveWords.{kind_in-mapped, frame_of-mapped}
use Rattle.space.specs.JournaledSpace.{AreStartFrames}
use Rattle.space.proofs.BlockFrames.{frame_from, in_block, frame_in_witness}
use Rattle.space.proofs.Opens.{numbers_between, out_at_place, space_at_start_is_space}
use Rattle.machine.specs.Consistent.{IsSetting, IsConsistent}
use Rattle.machine.specs.Start.{MayStart, setting_at_start, world_at_start}
use Rattle.machine.specs.World.{Setting, World, scanner_seat, free_seat, unplugged_seat, IsOwnerSeat, HasFrame, space_now, unplugged_now, is_held}
use Rattle.machine.proofs.Quiet.{quiet_start}

-- ---- a place without a frame, and one with

nowhere : {A : Type 0} (x : Option A) → x ≡ None → ¬ IsSome x
nowhere {A = A} x none is = false≢true (subst (λ (y : Option A). IsSome y) none is)

somewhere : {A : Type 0} (x : Option A) (a : A) → x ≡ Some a → IsSome x
somewhere {A = A} x a is = subst (λ (y : Option A). IsSome y) (sym is) refl

-- where none is put, none stands
none_put : {A : Type 0} (l : List (Option A)) (k : ℕ) → get_or (set l k None) k None ≡ None
none_put [] k = refl
none_put (x ∷ xs) zero = refl
none_put (x ∷ xs) (suc k) = none_put xs k

-- an empty hand has no frame
pub none_there : (n frame : ℕ) → get_or (empty_places n) frame None ≡ None
none_there n frame = get_or-replicate_same n frame None

module _ (s : Sizes) where
  -- ---- the hands

  -- the start pages' frames are those of the frames that are there that aren't free
  free_at : (ps : List StartPage) (f : ℕ) → IsSome (get_or (free_hand s ps) f None) ↔ ((out_at_start ps f ≡ None) × (f < frames_there s))
  free_at [] f = dite (dec_lt f (frames_there s))
      (λ lt.
      let here : get_or (free_hand s []) f None ≡ Some (fresh_frame s.cells) =
      get_or_append_left (fresh_places s.cells (frames_there s)) (empty_places (frame_count s - frames_there s)) None f (let a = length-replicate {A = Option HandFrame} (frames_there s) (Some (fresh_frame s.cells)) in omega arith)
      ∙ get_or-replicate (frames_there s) f (Some (fresh_frame s.cells)) None lt in
      ((λ is. (refl, lt)), (λ p. somewhere (get_or (free_hand s []) f None) (fresh_frame s.cells) here)))
      (λ ge.
      let none : get_or (free_hand s []) f None ≡ None =
      get_or-append_right (fresh_places s.cells (frames_there s)) (empty_places (frame_count s - frames_there s)) f None (let a = length-replicate {A = Option HandFrame} (frames_there s) (Some (fresh_frame s.cells)) in omega arith)
      ∙ none_there (frame_count s - frames_there s) (f - length (fresh_places s.cells (frames_there s))) in
      ((λ is. absurd (nowhere (get_or (free_hand s []) f None) none is)), (λ p. absurd (ge p.1))))
  free_at (p ∷ ps) f = dite (ℕ_discrete p.frame.0 f)
      (λ e.
      let none : get_or (free_hand s (p ∷ ps)) f None ≡ None = ap (λ (k : ℕ). get_or (set (free_hand s ps) p.frame.0 None) k None) (sym e) ∙ none_put (free_hand s ps) p.frame.0 in
      let out : out_at_start (p ∷ ps) f ≡ Some (record { page = p.page.0; kind = p.kind }) = cond-true (eqb p.frame.0 f) _ _ (eq-eqb p.frame.0 f e) in
      ((λ is. absurd (nowhere (get_or (free_hand s (p ∷ ps)) f None) none is)), (λ q. absurd (none-some _ (sym q.0 ∙ out)))))
      (λ ne.
      let same : get_or (free_hand s (p ∷ ps)) f None ≡ get_or (free_hand s ps) f None = get_or-set_other (free_hand s ps) p.frame.0 f None None (λ e. ne (sym e)) in
      let out : out_at_start (p ∷ ps) f ≡ out_at_start ps f = cond-false (eqb p.frame.0 f) _ _ (ne_eqb p.frame.0 f ne) in
      let rest = free_at ps f in (
        (λ is. let q = rest.0 (subst (λ (x : Option HandFrame). IsSome x) same is) in (out ∙ q.0, q.1)),
        (λ q. subst (λ (x : Option HandFrame). IsSome x) (sym same) (rest.1 (sym out ∙ q.0, q.1))),
      ))

  unplugged_at : (f : ℕ) → f < frame_count s → IsSome (get_or (unplugged_hand s) f None) ↔ (frames_there s ≤ f)
  unplugged_at f below = dite (dec_lt f (frames_there s))
      (λ lt.
      let none : get_or (unplugged_hand s) f None ≡ None =
      get_or_append_left (empty_places (frames_there s)) (fresh_places s.cells (frame_count s - frames_there s)) None f (let a = length-replicate {A = Option HandFrame} (frames_there s) None in omega arith)
      ∙ none_there (frames_there s) f in
      ((λ is. absurd (nowhere (get_or (unplugged_hand s) f None) none is)), (λ le. absurd (omega arith))))
      (λ ge.
      let long = length-replicate {A = Option HandFrame} (frames_there s) None in
      let here : get_or (unplugged_hand s) f None ≡ Some (fresh_frame s.cells) =
      get_or-append_right (empty_places (frames_there s)) (fresh_places s.cells (frame_count s - frames_there s)) f None (omega arith)
      ∙ get_or-replicate (frame_count s - frames_there s) (f - length (empty_places (frames_there s))) (Some (fresh_frame s.cells)) None (omega arith) in
      ((λ is. omega arith), (λ le. somewhere (get_or (unplugged_hand s) f None) (fresh_frame s.cells) here)))

  -- ---- the frames of blocks that aren't plugged

  -- the blocks from a on lie one behind another
  in_range : (a n f : ℕ) → first_frame s a ≤ f → f < first_frame s (a + n) → is_frame_in s (range_with_len a n) f ≡ true
  in_range a zero f from below = absurd (let same : first_frame s (a + 0) ≡ first_frame s a = ap (λ (b : ℕ). first_frame s b) (omega arith) in omega arith)
  in_range a (suc n) f from below = dite (dec_lt f (first_frame s a + s.block))
      (λ here. or_left _ _ (in_block s a f from here))
      (λ past.
      let next : first_frame s (a + 1) ≡ first_frame s a + s.block = omega arith in
      let last : first_frame s (a + 1 + n) ≡ first_frame s (a + suc n) = ap (λ (b : ℕ). first_frame s b) (omega arith) in
      or_right _ _ (in_range (a + 1) n f (omega arith) (omega arith)))

  abbrev not_plugged : List ℕ
  not_plugged = range_with_len s.plugged (s.managed - s.plugged)

  unplugged_from : (b : ℕ) → is_in b not_plugged ≡ true → s.plugged ≤ b
  unplugged_from b there = dite (dec_lt b s.plugged)
      (λ lt. absurd (false≢true (sym (between_below s.plugged (s.plugged + (s.managed - s.plugged)) b lt) ∙ sym (is_in-range_with_len b s.plugged (s.managed - s.plugged)) ∙ there)))
      (λ ge. omega arith)

  offline_there : (f : ℕ) → is_frame_in s not_plugged f ≡ true → frames_there s ≤ f
  offline_there f off =
      let w = frame_in_witness s not_plugged f off in
      let from : (s.boot + s.plugged) * s.block ≤ first_frame s w.0 = mul-le-mul_right s.block (let le = unplugged_from w.0 w.1 in omega arith) in
      let le = frame_from s w.0 f w.2 in omega arith

  there_offline : (f : ℕ) → s.plugged ≤ s.managed → f < frame_count s → frames_there s ≤ f → is_frame_in s not_plugged f ≡ true
  there_offline f few below from =
      let last : first_frame s (s.plugged + (s.managed - s.plugged)) ≡ frame_count s = ap (λ (b : ℕ). first_frame s b) (let e : s.plugged + (s.managed - s.plugged) ≡ s.managed = omega arith in e) in
      in_range s.plugged (s.managed - s.plugged) f from (omega arith)

  -- a managed block isn't plugged where it comes behind the lowest ones
  not_plugged_test : (b : ℕ) → b < s.managed → not (is_in b (range_with_len 0 s.plugged)) ≡ is_between s.plugged s.managed b
  not_plugged_test b low = ap (λ (t : Bool). not t) (is_in-range_with_len b 0 s.plugged) ∙ dite (dec_lt b s.plugged)
      (λ lt. ap (λ (t : Bool). not t) (between_inside 0 (0 + s.plugged) b (omega arith) (omega arith)) ∙ sym (between_below s.plugged s.managed b lt))
      (λ ge. ap (λ (t : Bool). not t) (between_above 0 (0 + s.plugged) b (omega arith)) ∙ sym (between_inside s.plugged s.managed b (omega arith) low))

  not_plugged_are : s.plugged ≤ s.managed → unplugged_blocks s (range_with_len 0 s.plugged) ≡ not_plugged
  not_plugged_are few =
      numbers_agree (λ b. not (is_in b (range_with_len 0 s.plugged))) (is_between s.plugged s.managed) s.managed not_plugged_test
      ∙ numbers_between s.plugged s.managed few

  -- no block that isn't plugged is plugged
  none_plugged : (b : ℕ) → (is_in b not_plugged && is_in b (range_with_len 0 s.plugged)) ≡ false
  none_plugged b = dite (dec_lt b s.plugged)
      (λ lt. and_left (is_in b not_plugged) (is_in b (range_with_len 0 s.plugged)) (is_in-range_with_len b s.plugged (s.managed - s.plugged) ∙ between_below s.plugged (s.plugged + (s.managed - s.plugged)) b lt))
      (λ ge. and_right (is_in b not_plugged) (is_in b (range_with_len 0 s.plugged)) (is_in-range_with_len b 0 s.plugged ∙ between_above 0 (0 + s.plugged) b (omega arith)))

  -- ---- the start pages' words

  -- a frame that no start page has
  out_unnamed : (ps : List StartPage) (f : ℕ) → AllByRecursion (λ y. nat_eq f y ≡ false) (map (λ p. p.frame.0) ps) → out_at_start ps f ≡ None
  out_unnamed [] f apart = refl
  out_unnamed (p ∷ ps) f apart = cond-false (eqb p.frame.0 f) _ _ (ne_eqb p.frame.0 f (λ e. eqb-false f p.frame.0 apart.0 (sym e))) ∙ out_unnamed ps f apart.1

  record IsMappedOut (ps : List StartPage) (w page : ℕ) : Type 0 where
    pub low : frame_of w < frame_count s
    pub out : out_at_start ps (frame_of w) ≡ Some (record { page = page; kind = kind_in w })

  module _ (limits : IsWithinLimits s) where
    mapped_out : (ps : List StartPage) (page : ℕ) → AllByRecursion (IsStartPage s) ps → IsDistinct nat_eq (map (λ p. p.frame.0) ps)
        → mapped_bit (entry_word_of (opening_words s ps) page) ≡ 1 → IsMappedOut ps (entry_word_of (opening_words s ps) page) page
    mapped_out [] page each frames mapped = absurd (
        let zero_word : entry_word_of (opening_words s []) page ≡ 0 = get_or-replicate_same (table_length s.pages (frame_count s) s.cells) (entry_index page) 0 in
        let bit = ap (λ (w : ℕ). mapped_bit w) zero_word in omega arith)
    mapped_out (p ∷ ps) page each frames mapped = dite (ℕ_discrete page p.page.0)
        (λ e.
        let low = frame_within s p limits each.0 in
        let fit : p.frame.0 < 1048576 = let few = limits.frames in omega arith in
        let word : entry_word_of (opening_words s (p ∷ ps)) page ≡ mapped_word 0 p.frame.0 p.kind =
        ap (λ (q : ℕ). entry_word_of (opening_words s (p ∷ ps)) q) e
        ∙ entry_word-here (opening_words s ps) (mapped_word 0 p.frame.0 p.kind) p.page.0 (let long = length-opening_words s ps in let lt = each.0.page in omega arith) in
        subst (λ (w : ℕ). IsMappedOut (p ∷ ps) w page) (sym word) (record {
          low = subst (λ (f : ℕ). f < frame_count s) (sym (frame_of-mapped 0 p.frame.0 p.kind fit)) low;
          out = cond-true (eqb p.frame.0 (frame_of (mapped_word 0 p.frame.0 p.kind))) _ _ (eq-eqb p.frame.0 _ (sym (frame_of-mapped 0 p.frame.0 p.kind fit)))
              ∙ (λ i. Some (record { page = sym e i; kind = sym (kind_in-mapped 0 p.frame.0 p.kind fit) i }));
        }))
        (λ ne.
        let word : entry_word_of (opening_words s (p ∷ ps)) page ≡ entry_word_of (opening_words s ps) page = entry_word-other (opening_words s ps) p.page.0 (mapped_word 0 p.frame.0 p.kind) page ne in
        let rest = mapped_out ps page each.1 (IsDistinct-tail nat_eq p.frame.0 (map (λ q. q.frame.0) ps) frames) (ap (λ (w : ℕ). mapped_bit w) (sym word) ∙ mapped) in
        let apart : p.frame.0 ≢ frame_of (entry_word_of (opening_words s ps) page) = λ e.
        none-some _ (sym (out_unnamed ps p.frame.0 (IsDistinct-head nat_eq p.frame.0 (map (λ q. q.frame.0) ps) frames)) ∙ ap (λ (f : ℕ). out_at_start ps f) e ∙ rest.out) in
        subst (λ (w : ℕ). IsMappedOut (p ∷ ps) w page) (sym word) (record {
          low = rest.low;
          out = cond-false (eqb p.frame.0 (frame_of (entry_word_of (opening_words s ps) page))) _ _ (ne_eqb p.frame.0 _ apart) ∙ rest.out;
        }))

  -- ---- which seat is which

  length-owner_views : (k : ℕ) (budgets : List ℕ) → length (owner_views s k budgets) ≡ length budgets
  length-owner_views k [] = refl
  length-owner_views k (n ∷ ns) = ap suc (length-owner_views (k + 1) ns)

  length-opening_views : (start : List StartPage) (budgets : List ℕ) → length (opening_views s start budgets) ≡ length budgets + 4
  length-opening_views start budgets =
      let a = length-append (owner_views s 1 budgets) (scanner_view s ∷ keeper_views s start) in
      let b = length-owner_views 1 budgets in omega arith

  -- the hand of an owner's seat is empty
  owner_hand : (k : ℕ) (budgets : List ℕ) (rest : List View) (i : ℕ) → i < length budgets → (get_or (owner_views s k budgets ++ rest) i spent).hand ≡ empty_places (frame_count s)
  owner_hand k [] rest i lt = absurd (omega arith)
  owner_hand k (n ∷ ns) rest zero lt = refl
  owner_hand k (n ∷ ns) rest (suc i) lt = owner_hand (k + 1) ns rest i (omega arith)

  past_owners : (k : ℕ) (budgets : List ℕ) (rest : List View) (j : ℕ) → get_or (owner_views s k budgets ++ rest) (length budgets + j) spent ≡ get_or rest j spent
  past_owners k budgets rest j =
      let long = length-owner_views k budgets in
      get_or-append_right (owner_views s k budgets) rest (length budgets + j) spent (omega arith)
      ∙ ap (λ (n : ℕ). get_or rest n spent) (omega arith)

-- ---- the machine

module _ (s : Sizes) (online : Kind) (start : List StartPage) (budgets fails : List ℕ) (r : MayStart s online start budgets) where
  abbrev c : Setting
  c = setting_at_start s online start budgets fails

  abbrev w : World
  w = world_at_start s start budgets

  abbrev last : List View
  last = scanner_view s ∷ keeper_views s start

  start_frames : AreStartFrames s online start
  start_frames = record {
    there = all_weaker (IsStartPage s) (λ p. IsThereAtStart s p.frame.0) (λ p at. at.frame) start r.start.each;
    fitting = r.kinds;
  }

  opens : Opens (opening_of s start budgets) (opening_words s start) (opening_views s start budgets)
  opens = core_opens s r.limits start budgets r.start r.calls

  seat_count : length w.snapshot.views ≡ length budgets + 4
  seat_count = length-opening_views s start budgets

  -- each seat is at rest
  rests : (seat : ℕ) → seat < length budgets + 4 → IsAtRest c.opening (view_of w.snapshot.views seat)
  rests seat lt =
      let count = seat_count in
      let new = opens.new seat (view_of w.snapshot.views seat) (seat_has w.snapshot.views seat (omega arith)) in
      record { seated = new.seated; holds_none = new.held; all_marked = new.unmarked }

  -- the seats behind the owners
  last_at : (seat j : ℕ) → seat ≡ suc (length budgets + j) → view_of w.snapshot.views seat ≡ get_or last j spent
  last_at seat j e = ap (λ (k : ℕ). view_of w.snapshot.views k) e ∙ past_owners s 1 budgets last j

  free_here : view_of w.snapshot.views (free_seat c) ≡ keeper_view s (Some []) (free_hand s start)
  free_here = last_at (free_seat c) 1 (omega arith)

  unplugged_here : view_of w.snapshot.views (unplugged_seat c) ≡ keeper_view s None (unplugged_hand s)
  unplugged_here = last_at (unplugged_seat c) 2 (omega arith)

  owner_empty : (seat frame : ℕ) → IsOwnerSeat c seat → hand_frame (view_of w.snapshot.views seat) frame ≡ None
  owner_empty zero frame owner = absurd (let low = owner.0 in omega arith)
  owner_empty (suc i) frame owner =
      ap (λ (l : List (Option HandFrame)). get_or l frame None) (owner_hand s 1 budgets last i (let high = owner.1 in omega arith))
      ∙ none_there (frame_count s) frame

  plugged_where : (frame : ℕ) → frame < frame_count s → (is_frame_in s (space_now c w).offline frame ≡ true) ↔ (frames_there s ≤ frame)
  plugged_where frame low = (offline_there s frame, there_offline s frame r.limits.plugged low)

  -- the blocks that aren't plugged are the offline ones
  unplugged_are : unplugged_now c w ≡ (space_now c w).offline
  unplugged_are = not_plugged_are s r.limits.plugged

  set_at_start : IsSetting c
  set_at_start = record {
    limits = r.limits;
    pages = refl;
    frames = refl;
    cells = refl;
    space = space_at_start_is_space s online start r.limits.plugged start_frames;
    owners = r.owners;
  }

  consistent_at_start : IsConsistent c w
  consistent_at_start = record {
    sound = openings_are_sound (opening_of s start budgets) (opening_words s start) (opening_views s start budgets) opens;
    seats = seat_count;
    quiet = quiet_start s start budgets;
    keeper_rests = rests (free_seat c) (omega arith);
    unplugged_rests = rests (unplugged_seat c) (omega arith);
    possible = tt;
    answered = tt;
    free = λ frame low.
        let out = out_at_place s start frame low in
        let at = free_at s start frame in
        let off = plugged_where frame low in
        subst (λ (v : View). IsSome (hand_frame v frame) ↔ ((out_for (space_now c w) frame ≡ None) × (is_frame_in s (space_now c w).offline frame ≡ false))) (sym free_here) (
          (λ is. let p = at.0 is in (out ∙ p.0, false_from_ne_true _ (λ yes. let le = off.0 yes in let lt = p.1 in absurd (omega arith)))),
          (λ p. at.1 (sym out ∙ p.0, dite (dec_lt frame (frames_there s)) (λ lt. lt) (λ ge. absurd (false≢true (sym p.1 ∙ off.1 (omega arith)))))),
        );
    unplugged = λ frame low.
        let at = unplugged_at s frame low in
        let off = plugged_where frame low in
        subst (λ (l : List ℕ). HasFrame w (unplugged_seat c) frame ↔ (is_frame_in s l frame ≡ true)) (sym unplugged_are)
        (subst (λ (v : View). IsSome (hand_frame v frame) ↔ (is_frame_in s (space_now c w).offline frame ≡ true)) (sym unplugged_here)
        ((λ is. off.1 (at.0 is)), (λ yes. at.1 (off.0 yes))));
    driver = λ block frame held of. absurd (false≢true (sym (none_plugged s block) ∙ held));
    scanner = λ frame. ap (λ (v : View). hand_frame v frame) (last_at (scanner_seat c) 0 (omega arith)) ∙ none_there (frame_count s) frame;
    offline = λ block. sym (
        ap (λ (t : Bool). is_in block (unplugged_now c w) || t) (none_plugged s block)
        ∙ (or-false (is_in block (unplugged_now c w)) ∙ ap (λ (l : List ℕ). is_in block l) unplugged_are));
    mapped = λ page low mapped.
        let p = mapped_out s r.limits start page r.start.each r.start.frames mapped in
        out_at_place s start (frame_of (entry_word_of w.snapshot.words page)) p.low ∙ p.out;
    in_hand = λ seat frame owner has. absurd (nowhere _ (owner_empty seat frame owner) has);
  }

pub opened_set : (s : Sizes) (online : Kind) (start : List StartPage) (budgets fails : List ℕ) → MayStart s online start budgets → IsSetting (setting_at_start s online start budgets fails)
opened_set s online start budgets fails r = set_at_start s online start budgets fails r

pub opened_consistent : (s : Sizes) (online : Kind) (start : List StartPage) (budgets fails : List ℕ) → MayStart s online start budgets → IsConsistent (setting_at_start s online start budgets fails) (world_at_start s start budgets)
opened_consistent s online start budgets fails r = consistent_at_start s online start budgets fails r

-- no block is held then
pub opened_none : (s : Sizes) (online : Kind) (start : List StartPage) (budgets fails : List ℕ) (block : ℕ) → is_held (setting_at_start s online start budgets fails) (world_at_start s start budgets) block ≡ false
opened_none s online start budgets fails block = none_plugged s block
