-- The frames of the blocks of a list go from hand to hand, one block after another.
use Rattle.std.proofs.Common.{◌≡◌, ◌≢◌, ℕ, suc, ◌+◌, ◌-◌, ◌<◌, ◌≤◌, Bool, true, false, not, ◌&&◌, ◌||◌, List, [], ◌∷◌, length, refl, sym, ap, subst, ◌∙◌, arith}
use Rattle.std.specs.List.{range_with_len}
use Rattle.std.proofs.Math.Bool.{or_assoc}
use Rattle.std.proofs.lemmas.Bool.{both_ways, eq-eqb, or_left, or_right, and_from, not_from_false, false_from_ne_true}
use Rattle.evac_model.specs.Geometry.{Sizes, first_frame}
use Rattle.evac_model.specs.Numbers.{is_in}
use Rattle.evac_model.specs.SpaceJournal.{is_frame_of, is_frame_in}
use Rattle.core_state.specs.declared.opening.Opening.{Opening}
use Rattle.core_state.specs.declared.snapshot.Snapshot.{Snapshot}
use Rattle.core_state.specs.declared.view.View.{View}
use Rattle.core_state.specs.CoreState.{CoreState, IsSound}
use Rattle.core_state.specs.HandOvers.{IsAtRest, MayHandOver, views_after_hand_over}
use Rattle.core_state.specs.Views.{view_of}
use Rattle.space.proofs.BlockFrames.{same_block, in_block, frame_in_witness}
use Rattle.machine.specs.BlocksInHand.{MayHandBlocks}
use Rattle.machine.specs.Made.{handed_frames, handed_blocks}
use Rattle.machine.specs.World.{Setting, World}
use Rattle.machine.proofs.BlockFrames.{frame_in-one, blocks_below}
use Rattle.machine.proofs.HandedFrames.{AreHanded, has_frame, rests_after, long_after, none_handed, blocks_handed, IsSnapshotKept, handed_again}

-- ---- two hand-overs

gone_twice : (x y z : Bool) → ((x && not y) && not z) ≡ (x && not (y || z))
gone_twice true true z = refl
gone_twice true false z = refl
gone_twice false y z = refl

-- a block, and then others
handed_on : (s : Sizes) (before between after : List View) (from to block : ℕ) (more : List ℕ) → AreHanded s before between from to (range_with_len block 1) → AreHanded s between after from to more → AreHanded s before after from to (block ∷ more)
handed_on s before between after from to block more one rest = record {
  others = λ seat not_from not_to. rest.others seat not_from not_to ∙ one.others seat not_from not_to;
  giver = λ f.
      rest.giver f
      ∙ (ap (λ (t : Bool). t && not (is_frame_in s more f)) (one.giver f ∙ ap (λ (t : Bool). has_frame before from f && not t) (frame_in-one s block f))
      ∙ gone_twice (has_frame before from f) (is_frame_of s block f) (is_frame_in s more f));
  receiver = λ f.
      rest.receiver f
      ∙ (ap (λ (t : Bool). t || is_frame_in s more f) (one.receiver f ∙ ap (λ (t : Bool). has_frame before to f || t) (frame_in-one s block f))
      ∙ or_assoc (has_frame before to f) (is_frame_of s block f) (is_frame_in s more f));
}

-- ---- the first block, and the rest

module _ (s : Sizes) (o : Opening) (from to : ℕ) (apart : from ≢ to) where
  module _ (views : List View) (from_lt : from < length views) (to_lt : to < length views) (block : ℕ) (more : List ℕ) (may : MayHandBlocks s o views from to (block ∷ more)) where
    -- the views behind the first block's hand-over
    abbrev behind : List View
    behind = views_after_hand_over views from to (view_of views from) (view_of views to) (first_frame s block) s.block

    pub behind_long : length behind ≡ length views
    behind_long = long_after views from to apart from_lt to_lt (first_frame s block) s.block

    pub from_behind : from < length behind
    from_behind = subst (λ (k : ℕ). from < k) (sym behind_long) from_lt

    pub to_behind : to < length behind
    to_behind = subst (λ (k : ℕ). to < k) (sym behind_long) to_lt

    pub first_may : MayHandOver o (view_of views from) (view_of views to) (first_frame s block) s.block
    first_may =
        let low = may.managed block (or_left _ _ (eq-eqb block block refl)) in
        let below = blocks_below s block 1 (omega arith) in
        let frames = may.frames in
        record {
          giver_rests = may.giver_rests;
          receiver_rests = may.receiver_rests;
          in_range = omega arith;
          in_hand = λ f start end. may.in_hand f (or_left _ _ (in_block s block f start end));
        }

    pub first_handed : AreHanded s views behind from to (range_with_len block 1)
    first_handed = blocks_handed s o views from to apart from_lt to_lt block 1 s.block (omega arith) first_may

    -- a frame of another block isn't one of the first
    of_another : (f : ℕ) → is_frame_in s more f ≡ true → is_frame_of s block f ≡ false
    of_another f its = false_from_ne_true _ (λ mine.
        let q = frame_in_witness s more f its in
        both_ways _ may.distinct.0 (ap (λ (b : ℕ). is_in b more) (same_block s block q.0 f mine q.2) ∙ q.1))

    pub rest_behind : (seat : ℕ) → IsAtRest o (view_of views seat) → IsAtRest o (view_of behind seat)
    rest_behind = rests_after views from to apart from_lt to_lt (first_frame s block) s.block o first_may

    pub rest_may : MayHandBlocks s o behind from to more
    rest_may = record {
      frames = may.frames;
      giver_rests = rest_behind from may.giver_rests;
      receiver_rests = rest_behind to may.receiver_rests;
      managed = λ b there. may.managed b (or_right _ _ there);
      distinct = may.distinct.1;
      in_hand = λ f its. first_handed.giver f ∙ and_from _ _ (may.in_hand f (or_right _ _ its)) (not_from_false _ (frame_in-one s block f ∙ of_another f its));
    }

  -- ---- all blocks

  pub list_handed : (x : Snapshot) (blocks : List ℕ) → from < length x.views → to < length x.views → MayHandBlocks s o x.views from to blocks
      → AreHanded s x.views (handed_blocks s x from to blocks).views from to blocks
  list_handed x [] from_lt to_lt may = none_handed s x.views from to [] refl
  list_handed x (block ∷ more) from_lt to_lt may =
      let next : Snapshot = handed_frames x from to (first_frame s block) s.block in
      handed_on s x.views next.views (handed_blocks s next from to more).views from to block more
      (first_handed x.views from_lt to_lt block more may)
      (list_handed next more (from_behind x.views from_lt to_lt block more may) (to_behind x.views from_lt to_lt block more may) (rest_may x.views from_lt to_lt block more may))

  -- seats at rest stay so
  pub list_rests : (x : Snapshot) (blocks : List ℕ) → from < length x.views → to < length x.views → MayHandBlocks s o x.views from to blocks
      → (seat : ℕ) → IsAtRest o (view_of x.views seat) → IsAtRest o (view_of (handed_blocks s x from to blocks).views seat)
  list_rests x [] from_lt to_lt may seat rests = rests
  list_rests x (block ∷ more) from_lt to_lt may seat rests =
      list_rests (handed_frames x from to (first_frame s block) s.block) more
      (from_behind x.views from_lt to_lt block more may) (to_behind x.views from_lt to_lt block more may) (rest_may x.views from_lt to_lt block more may)
      seat (rest_behind x.views from_lt to_lt block more may seat rests)

-- what holds of the words and the views between any two actions is kept
module _ (c : Setting) (w : World) (from to : ℕ) (apart : from ≢ to) (from_in : from < c.owners + 4) (to_in : to < c.owners + 4) where
  pub list_kept : (x : Snapshot) (blocks : List ℕ) → IsSnapshotKept c w x → MayHandBlocks c.sizes c.opening x.views from to blocks → IsSnapshotKept c w (handed_blocks c.sizes x from to blocks)
  list_kept x [] kept may = kept
  list_kept x (block ∷ more) kept may =
      let seats = kept.seats in
      let from_lt : from < length x.views = omega arith in
      let to_lt : to < length x.views = omega arith in
      list_kept (handed_frames x from to (first_frame c.sizes block) c.sizes.block) more
      (handed_again c w x kept from to (first_frame c.sizes block) c.sizes.block apart from_in to_in (first_may c.sizes c.opening from to apart x.views from_lt to_lt block more may))
      (rest_may c.sizes c.opening from to apart x.views from_lt to_lt block more may)

-- ---- a loop over blocks

-- what is left may be handed over, and leads to where all blocks lead
pub record IsHanding (s : Sizes) (from to : ℕ) (before now : CoreState) (all left : List ℕ) : Type 0 where
  pub may : MayHandBlocks s now.opening now.snapshot.views from to left
  pub ends : handed_blocks s now.snapshot from to left ≡ handed_blocks s before.snapshot from to all
  pub opening : now.opening ≡ before.opening
  pub sound : IsSound now
  pub seats : length now.snapshot.views ≡ length before.snapshot.views

pub handing_begun : (s : Sizes) (from to : ℕ) (before : CoreState) (all left : List ℕ) → left ≡ all → IsSound before → MayHandBlocks s before.opening before.snapshot.views from to all → IsHanding s from to before before all left
handing_begun s from to before all left same sound may =
    subst (λ (l : List ℕ). IsHanding s from to before before all l) (sym same) (record { may = may; ends = refl; opening = refl; sound = sound; seats = refl })

pub handing_over : (s : Sizes) (from to : ℕ) (before now : CoreState) (all left : List ℕ) → left ≡ [] → IsHanding s from to before now all left → now.snapshot ≡ handed_blocks s before.snapshot from to all
handing_over s from to before now all left none h = sym (ap (λ (l : List ℕ). handed_blocks s now.snapshot from to l) none) ∙ h.ends

-- what is left of a range
pub range_next : (b last : ℕ) → b < last → range_with_len b (last - b) ≡ b ∷ range_with_len (b + 1) (last - (b + 1))
range_next b last below = let more : last - b ≡ suc (last - (b + 1)) = omega arith in ap (λ (n : ℕ). range_with_len b n) more

pub range_over : (b last : ℕ) → last ≤ b → range_with_len b (last - b) ≡ []
range_over b last past = let none : last - b ≡ 0 = omega arith in ap (λ (n : ℕ). range_with_len b n) none

-- one block of those that are left
pub next_managed : (s : Sizes) (from to : ℕ) (before now : CoreState) (all left : List ℕ) (block : ℕ) (more : List ℕ) → left ≡ block ∷ more → IsHanding s from to before now all left → block < s.managed
next_managed s from to before now all left block more next h = h.may.managed block (ap (λ (l : List ℕ). is_in block l) next ∙ or_left _ _ (eq-eqb block block refl))

module _ (s : Sizes) (from to : ℕ) (before now : CoreState) (all left : List ℕ) (block : ℕ) (more : List ℕ) (apart : from ≢ to) (from_lt : from < length before.snapshot.views) (to_lt : to < length before.snapshot.views)
    (next : left ≡ block ∷ more) (h : IsHanding s from to before now all left) (frame n : ℕ) (start : frame ≡ first_frame s block) (size : n ≡ s.block) where
  its_may : MayHandBlocks s now.opening now.snapshot.views from to (block ∷ more)
  its_may = subst (λ (l : List ℕ). MayHandBlocks s now.opening now.snapshot.views from to l) next h.may

  pub from_there : from < length now.snapshot.views
  from_there = subst (λ (k : ℕ). from < k) (sym h.seats) from_lt

  pub to_there : to < length now.snapshot.views
  to_there = subst (λ (k : ℕ). to < k) (sym h.seats) to_lt

  pub handing_may : MayHandOver now.opening (view_of now.snapshot.views from) (view_of now.snapshot.views to) frame n
  handing_may = rw (start, size) (first_may s now.opening from to apart now.snapshot.views from_there to_there block more its_may)

  pub handing_on : (later : CoreState) → later.snapshot ≡ handed_frames now.snapshot from to frame n → later.opening ≡ now.opening → IsSound later → IsHanding s from to before later all more
  handing_on later snapshot opening sound =
      let is : later.snapshot ≡ handed_frames now.snapshot from to (first_frame s block) s.block =
      snapshot ∙ (ap (λ (k : ℕ). handed_frames now.snapshot from to k n) start ∙ ap (λ (k : ℕ). handed_frames now.snapshot from to (first_frame s block) k) size) in
      record {
        may = subst (λ (o : Opening). MayHandBlocks s o later.snapshot.views from to more) (sym opening)
            (subst (λ (x : Snapshot). MayHandBlocks s now.opening x.views from to more) (sym is) (rest_may s now.opening from to apart now.snapshot.views from_there to_there block more its_may));
        ends = ap (λ (x : Snapshot). handed_blocks s x from to more) is ∙ (sym (ap (λ (l : List ℕ). handed_blocks s now.snapshot from to l) next) ∙ h.ends);
        opening = opening ∙ h.opening;
        sound = sound;
        seats = ap (λ (x : Snapshot). length x.views) is ∙ (behind_long s now.opening from to apart now.snapshot.views from_there to_there block more its_may ∙ h.seats);
      }
