-- What the rounds of an evacuation leave of its block in the frame space: which of its frames are out, by the tale of what
-- was tried.
use Rattle.std.proofs.Common.{◌≡◌, ◌≢◌, ◌⊎◌, inl, inr, ⊎_elim, ℕ, ◌+◌, ◌<◌, ◌≤◌, nat_lt, ◌&&◌, Bool, true, false, if◌then◌else◌, [], ◌∷◌, length, refl, sym, ap, ◌∙◌, subst, arith, Option, Some, None}
use Rattle.std.specs.List.{Contains}
use Rattle.std.specs.Option.{option_or, is_some}
use Rattle.std.proofs.lemmas.Bool.{cases_eq, cases_Bool, ltb-true, ltb-false, false≢true}
use Rattle.std.proofs.lemmas.Option.{none-some, same_Some}
use Rattle.evac_model.specs.declared.evacuation.MoveLease.{MoveLease}
use Rattle.evac_model.specs.declared.evacuation.EvacCause.TheVariants.{Pinned}
use Rattle.evac_model.specs.declared.names.FrameNo.{FrameNo}
use Rattle.evac_model.specs.declared.names.Kind.{Kind}
use Rattle.evac_model.specs.declared.names.Kind.TheVariants.{Movable, Unmovable}
use Rattle.evac_model.specs.declared.names.PageNo.{PageNo}
use Rattle.evac_model.specs.Geometry.{Sizes}
use Rattle.evac_model.specs.SpaceJournal.{SpaceState, Out, out_for, is_frame_of, HasMovableAlone}
use Rattle.evacuate.specs.declared.stage.Attempt.{Attempt}
use Rattle.evacuate.specs.declared.stage.Stage.{Stage}
use Rattle.evacuate.specs.declared.stage.Stage.TheVariants.{Leasing, Moving, Returning, Undoing}
use Rattle.evacuate.specs.Evacuating.{Evacuating, place_of, with_word, busy_cause, round_ended, attempt_over}
use Rattle.evacuate.specs.Found.{is_pinned}
use Rattle.evacuate.specs.Tale.{Tale, nothing_tried, last_frame, frame_left, is_behind, IsMoved, first_busy, WasBusy, WasBusyBefore, is_repeated, round_over}
use Rattle.evacuate.proofs.Kept.{all_of}
use Rattle.evacuate.proofs.Rounds.{contains_head, contains_tail, all_moved}
use Rattle.space.specs.Refusals.{next_out}
use Rattle.space.proofs.NextAlone.{none_behind, none_before, none_between}
use Rattle.space.proofs.NextOut.{none_next, next_is_out}
use Rattle.core_actors.specs.HostSpace.{has_isolated, AreOutByTale, IsSpaceAt}

-- ---- the next frame that is out

module _ (s : Sizes) (st : SpaceState) (b : ℕ) where
  -- where no frame is found behind one, none is out there
  next_none : (after : Option FrameNo) → next_out s st b after ≡ None → (frame : ℕ) → is_frame_of s b frame ≡ true → is_behind after frame ≡ true → out_for st frame ≡ None
  next_none None e frame its behind = none_next s st b e frame its
  next_none (Some a) e frame its behind = none_behind s st b a e frame its (ltb-true a.0 frame behind)

  -- and where one is found, none is out between the two
  next_alone : (after : Option FrameNo) (at : FrameNo × PageNo) → next_out s st b after ≡ Some at → (frame : ℕ) → is_frame_of s b frame ≡ true → is_behind after frame ≡ true → frame < (at.0).0 → out_for st frame ≡ None
  next_alone None at e frame its behind before = none_before s st b at e frame its before
  next_alone (Some a) at e frame its behind before = none_between s st b a at e frame its (ltb-true a.0 frame behind) before

-- ---- where an answer leads

-- The evacuation behind an answer is of the same block, has isolated it or not, and the frame space is as it stands.
pub record IsRoundAt (st : SpaceState) (e after : Evacuating) (t : Tale) (on : Bool) : Type 0 where
  pub sizes : after.sizes ≡ e.sizes
  pub block : after.block ≡ e.block
  pub isolated : has_isolated after.stage ≡ on
  pub space : IsSpaceAt st after t after.stage

abbrev pub standing : Evacuating → Stage → Evacuating
standing e stage = record e { stage = stage }

-- ---- the block was isolated

kind_movable : (x : Out) (kind : Kind) → x.kind ≡ kind → Some x ≢ Some (record { page = x.page; kind = Unmovable }) → x.kind ≡ Movable
kind_movable x Movable is not = is
kind_movable x Unmovable is not = absurd (not (ap (λ (k : Kind). Some (record { page = x.page; kind = k })) is))

pub out_isolated : (st : SpaceState) (e : Evacuating) (t : Tale) → t ≡ nothing_tried → HasMovableAlone e.sizes st e.block.0 → AreOutByTale st (standing e (Leasing None)) t
out_isolated st e t is alone = subst (λ (y : Tale). AreOutByTale st (standing e (Leasing None)) y) (sym is) (λ frame x its out. record {
  movable = kind_movable x x.kind refl (λ same. alone frame x.page its (out ∙ same));
  before = tt;
  now = λ past. absurd (false≢true (sym past));
})

-- ---- fewer frames are out

pub out_fewer : (st later : SpaceState) (e : Evacuating) (t : Tale) → ((frame : ℕ) (x : Out) → is_frame_of e.sizes e.block.0 frame ≡ true → out_for later frame ≡ Some x → out_for st frame ≡ Some x) → AreOutByTale st e t → AreOutByTale later e t
out_fewer st later e t fewer by = λ frame x its out. by frame x its (fewer frame x its out)

-- ---- the next frame gets a target

module _ (st : SpaceState) (e : Evacuating) (t : Tale) (after : Option FrameNo) (is : after ≡ last_frame t.attempts) (by : AreOutByTale st (standing e (Leasing after)) t) where
  -- a frame of the block up to the last one that was tried was found busy
  tried_busy : (frame : ℕ) (x : Out) → is_frame_of e.sizes e.block.0 frame ≡ true → out_for st frame ≡ Some x → is_behind after frame ≡ false → WasBusy t.attempts (record { 0 = frame }) (record { 0 = x.page })
  tried_busy frame x its out past = ⊎_elim (λ none. absurd none) (λ busy. busy)
      ((by frame x its out).now (subst (λ (o : Option FrameNo). is_behind o frame ≡ false) is past))

  module _ (at : FrameNo × PageNo) (target : FrameNo) (e_next : next_out e.sizes st e.block.0 after ≡ Some at) where
    abbrev leased : MoveLease
    leased = record { from = at.0; page = at.1; target = target }

    -- the page was busy in the round before
    pub leased_before : WasBusyBefore t.rounds leased.from leased.page
    leased_before =
        let w = next_is_out e.sizes st e.block.0 after at e_next in
        (by (at.0).0 (record { page = (at.1).0; kind = w.1 }) w.0 w.2).before

    leased_now : (frame : ℕ) (x : Out) → is_frame_of e.sizes e.block.0 frame ≡ true → out_for st frame ≡ Some x → nat_lt (at.0).0 frame ≡ false
        → ((frame ≡ (at.0).0) × (x.page ≡ (at.1).0)) ⊎ WasBusy t.attempts (record { 0 = frame }) (record { 0 = x.page })
    leased_now frame x its out past = elim (cases_eq frame (at.0).0) [
      | inl here ↦
          let w = next_is_out e.sizes st e.block.0 after at e_next in
          let y : Out = record { page = (at.1).0; kind = w.1 } in
          let same : Some x ≡ Some y = sym out ∙ (ap (λ (f : ℕ). out_for st f) here ∙ w.2) in
          inl (here, ap (λ (z : Out). z.page) (same_Some x y same))
      | inr other ↦
          let high : frame ≤ (at.0).0 = ltb-false (at.0).0 frame past in
          let before : frame < (at.0).0 = omega (arith, other) in
          elim (cases_Bool (is_behind after frame)) [
            | inl behind ↦ absurd (none-some x (sym (next_alone e.sizes st e.block.0 after at e_next frame its behind before) ∙ out))
            | inr tried ↦ inr (tried_busy frame x its out tried)
          ]
    ]

    pub out_leased : AreOutByTale st (standing e (Moving leased)) t
    out_leased = λ frame x its out. let old = by frame x its out in record { movable = old.movable; before = old.before; now = λ past. leased_now frame x its out past }

  -- ---- no frame is left in the round

  module _ (e_none : next_out e.sizes st e.block.0 after ≡ None) where
    busy_behind : (frame : ℕ) (x : Out) → is_frame_of e.sizes e.block.0 frame ≡ true → out_for st frame ≡ Some x → WasBusy t.attempts (record { 0 = frame }) (record { 0 = x.page })
    busy_behind frame x its out = elim (cases_Bool (is_behind after frame)) [
      | inl behind ↦ absurd (none-some x (sym (next_none e.sizes st e.block.0 after e_none frame its behind) ∙ out))
      | inr tried ↦ tried_busy frame x its out tried
    ]

    abbrev another_round : Tale
    another_round = record { rounds = t.attempts ∷ t.rounds; attempts = [] }

    abbrev next_round : Evacuating
    next_round = record e { stage = Leasing None; round = e.round + 1; busy = None }

    out_again : AreOutByTale st next_round another_round
    out_again = λ frame x its out. record {
      movable = (by frame x its out).movable;
      before = busy_behind frame x its out;
      now = λ past. absurd (false≢true (sym past));
    }

    -- without a busy page no frame is out
    moved_out : first_busy t.attempts ≡ None → (frame : ℕ) (o : Option Out) → is_frame_of e.sizes e.block.0 frame ≡ true → out_for st frame ≡ o → o ≡ None
    moved_out none frame None its out = refl
    moved_out none frame (Some x) its out =
        let busy = busy_behind frame x its out in
        let lease : MoveLease = record { from = record { 0 = frame }; page = record { 0 = x.page }; target = busy.1.target } in
        let moved : IsMoved (record { lease = lease; found = Some busy.0 }) = all_of (λ (a : Attempt). IsMoved a) t.attempts (record { lease = lease; found = Some busy.0 }) (all_moved t.attempts none) busy.1.there in
        absurd (none-some busy.0 (sym moved))

    ended_with_busy : (lease : MoveLease) (more : Bool)
        → IsRoundAt st e (if more then next_round else standing e (Undoing (busy_cause e lease))) (if more then another_round else t) true
    ended_with_busy lease true = record { sizes = refl; block = refl; isolated = refl; space = out_again }
    ended_with_busy lease false = record { sizes = refl; block = refl; isolated = refl; space = tt }

    ended_by : (busy : Option MoveLease) → e.busy ≡ busy → e.busy ≡ first_busy t.attempts → e.round ≡ length t.rounds → IsRoundAt st e (round_ended e busy) (round_over t) true
    ended_by None none kept counted =
        record { sizes = refl; block = refl; isolated = refl; space = λ frame its. moved_out (sym kept ∙ none) frame (out_for st frame) its refl }
    ended_by (Some lease) some kept counted =
        let first : first_busy t.attempts ≡ Some lease = sym kept ∙ some in
        let test : is_repeated t ≡ nat_lt e.round 4 = ap (λ (o : Option MoveLease). is_some o && nat_lt (length t.rounds) 4) first ∙ ap (λ (n : ℕ). nat_lt n 4) (sym counted) in
        subst (λ (more : Bool). IsRoundAt st e (round_ended e (Some lease)) (if more then another_round else t) true) (sym test) (ended_with_busy lease (nat_lt e.round 4))

    pub round_ends : e.busy ≡ first_busy t.attempts → e.round ≡ length t.rounds → IsRoundAt st e (round_ended e e.busy) (round_over t) true
    round_ends kept counted = ended_by e.busy refl kept counted

-- ---- a frame is given back

module _ (st later : SpaceState) (e : Evacuating) (t : Tale) (lease : MoveLease) (found : Option ℕ) (by : AreOutByTale st (standing e (Returning (record { lease = lease; found = found }))) t) where
  abbrev attempt : Attempt
  attempt = record { lease = lease; found = found }

  abbrev tried : Tale
  tried = record t { attempts = attempt ∷ t.attempts }

  more_busy : (frame page : ℕ) → WasBusy t.attempts (record { 0 = frame }) (record { 0 = page }) → WasBusy tried.attempts (record { 0 = frame }) (record { 0 = page })
  more_busy frame page busy = (busy.0, record { target = busy.1.target; there = contains_tail _ attempt t.attempts busy.1.there })

  -- the old frame of a page that was moved
  out_moved : ((frame : ℕ) (x : Out) → is_frame_of e.sizes e.block.0 frame ≡ true → out_for later frame ≡ Some x → (frame ≢ lease.from.0) × (out_for st frame ≡ Some x))
      → AreOutByTale later (standing e (Leasing (Some lease.from))) tried
  out_moved fewer = λ frame x its out.
      let was = fewer frame x its out in
      let old = by frame x its was.1 in
      record {
        movable = old.movable;
        before = old.before;
        now = λ past. ⊎_elim (λ here. absurd (was.0 here.0)) (λ busy. inr (more_busy frame x.page busy)) (old.now past);
      }

  -- the target of one that was found busy
  found_busy : (word frame page : ℕ) → found ≡ Some word → frame ≡ lease.from.0 → page ≡ lease.page.0 → WasBusy tried.attempts (record { 0 = frame }) (record { 0 = page })
  found_busy word frame page some here same =
      subst (λ (f : ℕ). WasBusy tried.attempts (record { 0 = f }) (record { 0 = page })) (sym here)
      (subst (λ (p : ℕ). WasBusy tried.attempts lease.from (record { 0 = p })) (sym same)
      (word, record { target = lease.target; there = subst (λ (o : Option ℕ). Contains tried.attempts (record { lease = lease; found = o })) some (contains_head attempt t.attempts) }))

  out_busy : (word : ℕ) → found ≡ Some word → ((frame : ℕ) (x : Out) → is_frame_of e.sizes e.block.0 frame ≡ true → out_for later frame ≡ Some x → out_for st frame ≡ Some x)
      → AreOutByTale later (standing e (Leasing (Some lease.from))) tried
  out_busy word some fewer = λ frame x its out.
      let old = by frame x its (fewer frame x its out) in
      record {
        movable = old.movable;
        before = old.before;
        now = λ past. ⊎_elim (λ here. inr (found_busy word frame x.page some here.0 here.1)) (λ busy. inr (more_busy frame x.page busy)) (old.now past);
      }

-- the frame of an attempt that is over: it is out no more
pub given_back : (st later : SpaceState) (e : Evacuating) (t : Tale) (lease : MoveLease) (found : Option ℕ) → AreOutByTale st (standing e (Returning (record { lease = lease; found = found }))) t
    → ((frame : ℕ) (x : Out) → is_frame_of e.sizes e.block.0 frame ≡ true → out_for later frame ≡ Some x → (frame ≢ (frame_left lease found).0) × (out_for st frame ≡ Some x))
    → IsRoundAt later e (attempt_over e lease found) (record t { attempts = record { lease = lease; found = found } ∷ t.attempts }) true
given_back st later e t lease None by fewer = record { sizes = refl; block = refl; isolated = refl; space = out_moved st later e t lease None by fewer }
given_back st later e t lease (Some word) by fewer = by_pinned (is_pinned word lease.from.0)
  where
    by_pinned : (pinned : Bool) → IsRoundAt later e
        (if pinned then standing e (Undoing (Pinned lease.from lease.page word))
        else record e { stage = Leasing (Some lease.from); busy = option_or e.busy (Some lease); words = with_word e.words (place_of e.sizes e.block lease.from) e.round word })
        (record t { attempts = record { lease = lease; found = Some word } ∷ t.attempts }) true
    by_pinned true = record { sizes = refl; block = refl; isolated = refl; space = tt }
    by_pinned false = record {
      sizes = refl;
      block = refl;
      isolated = refl;
      space = λ frame x its out.
          let busy = out_busy st later e t lease (Some word) by word refl (λ f y of_block is. (fewer f y of_block is).1) frame x its out in
          record { movable = busy.movable; before = busy.before; now = busy.now };
    }

-- a page that was moved, or not, is to be given back its old frame or its target
pub out_returning : (st : SpaceState) (e : Evacuating) (t : Tale) (lease : MoveLease) (found : Option ℕ) → AreOutByTale st (standing e (Moving lease)) t → AreOutByTale st (standing e (Returning (record { lease = lease; found = found }))) t
out_returning st e t lease found by = λ frame x its out.
    let old = by frame x its out in
    record { movable = old.movable; before = old.before; now = old.now }
