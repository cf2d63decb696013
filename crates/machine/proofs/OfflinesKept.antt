-- An isolated block of which no frame is out is taken away: its frames, which are all free, go to the driver's hand, and
-- the driver holds it.
use Rattle.std.proofs.Common.{◌≡◌, ◌↔◌, ℕ, ◌+◌, ◌*◌, ◌==◌, ◌<◌, ◌≤◌, Bool, true, false, not, ◌&&◌, ◌||◌, List, refl, sym, ap, ◌∙◌, subst, arith, inl, inr, None, IsSome}
use Rattle.std.specs.List.{range_with_len}
use Rattle.std.proofs.Math.Bool.{or_assoc}
use Rattle.std.proofs.lemmas.Bool.{cases_Bool, both_ways, eqb-true, false≢true, false_from_ne_true, not-false, and_right, or_parts, or_cases, or_left, or_right}
use Rattle.evac_model.specs.declared.names.BlockNo.{BlockNo}
use Rattle.evac_model.specs.declared.space.SpaceAction.TheVariants as space
use Rattle.evac_model.specs.Geometry.{frame_count, first_frame}
use Rattle.evac_model.specs.Numbers.{is_in}
use Rattle.evac_model.specs.SpaceJournal.{SpaceState, out_for, is_frame_of, is_frame_in, after_action, IsPossibleJournal}
use Rattle.evac_words.specs.Word.{frame_of}
use Rattle.evac_model.proofs.Numbers.{is_in-numbers_where}
use Rattle.core_state.specs.declared.view.View.{View}
use Rattle.core_state.specs.HandOvers.{MayHandOver}
use Rattle.core_state.specs.Views.{view_of, hand_frame}
use Rattle.core_state.specs.Words.{entry_word_of}
use Rattle.space.specs.SpaceInside.{IsSpace}
use Rattle.space.proofs.BlockFrames.{same_block, in_block, frame_in_witness, is_in_bound, is_in-with_block, frame_in-with_block}
use Rattle.space.proofs.Journals.{space_after-append}
use Rattle.space.proofs.SpaceLaws.{possible_goes_on}
use Rattle.machine.specs.Consistent.{IsSetting, IsConsistent}
use Rattle.machine.specs.Made.{offline_made}
use Rattle.machine.specs.MayMake.{MayTakeOffline}
use Rattle.machine.specs.World.{Setting, World, scanner_seat, free_seat, unplugged_seat, HasFrame, space_now, device_now, unplugged_now, is_held}
use Rattle.machine.proofs.BlockFrames.{frame_in-one, blocks_below}
use Rattle.machine.proofs.HandedFrames.{AreHanded, has_frame, blocks_handed, or_none, but_none, IsSnapshotKept, handed_kept}
use Rattle.machine.proofs.SpaceNow.{space_is}

-- ---- tests

-- what comes to the first of two, where it is in the second
added_to_first : (x y z : Bool) → (z ≡ true → y ≡ true) → ((x || z) && y) ≡ ((x && y) || z)
added_to_first true true z h = refl
added_to_first true false true h = absurd (false≢true (h refl))
added_to_first true false false h = refl
added_to_first false y true h = h refl
added_to_first false y false h = refl

-- ---- a block is taken away

module _ (c : Setting) (w : World) (block : BlockNo) (set : IsSetting c) (k : IsConsistent c w) (may : MayTakeOffline c 0 w block) where
  abbrev free : ℕ
  free = free_seat c

  abbrev st : SpaceState
  st = space_now c w

  -- the block alone
  abbrev one : List ℕ
  one = range_with_len block.0 1

  abbrev then : World
  then = (offline_made c w block).world

  is_space : IsSpace c.sizes c.online st
  is_space = space_is c w set k

  -- ---- the block

  pub offline_managed : block.0 < c.sizes.managed
  offline_managed = is_in_bound c.sizes.managed st.isolated block.0 is_space.isolated may.isolated

  -- it isn't offline, so that it is neither unplugged nor held
  on_parts : (is_in block.0 (unplugged_now c w) ≡ false) × (is_held c w block.0 ≡ false)
  on_parts = or_parts _ _ (sym (k.offline block.0) ∙ may.there)

  pub was_not_held : is_held c w block.0 ≡ false
  was_not_held = on_parts.1

  plugged : is_in block.0 (device_now c w).plugged ≡ true
  plugged = not-false _ (sym (is_in-numbers_where (λ (j : ℕ). not (is_in j (device_now c w).plugged)) c.sizes.managed block.0 offline_managed) ∙ on_parts.0)

  frames_on : (f : ℕ) → is_frame_of c.sizes block.0 f ≡ true → is_frame_in c.sizes st.offline f ≡ false
  frames_on f its = false_from_ne_true _ (λ off.
      let b = frame_in_witness c.sizes st.offline f off in
      both_ways _ (ap (λ (n : ℕ). is_in n st.offline) (same_block c.sizes b.0 block.0 f b.2 its) ∙ may.there) b.1)

  -- ---- the hand-over

  below : first_frame c.sizes block.0 + 1 * c.sizes.block ≤ frame_count c.sizes
  below = let low = offline_managed in blocks_below c.sizes block.0 1 (omega arith)

  pub offline_hands : MayHandOver c.opening (view_of w.snapshot.views free) (view_of w.snapshot.views 0) (first_frame c.sizes block.0) c.sizes.block
  offline_hands =
      let all = below in
      let frames = set.frames in
      record {
        giver_rests = k.keeper_rests;
        receiver_rests = may.rests;
        in_range = omega arith;
        in_hand = λ f from high.
            let its : is_frame_of c.sizes block.0 f ≡ true = in_block c.sizes block.0 f from high in
            (k.free f (omega (arith, from, high, all))).1 (may.emptied f its, frames_on f its);
      }

  handed : AreHanded c.sizes w.snapshot.views then.snapshot.views free 0 one
  handed = let seats = k.seats in blocks_handed c.sizes c.opening w.snapshot.views free 0 (λ e. omega arith) (omega arith) (omega arith) block.0 1 c.sizes.block (omega arith) offline_hands

  kept : IsSnapshotKept c w then.snapshot
  kept = handed_kept c w k free 0 (first_frame c.sizes block.0) c.sizes.block (λ e. omega arith) (omega arith) (omega arith) offline_hands

  -- ---- the space then

  behind : space_now c then ≡ after_action c.sizes c.online st (space.Offline block)
  behind = space_after-append c.sizes c.online c.space w.space (space.Offline block)

  possible : IsPossibleJournal c.sizes c.online c.space then.space
  possible = (possible_goes_on c.sizes c.online c.space w.space (space.Offline block)).1 (k.possible, (may.isolated, may.there, may.emptied))

  pub offline_out : (f : ℕ) → out_for (space_now c then) f ≡ out_for st f
  offline_out f = ap (λ (x : SpaceState). out_for x f) behind

  offline_now : (b : ℕ) → is_in b (space_now c then).offline ≡ (is_in b st.offline || b == block.0)
  offline_now b = ap (λ (x : SpaceState). is_in b x.offline) behind ∙ is_in-with_block c.sizes block.0 st.offline b is_space.offline offline_managed

  pub held_offline : (b : ℕ) → is_held c then b ≡ (is_held c w b || b == block.0)
  held_offline b =
      ap (λ (t : Bool). t && is_in b (device_now c w).plugged) (offline_now b)
      ∙ added_to_first (is_in b st.offline) (is_in b (device_now c w).plugged) (b == block.0) (λ h. ap (λ (n : ℕ). is_in n (device_now c w).plugged) (eqb-true b block.0 h) ∙ plugged)

  offline_then : (b : ℕ) → is_in b (space_now c then).offline ≡ (is_in b (unplugged_now c w) || is_held c then b)
  offline_then b =
      offline_now b
      ∙ (ap (λ (t : Bool). t || b == block.0) (k.offline b)
      ∙ (or_assoc (is_in b (unplugged_now c w)) (is_held c w b) (b == block.0)
      ∙ ap (λ (t : Bool). is_in b (unplugged_now c w) || t) (sym (held_offline b))))

  frames_offline : (f : ℕ) → is_frame_in c.sizes (space_now c then).offline f ≡ (is_frame_in c.sizes st.offline f || is_frame_in c.sizes one f)
  frames_offline f =
      ap (λ (x : SpaceState). is_frame_in c.sizes x.offline f) behind
      ∙ (frame_in-with_block c.sizes block.0 st.offline f is_space.offline offline_managed
      ∙ ap (λ (t : Bool). is_frame_in c.sizes st.offline f || t) (sym (frame_in-one c.sizes block.0 f)))

  -- ---- the world then

  pub driver_offline : (f : ℕ) → has_frame then.snapshot.views 0 f ≡ (has_frame w.snapshot.views 0 f || is_frame_in c.sizes one f)
  driver_offline = handed.receiver

  frees_then : (f : ℕ) → f < frame_count c.sizes → HasFrame then free f ↔ ((out_for (space_now c then) f ≡ None) × (is_frame_in c.sizes (space_now c then).offline f ≡ false))
  frees_then f low = elim (cases_Bool (is_frame_in c.sizes one f)) [
    | inl gone ↦ (
      (λ has. absurd (both_ways _ (handed.giver f ∙ and_right (has_frame w.snapshot.views free f) (not (is_frame_in c.sizes one f)) (ap not gone)) has)),
      (λ h. absurd (both_ways _ h.1 (frames_offline f ∙ or_right (is_frame_in c.sizes st.offline f) (is_frame_in c.sizes one f) gone))),
    )
    | inr other ↦
        let same : has_frame then.snapshot.views free f ≡ has_frame w.snapshot.views free f = handed.giver f ∙ but_none _ _ other in
        let as_before : is_frame_in c.sizes (space_now c then).offline f ≡ is_frame_in c.sizes st.offline f = frames_offline f ∙ or_none _ _ other in
        let q = k.free f low in (
          (λ has. let h = q.0 (sym same ∙ has) in (offline_out f ∙ h.0, as_before ∙ h.1)),
          (λ h. same ∙ q.1 (sym (offline_out f) ∙ h.0, sym as_before ∙ h.1)),
        )
  ]

  driver_then : (b f : ℕ) → is_held c then b ≡ true → is_frame_of c.sizes b f ≡ true → HasFrame then 0 f
  driver_then b f held its = elim (or_cases (is_held c w b) (b == block.0) (sym (held_offline b) ∙ held)) [
    | inl old ↦ driver_offline f ∙ or_left _ _ (k.driver b f old its)
    | inr here ↦
        let mine : is_frame_of c.sizes block.0 f ≡ true = ap (λ (n : ℕ). is_frame_of c.sizes n f) (sym (eqb-true b block.0 here)) ∙ its in
        driver_offline f ∙ or_right _ _ (frame_in-one c.sizes block.0 f ∙ mine)
  ]

  pub offline_kept : IsConsistent c then
  offline_kept = record {
    sound = kept.sound;
    seats = kept.seats;
    quiet = kept.quiet;
    keeper_rests = kept.keeper_rests;
    unplugged_rests = kept.unplugged_rests;
    possible = possible;
    answered = k.answered;
    free = frees_then;
    unplugged = λ f low. subst (λ (v : View). IsSome (hand_frame v f) ↔ (is_frame_in c.sizes (unplugged_now c w) f ≡ true))
        (sym (handed.others (unplugged_seat c) (λ e. omega arith) (λ e. omega arith))) (k.unplugged f low);
    driver = driver_then;
    scanner = λ f. ap (λ (v : View). hand_frame v f) (handed.others (scanner_seat c) (λ e. omega arith) (λ e. omega arith)) ∙ k.scanner f;
    offline = offline_then;
    mapped = λ page low on. offline_out (frame_of (entry_word_of w.snapshot.words page)) ∙ k.mapped page low on;
    in_hand = λ seat f owner has none.
        let same : view_of then.snapshot.views seat ≡ view_of w.snapshot.views seat = handed.others seat (λ e. let high = owner.1 in omega arith) (λ e. let low = owner.0 in omega arith) in
        k.in_hand seat f owner (subst (λ (v : View). IsSome (hand_frame v f)) same has) (sym (offline_out f) ∙ none);
  }
