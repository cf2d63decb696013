-- A block is put online: its frames go from the driver's hand to the free ones, and the driver holds it no more.
use Rattle.std.proofs.Common.{◌≡◌, ◌↔◌, ℕ, ◌==◌, ◌<◌, Bool, true, false, not, ◌&&◌, ◌||◌, List, refl, sym, ap, ◌∙◌, subst, arith, inl, inr, None, IsSome}
use Rattle.std.specs.List.{range_with_len}
use Rattle.std.proofs.lemmas.Bool.{cases_Bool, both_ways, eqb-true, eq-eqb, false≢true, false_from_ne_true, and_parts, and_from, not-true, not_from_false, or_right, and_right}
use Rattle.evac_model.specs.declared.names.BlockNo.{BlockNo}
use Rattle.evac_model.specs.declared.space.SpaceAction.TheVariants as space
use Rattle.evac_model.specs.Geometry.{frame_count, first_frame}
use Rattle.evac_model.specs.Numbers.{is_in}
use Rattle.evac_model.specs.SpaceJournal.{SpaceState, out_for, is_frame_of, is_frame_in, after_action, IsPossibleJournal}
use Rattle.evac_words.specs.Word.{frame_of}
use Rattle.evac_model.proofs.Numbers.{is_in-numbers_where}
use Rattle.core_state.specs.declared.view.View.{View}
use Rattle.core_state.specs.HandOvers.{MayHandOver}
use Rattle.core_state.specs.Views.{view_of, hand_frame}
use Rattle.core_state.specs.Words.{entry_word_of}
use Rattle.space.specs.SpaceInside.{IsSpace}
use Rattle.space.proofs.BlockFrames.{same_block, in_block, frame_in_from, is_in_bound, is_in-without_block}
use Rattle.space.proofs.Journals.{space_after-append}
use Rattle.space.proofs.SpaceLaws.{possible_goes_on}
use Rattle.machine.specs.Consistent.{IsSetting, IsConsistent}
use Rattle.machine.specs.Made.{online_made}
use Rattle.machine.specs.MayMake.{MayPutOnline}
use Rattle.machine.specs.World.{Setting, World, scanner_seat, free_seat, unplugged_seat, HasFrame, space_now, device_now, unplugged_now, is_held}
use Rattle.machine.proofs.BlockFrames.{is_in-one, frame_in-one, blocks_below, frame_in-without}
use Rattle.machine.proofs.HandedFrames.{AreHanded, has_frame, blocks_handed, or_none, but_none, IsSnapshotKept, handed_kept}
use Rattle.machine.proofs.SpaceNow.{space_is}

-- ---- tests

-- where what is taken from the two wasn't in the first
taken_from_second : (x y z : Bool) → (z ≡ true → x ≡ false) → ((x || y) && not z) ≡ (x || (y && not z))
taken_from_second true y true h = absurd (false≢true (sym (h refl)))
taken_from_second true y false h = refl
taken_from_second false y z h = refl

taken_from_both : (x y z : Bool) → ((x && z) && y) ≡ ((x && y) && z)
taken_from_both true true true = refl
taken_from_both true true false = refl
taken_from_both true false true = refl
taken_from_both true false false = refl
taken_from_both false y z = refl

-- ---- a block is put online

module _ (c : Setting) (w : World) (block : BlockNo) (set : IsSetting c) (k : IsConsistent c w) (may : MayPutOnline c 0 w block) where
  abbrev free : ℕ
  free = free_seat c

  abbrev st : SpaceState
  st = space_now c w

  -- the block alone
  abbrev one : List ℕ
  one = range_with_len block.0 1

  abbrev then : World
  then = (online_made c w block).world

  is_space : IsSpace c.sizes c.online st
  is_space = space_is c w set k

  -- ---- the block

  held_parts : (is_in block.0 st.offline ≡ true) × (is_in block.0 (device_now c w).plugged ≡ true)
  held_parts = and_parts _ _ may.held

  pub was_offline : is_in block.0 st.offline ≡ true
  was_offline = held_parts.0

  pub online_managed : block.0 < c.sizes.managed
  online_managed = is_in_bound c.sizes.managed st.offline block.0 is_space.offline was_offline

  not_unplugged : is_in block.0 (unplugged_now c w) ≡ false
  not_unplugged = is_in-numbers_where (λ (j : ℕ). not (is_in j (device_now c w).plugged)) c.sizes.managed block.0 online_managed ∙ ap not held_parts.1

  -- ---- the hand-over

  pub online_hands : MayHandOver c.opening (view_of w.snapshot.views 0) (view_of w.snapshot.views free) (first_frame c.sizes block.0) c.sizes.block
  online_hands =
      let low = online_managed in
      let below = blocks_below c.sizes block.0 1 (omega arith) in
      let frames = set.frames in
      record {
        giver_rests = may.rests;
        receiver_rests = k.keeper_rests;
        in_range = omega arith;
        in_hand = λ f from high. k.driver block.0 f may.held (in_block c.sizes block.0 f from high);
      }

  handed : AreHanded c.sizes w.snapshot.views then.snapshot.views 0 free one
  handed = let seats = k.seats in blocks_handed c.sizes c.opening w.snapshot.views 0 free (λ e. omega arith) (omega arith) (omega arith) block.0 1 c.sizes.block (omega arith) online_hands

  kept : IsSnapshotKept c w then.snapshot
  kept = handed_kept c w k 0 free (first_frame c.sizes block.0) c.sizes.block (λ e. omega arith) (omega arith) (omega arith) online_hands

  -- ---- the space then

  behind : space_now c then ≡ after_action c.sizes c.online st (space.Online block)
  behind = space_after-append c.sizes c.online c.space w.space (space.Online block)

  possible : IsPossibleJournal c.sizes c.online c.space then.space
  possible = (possible_goes_on c.sizes c.online c.space w.space (space.Online block)).1 (k.possible, was_offline)

  pub online_out : (f : ℕ) → out_for (space_now c then) f ≡ out_for st f
  online_out f = ap (λ (x : SpaceState). out_for x f) behind

  offline_now : (b : ℕ) → is_in b (space_now c then).offline ≡ (is_in b st.offline && not (b == block.0))
  offline_now b = ap (λ (x : SpaceState). is_in b x.offline) behind ∙ is_in-without_block c.sizes.managed block.0 st.offline b is_space.offline

  pub held_online : (b : ℕ) → is_held c then b ≡ (is_held c w b && not (b == block.0))
  held_online b =
      ap (λ (t : Bool). t && is_in b (device_now c w).plugged) (offline_now b)
      ∙ taken_from_both (is_in b st.offline) (is_in b (device_now c w).plugged) (not (b == block.0))

  offline_then : (b : ℕ) → is_in b (space_now c then).offline ≡ (is_in b (unplugged_now c w) || is_held c then b)
  offline_then b =
      offline_now b
      ∙ (ap (λ (t : Bool). t && not (b == block.0)) (k.offline b)
      ∙ (taken_from_second (is_in b (unplugged_now c w)) (is_held c w b) (b == block.0) (λ h. ap (λ (n : ℕ). is_in n (unplugged_now c w)) (eqb-true b block.0 h) ∙ not_unplugged)
      ∙ ap (λ (t : Bool). is_in b (unplugged_now c w) || t) (sym (held_online b))))

  frames_offline : (f : ℕ) → is_frame_in c.sizes (space_now c then).offline f ≡ (is_frame_in c.sizes st.offline f && not (is_frame_in c.sizes one f))
  frames_offline f = frame_in-without c.sizes st.offline one (space_now c then).offline f (λ b. offline_now b ∙ ap (λ (t : Bool). is_in b st.offline && not t) (sym (is_in-one block.0 b)))

  -- ---- the world then

  pub driver_online : (f : ℕ) → has_frame then.snapshot.views 0 f ≡ (has_frame w.snapshot.views 0 f && not (is_frame_in c.sizes one f))
  driver_online = handed.giver

  frees_then : (f : ℕ) → f < frame_count c.sizes → HasFrame then free f ↔ ((out_for (space_now c then) f ≡ None) × (is_frame_in c.sizes (space_now c then).offline f ≡ false))
  frees_then f low = elim (cases_Bool (is_frame_in c.sizes one f)) [
    | inl came ↦
        let was : is_frame_in c.sizes st.offline f ≡ true = frame_in_from c.sizes st.offline block.0 f was_offline (sym (frame_in-one c.sizes block.0 f) ∙ came) in (
          (λ has. (online_out f ∙ is_space.emptied f was, frames_offline f ∙ and_right _ _ (ap not came))),
          (λ free_in. handed.receiver f ∙ or_right _ _ came),
        )
    | inr other ↦
        let same : has_frame then.snapshot.views free f ≡ has_frame w.snapshot.views free f = handed.receiver f ∙ or_none _ _ other in
        let as_before : is_frame_in c.sizes (space_now c then).offline f ≡ is_frame_in c.sizes st.offline f = frames_offline f ∙ but_none _ _ other in
        let q = k.free f low in (
          (λ has. let h = q.0 (sym same ∙ has) in (online_out f ∙ h.0, as_before ∙ h.1)),
          (λ h. same ∙ q.1 (sym (online_out f) ∙ h.0, sym as_before ∙ h.1)),
        )
  ]

  driver_then : (b f : ℕ) → is_held c then b ≡ true → is_frame_of c.sizes b f ≡ true → HasFrame then 0 f
  driver_then b f held its =
      let parts = and_parts _ _ (sym (held_online b) ∙ held) in
      let other : is_frame_in c.sizes one f ≡ false = false_from_ne_true _ (λ h.
      let mine : is_frame_of c.sizes block.0 f ≡ true = sym (frame_in-one c.sizes block.0 f) ∙ h in
      both_ways _ (not-true _ parts.1) (eq-eqb b block.0 (same_block c.sizes b block.0 f its mine))) in
      driver_online f ∙ and_from _ _ (k.driver b f parts.0 its) (not_from_false _ other)

  pub online_kept : IsConsistent c then
  online_kept = record {
    sound = kept.sound;
    seats = kept.seats;
    quiet = kept.quiet;
    keeper_rests = kept.keeper_rests;
    unplugged_rests = kept.unplugged_rests;
    possible = possible;
    answered = k.answered;
    free = frees_then;
    unplugged = λ f low. subst (λ (v : View). IsSome (hand_frame v f) ↔ (is_frame_in c.sizes (unplugged_now c w) f ≡ true))
        (sym (handed.others (unplugged_seat c) (λ e. omega arith) (λ e. omega arith))) (k.unplugged f low);
    driver = driver_then;
    scanner = λ f. ap (λ (v : View). hand_frame v f) (handed.others (scanner_seat c) (λ e. omega arith) (λ e. omega arith)) ∙ k.scanner f;
    offline = offline_then;
    mapped = λ page low on. online_out (frame_of (entry_word_of w.snapshot.words page)) ∙ k.mapped page low on;
    in_hand = λ seat f owner has none.
        let same : view_of then.snapshot.views seat ≡ view_of w.snapshot.views seat = handed.others seat (λ e. let low = owner.0 in omega arith) (λ e. let high = owner.1 in omega arith) in
        k.in_hand seat f owner (subst (λ (v : View). IsSome (hand_frame v f)) same has) (sym (online_out f) ∙ none);
  }
