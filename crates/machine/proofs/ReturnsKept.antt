-- A frame given back goes from the hand of the driver or of an owner to the free frames, and is out no more.
use Rattle.std.proofs.Common.{◌≡◌, ◌≢◌, ℕ, ◌<◌, ◌≤◌, Bool, true, false, List, [], ◌∷◌, ◌++◌, length, get_or-set_same, get_or-set_other, sym, ap, ◌∙◌, subst, arith, true≢false, Option, None, is_some, IsSome}
use Rattle.std.proofs.lemmas.Bool.{false_from_ne_true, both_ways, and_parts}
use mathlib.Core.Logic.{dite}
use native.Mathlib.Decide.{ℕ_discrete}
use Rattle.evac_model.specs.declared.names.FrameNo.{FrameNo}
use Rattle.evac_model.specs.declared.space.SpaceAction.{SpaceAction}
use Rattle.evac_model.specs.declared.space.SpaceAction.TheVariants as space
use Rattle.evac_model.specs.Geometry.{frame_count}
use Rattle.evac_model.specs.Numbers.{is_in}
use Rattle.evac_model.specs.SpaceJournal.{Out, SpaceState, out_for, is_frame_of, is_frame_in, after_action, IsPossibleJournal}
use Rattle.evac_model.proofs.Options.{some_from_test}
use Rattle.evac_words.specs.Word.{mapped_bit, frame_of, bit_of}
use Rattle.core_state.specs.declared.hand.HandFrame.{HandFrame}
use Rattle.core_state.specs.declared.view.View.{View}
use Rattle.core_state.specs.HandOvers.{MayHandOver, views_after_hand_over}
use Rattle.core_state.specs.Views.{Has, view_of, hand_frame, times_in_hand}
use Rattle.core_state.specs.Words.{entry_word_of}
use Rattle.core_state.proofs.Frames.{frame_once, maps_le, maps_to-one}
use Rattle.core_state.proofs.Lists.{member_le_sum_by, two_members_le_sum_by}
use Rattle.core_state.proofs.Rooms.{seat_has}
use Rattle.core_moves.proofs.Moves.{in_range}
use Rattle.space.proofs.BlockFrames.{frame_in_from}
use Rattle.space.proofs.Journals.{space_after-append}
use Rattle.space.proofs.SpaceLaws.{possible_goes_on}
use Rattle.space.specs.SpaceInside.{IsSpace}
use Rattle.machine.specs.Consistent.{IsSetting, IsConsistent}
use Rattle.machine.specs.Made.{handed, return_made}
use Rattle.machine.specs.MayMake.{MayReturn}
use Rattle.machine.specs.World.{Setting, World, free_seat, IsOwnerSeat, HasFrame, space_at, space_now, device_now, is_held}
use Rattle.machine.proofs.HandedFrames.{other_after, IsSnapshotKept, handed_kept}
use Rattle.machine.proofs.OneFrame.{IsMoved, moved_kept, held_still, one_handed, giver_gone, giver_still, receiver_has, receiver_still}
use Rattle.machine.proofs.Quiet.{actor_there, owner_there}
use Rattle.machine.proofs.SpaceNow.{space_is, offline_not_out}

module _ (c : Setting) (seat : ℕ) (w : World) (frame : FrameNo) (set : IsSetting c) (kept : IsConsistent c w) (may : MayReturn c seat w frame) where
  abbrev st : SpaceState
  st = space_now c w

  abbrev free : ℕ
  free = free_seat c

  abbrev giver : View
  giver = view_of w.snapshot.views seat

  abbrev journal : List SpaceAction
  journal = w.space ++ space.Return seat frame ∷ []

  abbrev then : SpaceState
  then = space_at c journal

  abbrev views : List View
  views = views_after_hand_over w.snapshot.views seat free giver (view_of w.snapshot.views free) frame.0 1

  is_space : IsSpace c.sizes c.online st
  is_space = space_is c w set kept

  -- it lies in no offline block, and so in none that the driver holds
  plugged : is_frame_in c.sizes st.offline frame.0 ≡ false
  plugged = false_from_ne_true _ (λ off. may.out (offline_not_out c w set kept frame.0 off))

  not_held : (block f : ℕ) → is_held c w block ≡ true → is_frame_of c.sizes block f ≡ true → f ≢ frame.0
  not_held block f held its same =
      let off : is_in block st.offline ≡ true = (and_parts (is_in block st.offline) (is_in block (device_now c w).plugged) held).0 in
      both_ways _ plugged (ap (λ (g : ℕ). is_frame_in c.sizes st.offline g) (sym same) ∙ frame_in_from c.sizes st.offline block f off its)

  low : frame.0 < frame_count c.sizes
  low =
      let x = some_from_test (hand_frame giver frame.0) may.has in
      let lt = in_range c.opening giver frame.0 x.0 may.rests.seated x.1 in
      let frames = set.frames in
      omega arith

  -- ---- the seats

  apart : seat ≢ free
  apart = let high = may.actor in omega arith

  mine_there : seat < length w.snapshot.views
  mine_there = actor_there c w seat kept may.actor

  free_there : free < length w.snapshot.views
  free_there = let seats = kept.seats in omega arith

  pub return_hands : MayHandOver c.opening giver (view_of w.snapshot.views free) frame.0 1
  return_hands = one_handed c.opening giver (view_of w.snapshot.views free) frame.0 may.rests kept.keeper_rests may.has

  snapshot_kept : IsSnapshotKept c w (handed w.snapshot seat free frame.0)
  snapshot_kept = let high = may.actor in handed_kept c w kept seat free frame.0 1 apart (omega arith) (omega arith) return_hands

  -- ---- nobody else has it

  giver_has : Has w.snapshot.views seat giver
  giver_has = seat_has w.snapshot.views seat mine_there

  once : times_in_hand frame.0 giver ≡ 1
  once = ap (λ (b : Bool). bit_of b) may.has

  unmapped : (page : ℕ) → page < c.sizes.pages → mapped_bit (entry_word_of w.snapshot.words page) ≡ 1 → frame_of (entry_word_of w.snapshot.words page) ≢ frame.0
  unmapped page there on same =
      let k = kept.sound in
      let pages = set.pages in
      let one = maps_to-one frame.0 (entry_word_of w.snapshot.words page) on same in
      let mapped = maps_le c.opening w.snapshot.words w.snapshot.views k.shaped k.turn k.frames frame.0 page (omega arith) in
      let hand = member_le_sum_by (λ v. times_in_hand frame.0 v) w.snapshot.views seat giver giver_has in
      let both = frame_once c.opening w.snapshot.words w.snapshot.views k.shaped k.turn k.frames frame.0 in
      let mine = once in
      absurd (omega arith)

  pub return_elsewhere : (other : ℕ) → IsOwnerSeat c other → other ≢ seat → ¬ HasFrame w other frame.0
  return_elsewhere other own ne had =
      let k = kept.sound in
      let there = owner_there c w other kept own in
      let theirs : times_in_hand frame.0 (view_of w.snapshot.views other) ≡ 1 = ap (λ (b : Bool). bit_of b) had in
      let hands = two_members_le_sum_by (λ v. times_in_hand frame.0 v) w.snapshot.views seat other giver (view_of w.snapshot.views other) (λ e. ne (sym e)) giver_has (seat_has w.snapshot.views other there) in
      let both = frame_once c.opening w.snapshot.words w.snapshot.views k.shaped k.turn k.frames frame.0 in
      let mine = once in
      absurd (omega arith)

  -- ---- the space then

  behind : then ≡ after_action c.sizes c.online st (space.Return seat frame)
  behind = space_after-append c.sizes c.online c.space w.space (space.Return seat frame)

  out_here : out_for then frame.0 ≡ None
  out_here =
      let lt = low in
      let long = is_space.out in
      ap (λ (x : SpaceState). out_for x frame.0) behind ∙ get_or-set_same st.out frame.0 None None (omega arith)

  pub return_out : (f : ℕ) → f ≢ frame.0 → out_for then f ≡ out_for st f
  return_out f ne = ap (λ (x : SpaceState). out_for x f) behind ∙ get_or-set_other st.out frame.0 f None None ne

  pub return_offline : then.offline ≡ st.offline
  return_offline = ap (λ (x : SpaceState). x.offline) behind

  possible : IsPossibleJournal c.sizes c.online c.space journal
  possible =
      let few : seat ≤ 16 = let high = may.actor in let most = set.owners in omega arith in
      (possible_goes_on c.sizes c.online c.space w.space (space.Return seat frame)).1 (kept.possible, (few, may.out))

  -- ---- the frames then

  had_still : (f : ℕ) → f ≢ frame.0 → hand_frame (view_of views seat) f ≡ hand_frame giver f
  had_still = giver_still c.opening w.snapshot.views seat free apart mine_there free_there frame.0 return_hands

  -- an owner's frames are out
  in_hand_out : IsOwnerSeat c seat → (f : ℕ) → IsSome (hand_frame (view_of views seat) f) → out_for then f ≢ None
  in_hand_out owner f some = dite (ℕ_discrete f frame.0)
      (λ same. absurd (true≢false (sym some ∙ ap (λ (x : Option HandFrame). is_some x)
      (ap (λ (g : ℕ). hand_frame (view_of views seat) g) same ∙ giver_gone c.opening w.snapshot.views seat free apart mine_there free_there frame.0 return_hands))))
      (λ ne. subst (λ (o : Option Out). o ≢ None) (sym (return_out f ne)) (kept.in_hand seat f owner (subst (λ (x : Option HandFrame). IsSome x) (had_still f ne) some)))

  -- the driver has the frames of the blocks that it holds
  driver_has : seat ≡ 0 → (block f : ℕ) → is_held c w block ≡ true → is_frame_of c.sizes block f ≡ true → IsSome (hand_frame (view_of views seat) f)
  driver_has is block f held its =
      subst (λ (x : Option HandFrame). IsSome x) (sym (had_still f (not_held block f held its))) (subst (λ (i : ℕ). HasFrame w i f) (sym is) (kept.driver block f held its))

  moved : IsMoved c w seat frame.0 views journal
  moved = record {
    actor = may.actor;
    snapshot = snapshot_kept;
    others = other_after w.snapshot.views seat free apart mine_there free_there frame.0 1;
    possible = possible;
    offline = return_offline;
    out = return_out;
    free = receiver_still c.opening w.snapshot.views seat free apart mine_there free_there frame.0 return_hands;
    here = (
      (λ had. (out_here, ap (λ (l : List ℕ). is_frame_in c.sizes l frame.0) return_offline ∙ plugged)),
      (λ q. subst (λ (x : Option HandFrame). IsSome x) (sym (receiver_has c.opening w.snapshot.views seat free apart mine_there free_there frame.0 return_hands)) may.has),
    );
    unmapped = unmapped;
    in_no_hand = return_elsewhere;
    in_hand = in_hand_out;
    driver = driver_has;
  }

  pub return_kept : IsConsistent c (return_made c seat w frame).world
  return_kept = moved_kept c w kept seat frame.0 views journal moved

  -- the driver holds the same blocks
  pub return_held : (block : ℕ) → is_held c (return_made c seat w frame).world block ≡ is_held c w block
  return_held = held_still c w kept seat frame.0 views journal moved
