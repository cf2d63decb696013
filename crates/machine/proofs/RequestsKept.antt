-- A request: the frames of the blocks that it plugs go from the hand of who keeps the unplugged ones to the driver's, and
-- those of the blocks that it unplugs go back.
use Rattle.std.proofs.Common.{◌≡◌, ◌≢◌, ◌↔◌, ℕ, ◌<◌, Bool, true, false, not, ◌&&◌, ◌||◌, List, [], ◌∷◌, length, filter, refl, sym, ap, ◌∙◌, subst, arith, inl, inr, None, Some, IsSome, Option}
use Rattle.std.proofs.lemmas.Bool.{both_ways, and_from, and_parts, not-true, not_from_false, false_from_ne_true, or_cases, or_left, or_right}
use Rattle.evac_model.specs.declared.device.Request.{Request}
use Rattle.evac_model.specs.declared.device.Response.{Response}
use Rattle.evac_model.specs.Geometry.{Sizes, frame_count}
use Rattle.evac_model.specs.DeviceAnswer.{DeviceState, request_in, device_at_start}
use Rattle.evac_model.specs.DeviceJournal.{answer_to}
use Rattle.evac_model.specs.HostCommands.{BlockRange, blocks_of, plugged_by, request_action}
use Rattle.evac_model.specs.Numbers.{is_in}
use Rattle.evac_model.specs.SpaceJournal.{out_for, is_frame_of, is_frame_in}
use Rattle.evac_words.specs.Word.{mapped_bit, frame_of}
use Rattle.evac_model.proofs.DeviceJournal.{answered_more}
use Rattle.evac_model.proofs.Distinct.{distinct-range_with_len}
use Rattle.evac_model.proofs.Members.{is_in-filter}
use Rattle.core_state.specs.declared.snapshot.Snapshot.{Snapshot}
use Rattle.core_state.specs.declared.view.View.{View}
use Rattle.core_state.specs.Views.{view_of, hand_frame}
use Rattle.core_state.specs.Words.{entry_word_of, kind_in}
use Rattle.space.proofs.BlockFrames.{both_true, same_block, frame_below, frame_in_witness, frame_in_from}
use Rattle.machine.specs.BlocksInHand.{MayHandBlocks}
use Rattle.machine.specs.Consistent.{IsSetting, IsConsistent}
use Rattle.machine.specs.Made.{handed_blocks, unplugged_by, request_made}
use Rattle.machine.specs.MayMake.{MayRequest}
use Rattle.machine.specs.World.{Setting, World, scanner_seat, free_seat, unplugged_seat, HasFrame, space_now, device_now, calls_now, unplugged_now, is_held}
use Rattle.machine.proofs.BlockFrames.{blocks_below, frame_in-without}
use Rattle.machine.proofs.HandedBlocks.{list_handed, list_kept, list_rests}
use Rattle.machine.proofs.HandedFrames.{AreHanded, has_frame, IsSnapshotKept, same_kept}
use Rattle.machine.proofs.NamedBlocks.{unplugged_distinct}
use Rattle.machine.proofs.PlugAnswers.{plugged_rising}
use Rattle.machine.proofs.RequestBlocks.{plugged_managed, were_unplugged, unplugged_held, unplugged_managed, unplugged_then, offline_then}
pub use Rattle.machine.proofs.RequestBlocks.{held_request}

-- ---- frames of lists of blocks

module _ (s : Sizes) (f : ℕ) where
  -- each block of the two
  frame_in-with : (xs ys zs : List ℕ) → ((b : ℕ) → is_in b zs ≡ (is_in b xs || is_in b ys)) → is_frame_in s zs f ≡ (is_frame_in s xs f || is_frame_in s ys f)
  frame_in-with xs ys zs h = both_true _ _
      (λ t.
      let q = frame_in_witness s zs f t in
      elim (or_cases _ _ (sym (h q.0) ∙ q.1)) [
        | inl old ↦ or_left _ _ (frame_in_from s xs q.0 f old q.2)
        | inr new ↦ or_right _ _ (frame_in_from s ys q.0 f new q.2)
      ])
      (λ t. elim (or_cases _ _ t) [
        | inl old ↦ let q = frame_in_witness s xs f old in frame_in_from s zs q.0 f (h q.0 ∙ or_left _ _ q.1) q.2
        | inr new ↦ let q = frame_in_witness s ys f new in frame_in_from s zs q.0 f (h q.0 ∙ or_right _ _ q.1) q.2
      ])

  -- each block of the first that isn't of the second, and those of the third
  frame_in-changed : (xs ys zs us : List ℕ) → ((b : ℕ) → is_in b us ≡ ((is_in b xs && not (is_in b ys)) || is_in b zs)) → is_frame_in s us f ≡ ((is_frame_in s xs f && not (is_frame_in s ys f)) || is_frame_in s zs f)
  frame_in-changed xs ys zs us h =
      let left : List ℕ = filter (λ (b : ℕ). not (is_in b ys)) xs in
      frame_in-with left zs us (λ b. h b ∙ ap (λ (t : Bool). t || is_in b zs) (sym (is_in-filter (λ (j : ℕ). not (is_in j ys)) b xs)))
      ∙ ap (λ (t : Bool). t || is_frame_in s zs f) (frame_in-without s xs ys left f (λ b. is_in-filter (λ (j : ℕ). not (is_in j ys)) b xs))

  -- a block that isn't in the list has no frame of its blocks
  frame_elsewhere : (blocks : List ℕ) (block : ℕ) → is_in block blocks ≡ false → is_frame_of s block f ≡ true → is_frame_in s blocks f ≡ false
  frame_elsewhere blocks block there its = false_from_ne_true _ (λ h.
      let q = frame_in_witness s blocks f h in
      both_ways _ there (ap (λ (b : ℕ). is_in b blocks) (same_block s block q.0 f its q.2) ∙ q.1))

-- a frame of a managed block is one of the machine
frame_there : (s : Sizes) (block f : ℕ) → block < s.managed → is_frame_of s block f ≡ true → f < frame_count s
frame_there s block f low its =
    let end = frame_below s block f its in
    let below = blocks_below s block 1 (omega arith) in
    omega arith

-- ---- a request

module _ (c : Setting) (w : World) (bytes : List ℕ) (set : IsSetting c) (k : IsConsistent c w) (may : MayRequest c 0 w bytes) where
  abbrev keeper : ℕ
  keeper = unplugged_seat c

  abbrev d : DeviceState
  d = device_now c w

  abbrev request : Option Request
  request = request_in bytes

  abbrev response : Response
  response = answer_to c.sizes d (calls_now c w) bytes

  abbrev range : BlockRange
  range = plugged_by c.sizes request response

  -- the blocks that it plugs, and those that it unplugs
  abbrev came : List ℕ
  came = blocks_of range

  abbrev gone : List ℕ
  gone = unplugged_by c.sizes d.plugged request response

  abbrev after : World
  after = (request_made c w bytes response).world

  -- ---- the frames of those plugged

  apart : keeper ≢ 0
  apart = λ e. omega arith

  apart_back : 0 ≢ keeper
  apart_back = λ e. omega arith

  keeper_there : keeper < length w.snapshot.views
  keeper_there = let seats = k.seats in omega arith

  driver_there : 0 < length w.snapshot.views
  driver_there = let seats = k.seats in omega arith

  pub plugged_may : MayHandBlocks c.sizes c.opening w.snapshot.views keeper 0 came
  plugged_may = record {
    frames = let frames = set.frames in omega arith;
    giver_rests = k.unplugged_rests;
    receiver_rests = may.rests;
    managed = plugged_managed c w bytes set k may;
    distinct = distinct-range_with_len range.first range.count;
    in_hand = λ f its.
        let q = frame_in_witness c.sizes came f its in
        let low = frame_there c.sizes q.0 f (plugged_managed c w bytes set k may q.0 q.1) q.2 in
        (k.unplugged f low).1 (frame_in_from c.sizes (unplugged_now c w) q.0 f (were_unplugged c w bytes set k may q.0 q.1) q.2);
  }

  -- the words and the views with these frames in the driver's hand
  abbrev between : Snapshot
  between = handed_blocks c.sizes w.snapshot keeper 0 came

  plugged_hands : AreHanded c.sizes w.snapshot.views between.views keeper 0 came
  plugged_hands = list_handed c.sizes c.opening keeper 0 apart w.snapshot came keeper_there driver_there plugged_may

  pub plugged_kept : IsSnapshotKept c w between
  plugged_kept = list_kept c w keeper 0 apart (omega arith) (omega arith) w.snapshot came (same_kept c w k) plugged_may

  -- ---- the frames of those unplugged

  pub unplugged_may : MayHandBlocks c.sizes c.opening between.views 0 keeper gone
  unplugged_may = record {
    frames = let frames = set.frames in omega arith;
    giver_rests = list_rests c.sizes c.opening keeper 0 apart w.snapshot came keeper_there driver_there plugged_may 0 may.rests;
    receiver_rests = plugged_kept.unplugged_rests;
    managed = unplugged_managed c w bytes set k may;
    distinct = unplugged_distinct c.sizes d.plugged request response (plugged_rising c w set k);
    in_hand = λ f its.
        let q = frame_in_witness c.sizes gone f its in
        plugged_hands.receiver f ∙ or_left _ _ (k.driver q.0 f (unplugged_held c w bytes set k may q.0 q.1) q.2);
  }

  unplugged_hands : AreHanded c.sizes between.views after.snapshot.views 0 keeper gone
  unplugged_hands =
      let seats = plugged_kept.seats in
      list_handed c.sizes c.opening 0 keeper apart_back between gone (omega arith) (omega arith) unplugged_may

  kept : IsSnapshotKept c w after.snapshot
  kept = list_kept c w 0 keeper apart_back (omega arith) (omega arith) between gone plugged_kept unplugged_may

  -- ---- the hands then

  pub driver_request : (f : ℕ) → has_frame after.snapshot.views 0 f ≡ ((has_frame w.snapshot.views 0 f || is_frame_in c.sizes came f) && not (is_frame_in c.sizes gone f))
  driver_request f = unplugged_hands.giver f ∙ ap (λ (t : Bool). t && not (is_frame_in c.sizes gone f)) (plugged_hands.receiver f)

  pub request_others : (seat : ℕ) → seat ≢ 0 → seat ≢ keeper → view_of after.snapshot.views seat ≡ view_of w.snapshot.views seat
  request_others seat other one = unplugged_hands.others seat other one ∙ plugged_hands.others seat one other

  driver_then : (block f : ℕ) → is_held c after block ≡ true → is_frame_of c.sizes block f ≡ true → HasFrame after 0 f
  driver_then block f held its =
      let parts = and_parts _ _ (sym (held_request c w bytes set k may block) ∙ held) in
      let has : (has_frame w.snapshot.views 0 f || is_frame_in c.sizes came f) ≡ true = elim (or_cases _ _ parts.0) [
        | inl had ↦ or_left _ _ (k.driver block f had its)
        | inr new ↦ or_right _ _ (frame_in_from c.sizes came block f new its)
      ] in
      driver_request f ∙ and_from _ _ has (not_from_false _ (frame_elsewhere c.sizes f gone block (not-true _ parts.1) its))

  keeper_has : (f : ℕ) → f < frame_count c.sizes → has_frame after.snapshot.views keeper f ≡ is_frame_in c.sizes (unplugged_now c after) f
  keeper_has f low =
      let q = k.unplugged f low in
      let had : has_frame w.snapshot.views keeper f ≡ is_frame_in c.sizes (unplugged_now c w) f = both_true _ _ q.0 q.1 in
      unplugged_hands.receiver f
      ∙ (ap (λ (t : Bool). t || is_frame_in c.sizes gone f) (plugged_hands.giver f ∙ ap (λ (t : Bool). t && not (is_frame_in c.sizes came f)) had)
      ∙ sym (frame_in-changed c.sizes f (unplugged_now c w) came gone (unplugged_now c after) (unplugged_then c w bytes set k may)))

  -- ---- the world then

  pub request_kept : IsConsistent c after
  request_kept = record {
    sound = kept.sound;
    seats = kept.seats;
    quiet = kept.quiet;
    keeper_rests = kept.keeper_rests;
    unplugged_rests = kept.unplugged_rests;
    possible = k.possible;
    answered = answered_more c.sizes (device_at_start c.sizes) c.backing w.device (request_action bytes response ∷ []) k.answered (refl, tt);
    free = λ f low. subst (λ (v : View). IsSome (hand_frame v f) ↔ ((out_for (space_now c w) f ≡ None) × (is_frame_in c.sizes (space_now c w).offline f ≡ false)))
        (sym (request_others (free_seat c) (λ e. omega arith) (λ e. omega arith))) (k.free f low);
    unplugged = λ f low. let same = keeper_has f low in ((λ h. sym same ∙ h), (λ h. same ∙ h));
    driver = driver_then;
    scanner = λ f. ap (λ (v : View). hand_frame v f) (request_others (scanner_seat c) (λ e. omega arith) (λ e. omega arith)) ∙ k.scanner f;
    offline = offline_then c w bytes set k may;
    mapped = subst (λ (words : List ℕ). (page : ℕ) → page < c.sizes.pages → mapped_bit (entry_word_of words page) ≡ 1
        → out_for (space_now c w) (frame_of (entry_word_of words page)) ≡ Some (record { page = page; kind = kind_in (entry_word_of words page) })) (sym kept.words) k.mapped;
    in_hand = λ seat f owner has. k.in_hand seat f owner (subst (λ (v : View). IsSome (hand_frame v f)) (request_others seat (λ e. let low = owner.0 in omega arith) (λ e. let high = owner.1 in omega arith)) has);
  }
