-- The blocks in hand around a request: those that it names are given to the device, and what comes back is taken in. The
-- machine that has the blocks then.
use Rattle.std.proofs.Common.{◌≡◌, ℕ, ◌+◌, ◌<◌, ◌≤◌, ◌⊎◌, Bool, true, false, not, ◌&&◌, ◌||◌, List, [], Some, refl, sym, ap, subst, ◌∙◌, arith, inl, inr}
use Rattle.std.specs.List.{range_with_len}
use Rattle.std.proofs.lemmas.Bool.{false≢true, true≢false, false_from_ne_true, and_parts, and_left, and_right, or_cases}
use Rattle.evac_model.specs.declared.device.Request.TheVariants.{UnplugAll}
use Rattle.evac_model.specs.declared.device.Response.{Response}
use Rattle.evac_model.specs.declared.device.Response.TheVariants.{Ack}
use Rattle.evac_model.specs.DeviceAnswer.{DeviceState, request_in}
use Rattle.evac_model.specs.DeviceJournal.{backing_refuses}
use Rattle.evac_model.specs.Geometry.{Sizes}
use Rattle.evac_model.specs.Numbers.{is_in, united, without_range, IsRisingBelow}
use Rattle.evac_model.proofs.Members.{is_in-range_with_len}
use Rattle.evac_model.proofs.Numbers.{numbers_agree, numbers_rising}
use Rattle.evac_model.proofs.Ranges.{between_inside}
use Rattle.evac_model.proofs.Unions.{united_below, rising_past, rising-without_range, is_in-united, is_in-without_range}
use Rattle.mem_device.specs.Answering.{IsAnswer, IsBack}
use Rattle.mem_device.specs.DeviceView.{device_state}
use Rattle.mem_device.specs.HandState.{HandState}
use Rattle.space.proofs.BlockFrames.{both_true}
use Rattle.machine.specs.declared.parts.Parts.{Parts}
use Rattle.machine.specs.Made.{request_made}
use Rattle.machine.specs.MachineInside.{IsMachine, setting_of, world_of}
use Rattle.machine.specs.MayMake.{MayRequest}
use Rattle.machine.specs.World.{Setting, World, device_now, calls_now}
use Rattle.machine.proofs.BackBlocks.{back_has}
use Rattle.machine.proofs.HeldParts.{machine_now, same_sizes, same_calls}
use Rattle.machine.proofs.NamedBlocks.{unplugged_named}
use Rattle.machine.proofs.PlugAnswers.{same_in, all_gone, plugged_rising}
use Rattle.machine.proofs.RequestBlocks.{plugged_managed, plugged_not_held, plugged_stays, held_managed}
use Rattle.machine.proofs.RequestParts.{answer_of, came_of, named_of, gone_of, response_is, acknowledged, unacknowledged, none_came, all_named}
use Rattle.machine.proofs.RequestsKept.{request_kept, held_request}

-- ---- tests

-- what was named goes out and comes in again
put_back : (held named : Bool) → (named ≡ true → held ≡ true) → ((held && not named) || named) ≡ held
put_back true true has = refl
put_back true false has = refl
put_back false true has = absurd (false≢true (has refl))
put_back false false has = refl

-- what was named goes out, and what came and what isn't gone comes in
taken_in : (held named came gone : Bool) → (named ≡ true → held ≡ true) → (gone ≡ true → named ≡ true) → (came ≡ true → gone ≡ false) → ((held && not named) || (came || (named && not gone))) ≡ ((held || came) && not gone)
taken_in false true came gone has its apart = absurd (false≢true (has refl))
taken_in true true true true has its apart = absurd (true≢false (apart refl))
taken_in true true true false has its apart = refl
taken_in true true false gone has its apart = refl
taken_in held false came true has its apart = absurd (false≢true (its refl))
taken_in true false came false has its apart = refl
taken_in false false true false has its apart = refl
taken_in false false false false has its apart = refl

-- ---- lists of blocks

rising-united : (m : ℕ) (xs ys : List ℕ) → IsRisingBelow m xs → ((b : ℕ) → is_in b ys ≡ true → b < m) → IsRisingBelow m (united xs ys)
rising-united m xs ys rising low =
    subst (IsRisingBelow m) (sym (united_below xs ys m (rising_past m xs rising) (λ b past. false_from_ne_true _ (λ there. let below = low b there in omega arith))))
    (numbers_rising (λ (b : ℕ). is_in b xs || is_in b ys) m)

-- rising lists of the same numbers are the same
rising_agree : (m : ℕ) (xs ys : List ℕ) → IsRisingBelow m xs → IsRisingBelow m ys → ((b : ℕ) → is_in b xs ≡ is_in b ys) → xs ≡ ys
rising_agree m xs ys up also same = up ∙ (numbers_agree (λ (b : ℕ). is_in b xs) (λ (b : ℕ). is_in b ys) m (λ b low. same b) ∙ sym also)

-- ---- a request, and its bytes as they are sent

module _ (a : Parts) (m : IsMachine a) (bytes sent : List ℕ) (may : MayRequest (setting_of a) 0 (world_of a) bytes) (same : sent ≡ bytes) where
  abbrev c : Setting
  c = setting_of a

  abbrev w : World
  w = world_of a

  abbrev d : DeviceState
  d = device_now c w

  abbrev answer : Response
  answer = answer_of a bytes

  abbrev came : List ℕ
  came = came_of a bytes

  abbrev named : List ℕ
  named = named_of a bytes

  abbrev gone : List ℕ
  gone = gone_of a bytes

  -- ---- the blocks in hand

  named_held : (b : ℕ) → is_in b named ≡ true → is_in b a.held.blocks ≡ true
  named_held b its = m.held b ∙ may.held b its

  named_managed : (b : ℕ) → is_in b named ≡ true → b < c.sizes.managed
  named_managed b its = held_managed c w bytes m.set m.consistent may b (may.held b its)

  -- they can be given
  pub named_in_hand : (first n : ℕ) → range_with_len first n ≡ named → (b : ℕ) → first ≤ b → b < first + n → is_in b a.held.blocks ≡ true
  named_in_hand first n is b low high =
      named_held b (ap (λ (l : List ℕ). is_in b l) (sym is) ∙ (is_in-range_with_len b first n ∙ between_inside first (first + n) b low high))

  -- the machine behind an answer
  pub machine_request : (b : Parts) → setting_of b ≡ c → world_of b ≡ (request_made c w bytes answer).world → b.device.sizes ≡ a.device.sizes → b.device.backing.calls ≡ calls_now c (request_made c w bytes answer).world
      → ((n : ℕ) → is_in n b.held.blocks ≡ ((is_in n a.held.blocks || is_in n came) && not (is_in n gone))) → b.held.room ≡ a.held.room → IsRisingBelow c.sizes.managed b.held.blocks → IsMachine b
  machine_request b set is sizes calls has room rising =
      machine_now a b (request_made c w bytes answer).world m set is (request_kept c w bytes m.set m.consistent may) sizes calls
      (λ n. has n ∙ (ap (λ (t : Bool). (t || is_in n came) && not (is_in n gone)) (m.held n) ∙ sym (held_request c w bytes m.set m.consistent may n))) room rising

  -- ---- a request that names a range

  module _ (first n : ℕ) (left given : HandState) (range : range_with_len first n ≡ named) (keeps : left.blocks ≡ without_range first n a.held.blocks) (gives : given.blocks ≡ range_with_len first n) where
    left_has : (b : ℕ) → is_in b left.blocks ≡ (is_in b a.held.blocks && not (is_in b named))
    left_has b =
        ap (λ (l : List ℕ). is_in b l) keeps
        ∙ (is_in-without_range first n a.held.blocks b
        ∙ (ap (λ (t : Bool). is_in b a.held.blocks && not t) (sym (is_in-range_with_len b first n))
        ∙ ap (λ (l : List ℕ). is_in b a.held.blocks && not (is_in b l)) range))

    left_rising : IsRisingBelow c.sizes.managed left.blocks
    left_rising = subst (IsRisingBelow c.sizes.managed) (sym keeps) (rising-without_range first n c.sizes.managed a.held.blocks m.rising)

    -- what comes back can be taken in, where it was plugged or had been given
    module _ (back : HandState) (known : (b : ℕ) → is_in b back.blocks ≡ true → (is_in b came ≡ true) ⊎ (is_in b named ≡ true)) where
      back_managed : (b : ℕ) → is_in b back.blocks ≡ true → b < c.sizes.managed
      back_managed b there = elim (known b there) [
        | inl plugged ↦ plugged_managed c w bytes m.set m.consistent may b plugged
        | inr its ↦ named_managed b its
      ]

      pub back_below : left.room ≡ a.held.room → (b : ℕ) → is_in b back.blocks ≡ true → b < left.room
      back_below room b there = subst (λ (k : ℕ). b < k) (sym (room ∙ m.room)) (back_managed b there)

      pub back_apart : (b : ℕ) → is_in b back.blocks ≡ true → is_in b left.blocks ≡ false
      back_apart b there = left_has b ∙ elim (known b there) [
        | inl plugged ↦ and_left _ _ (m.held b ∙ plugged_not_held c w bytes m.set m.consistent may b plugged)
        | inr its ↦ and_right _ _ (ap not its)
      ]

      back_rising : (now : HandState) → now.blocks ≡ united left.blocks back.blocks → IsRisingBelow c.sizes.managed now.blocks
      back_rising now takes = subst (IsRisingBelow c.sizes.managed) (sym takes) (rising-united c.sizes.managed left.blocks back.blocks left_rising back_managed)

      now_has : (now : HandState) → now.blocks ≡ united left.blocks back.blocks → (b : ℕ) → is_in b now.blocks ≡ ((is_in b a.held.blocks && not (is_in b named)) || is_in b back.blocks)
      now_has now takes b =
          ap (λ (l : List ℕ). is_in b l) takes
          ∙ (is_in-united left.blocks back.blocks b
          ∙ ap (λ (t : Bool). t || is_in b back.blocks) (left_has b))

    -- there is no memory for an answer, and what was given comes back
    pub given_known : (back : HandState) → back ≡ given → (b : ℕ) → is_in b back.blocks ≡ true → (is_in b came ≡ true) ⊎ (is_in b named ≡ true)
    given_known back is b there = inr (ap (λ (l : List ℕ). is_in b l) (sym (ap (λ (h : HandState). h.blocks) is ∙ (gives ∙ range))) ∙ there)

    pub machine_refused : (back : HandState) → back ≡ given → (b : Parts) → setting_of b ≡ c → world_of b ≡ w → b.device ≡ a.device → b.held.blocks ≡ united left.blocks back.blocks → b.held.room ≡ a.held.room → IsMachine b
    machine_refused back is b set world unchanged takes room =
        machine_now a b w m set world m.consistent (same_sizes a b unchanged) (same_calls a m b unchanged)
        (λ n.
        now_has back (given_known back is) b.held takes n
        ∙ (ap (λ (l : List ℕ). (is_in n a.held.blocks && not (is_in n named)) || is_in n l) (ap (λ (h : HandState). h.blocks) is ∙ (gives ∙ range))
        ∙ (put_back (is_in n a.held.blocks) (is_in n named) (named_held n)
        ∙ m.held n))) room (back_rising back (given_known back is) b.held takes)

    -- it is answered
    module _ (before later : ℕ) (response : Response) (back : HandState) (is : IsAnswer a.device.sizes (device_state a.device) (request_in sent) before later (Some a.device.backing.calls) response) (comes : IsBack (λ (h : HandState). h.blocks) a.device.sizes (request_in sent) response given back) where
      comes_back : IsBack (λ (h : HandState). h.blocks) c.sizes (request_in bytes) answer given back
      comes_back =
          subst (λ (r : Response). IsBack (λ (h : HandState). h.blocks) c.sizes (request_in bytes) r given back) (response_is a m bytes sent may same before later response is)
          (subst (λ (l : List ℕ). IsBack (λ (h : HandState). h.blocks) c.sizes (request_in l) response given back) same
          (subst (λ (s : Sizes). IsBack (λ (h : HandState). h.blocks) s (request_in sent) response given back) m.device comes))

      came_back : (b : ℕ) → is_in b back.blocks ≡ (is_in b came || (is_in b named && not (is_in b gone)))
      came_back = back_has c.sizes d given back (backing_refuses c.sizes d (calls_now c w) (request_in bytes)) (request_in bytes) answer (gives ∙ range) refl comes_back

      pub answered_known : (b : ℕ) → is_in b back.blocks ≡ true → (is_in b came ≡ true) ⊎ (is_in b named ≡ true)
      answered_known b there = elim (or_cases _ _ (sym (came_back b) ∙ there)) [
        | inl plugged ↦ inl plugged
        | inr its ↦ inr (and_parts _ _ its).0
      ]

      answered_has : (now : HandState) → now.blocks ≡ united left.blocks back.blocks → (b : ℕ) → is_in b now.blocks ≡ ((is_in b a.held.blocks || is_in b came) && not (is_in b gone))
      answered_has now takes b =
          now_has back answered_known now takes b
          ∙ (ap (λ (t : Bool). (is_in b a.held.blocks && not (is_in b named)) || t) (came_back b)
          ∙ taken_in (is_in b a.held.blocks) (is_in b named) (is_in b came) (is_in b gone) (named_held b) (unplugged_named c.sizes d.plugged (request_in bytes) answer b) (plugged_stays c w bytes m.set m.consistent may b))

      pub machine_answered : (b : Parts) → setting_of b ≡ c → world_of b ≡ (request_made c w bytes answer).world → b.device.sizes ≡ a.device.sizes → b.device.backing.calls ≡ calls_now c (request_made c w bytes answer).world → b.held.blocks ≡ united left.blocks back.blocks → b.held.room ≡ a.held.room → IsMachine b
      machine_answered b set world sizes calls takes room = machine_request b set world sizes calls (answered_has b.held takes) room (back_rising back answered_known b.held takes)

  -- ---- an UNPLUG_ALL

  module _ (all : request_in bytes ≡ Some UnplugAll) where
    -- the driver holds all plugged blocks, and no others
    pub all_in_hand : a.held.blocks ≡ d.plugged
    all_in_hand = rising_agree c.sizes.managed a.held.blocks d.plugged m.rising (plugged_rising c w m.set m.consistent) (λ b. both_true _ _
        (λ there. (and_parts _ _ (sym (m.held b) ∙ there)).1)
        (λ there. named_held b (ap (λ (l : List ℕ). is_in b l) (all_named a m bytes sent may same all) ∙ there)))

    pub none_has : (state : ℕ) → answer ≡ Ack state → (now : HandState) → now.blocks ≡ [] → (b : ℕ) → is_in b now.blocks ≡ ((is_in b a.held.blocks || is_in b came) && not (is_in b gone))
    none_has state is now none b =
        let went : gone ≡ a.held.blocks = acknowledged a m bytes sent may same state is ∙ (all_named a m bytes sent may same all ∙ sym all_in_hand) in
        ap (λ (l : List ℕ). is_in b l) none
        ∙ (all_gone (is_in b a.held.blocks)
        ∙ (ap (λ (l : List ℕ). (is_in b a.held.blocks || is_in b l) && not (is_in b a.held.blocks)) (sym (none_came a m bytes sent may same all))
        ∙ ap (λ (l : List ℕ). (is_in b a.held.blocks || is_in b came) && not (is_in b l)) (sym went)))

    pub all_has : ((state : ℕ) → answer ≡ Ack state → ⊥) → (now : HandState) → now ≡ a.held → (b : ℕ) → is_in b now.blocks ≡ ((is_in b a.held.blocks || is_in b came) && not (is_in b gone))
    all_has none now is b =
        ap (λ (h : HandState). is_in b h.blocks) is
        ∙ (same_in (is_in b a.held.blocks)
        ∙ (ap (λ (l : List ℕ). (is_in b a.held.blocks || is_in b l) && true) (sym (none_came a m bytes sent may same all))
        ∙ ap (λ (l : List ℕ). (is_in b a.held.blocks || is_in b came) && not (is_in b l)) (sym (unacknowledged a m bytes sent may same none))))
