-- What a device does when it answers, over plain values.
use Rattle.std.proofs.Common.{◌≡◌, ℕ, ◌+◌, ◌*◌, ◌<◌, ◌≤◌, true, false, not, ◌&&◌, ◌||◌, List, [], length, Option, Some, refl, sym, ap, ◌∙◌, arith, inl, inr}
use Rattle.std.specs.List.{range_with_len}
use Rattle.std.proofs.lemmas.Bool.{cases_lt, and_parts}
use Rattle.std.proofs.lemmas.List.{nil_from_length}
use Rattle.evac_model.specs.declared.device.Request.TheVariants.{Unplug, UnplugAll}
use Rattle.evac_model.specs.declared.device.Response.TheVariants.{Ack}
use Rattle.evac_model.specs.Geometry.{Sizes, IsWithinLimits, block_bytes}
use Rattle.evac_model.specs.Numbers.{is_in, is_between, united, with_range, without_range, IsRisingBelow}
use Rattle.evac_model.specs.DeviceAnswer.{DeviceState, block_at, is_good_range, are_plugged, are_unplugged, state_answer}
use Rattle.evac_model.proofs.Numbers.{numbers_where-none}
use Rattle.evac_model.proofs.Ranges.{between_below, between_above}
use Rattle.block_map.specs.Blocks.{state_told}
use Rattle.block_map.proofs.States.{all_plugged, none_plugged}
use Rattle.evac_model.specs.Counts.{Calls}
use Rattle.evac_model.specs.DeviceAnswer.{unplugged_blocks, named_blocks, asks_backing}
use Rattle.dma_listeners.proofs.Bytes.{bytes_some}
use Rattle.dma_listeners.proofs.Ends.{without_all}
use Rattle.mem_device.specs.Answering.{IsAnswer}
use Rattle.mem_device.specs.Managed.{IsManaged}
use Rattle.mem_device.specs.declared.memory.Memory.{Memory}
use Rattle.evac_model.proofs.Members.{is_in-range_with_len}
use Rattle.evac_model.proofs.Unions.{with_range-below, without_none, numbers-range}
use Rattle.mem_device.proofs.Hands.{is_in-unplugged, hand_with-range, hand_with-all, hand_with-none, hand_without-range}
use Rattle.mem_device.proofs.Ranges.{size_none}

-- no blocks are rising
pub none_rising : (m : ℕ) → IsRisingBelow m []
none_rising m = sym (numbers_where-none (λ b. is_in b []) m (λ b. refl))

-- a memory whose hand has the unplugged blocks is managed
pub managed_after : {B H : Type 0} (blocks : H → List ℕ) (room : H → ℕ) (backs : B → ℕ) (m : Memory B H) (s : Sizes) (plugged : List ℕ) → IsWithinLimits s → m.map.sizes ≡ s → m.map.plugged ≡ plugged → IsRisingBelow s.managed plugged → blocks m.hand ≡ unplugged_blocks s plugged → s.managed ≤ room m.hand → s.managed ≤ backs m.backing → IsManaged blocks room backs m
managed_after blocks room backs m s plugged w e p r u h k =
    record { within = rw e w; rising = rw (p, e) r; unplugged = rw (p, e) u; roomy = rw e h; backed = rw e k }

-- the hand before a PLUG has the blocks that are plugged
pub merged_none : (s : Sizes) (plugged hand held merged : List ℕ) → hand ≡ unplugged_blocks s plugged → held ≡ [] → merged ≡ united hand held → merged ≡ unplugged_blocks s plugged
merged_none s plugged hand held merged h none m = m ∙ rw (h, none) (hand_with-none s plugged)

pub has_unplugged : (s : Sizes) (plugged merged : List ℕ) (first n : ℕ) → merged ≡ unplugged_blocks s plugged → are_unplugged plugged first n ≡ true → first + n ≤ s.managed → (b : ℕ) → first ≤ b → b < first + n → is_in b merged ≡ true
has_unplugged s plugged merged first n m none inside b f l =
    ap (is_in b) m ∙ is_in-unplugged s plugged b (omega arith) ∙ ap not (none_plugged plugged first n none b f l)

-- the hand behind a PLUG
pub parted : (s : Sizes) (plugged merged left : List ℕ) (first n : ℕ) → merged ≡ unplugged_blocks s plugged → left ≡ without_range first n merged → left ≡ unplugged_blocks s (with_range first n plugged)
parted s plugged merged left first n m l = l ∙ ap (without_range first n) m ∙ hand_without-range s plugged first n

-- the hand behind an UNPLUG, and behind an UNPLUG_ALL
pub taken : (s : Sizes) (plugged hand held merged left : List ℕ) (first n : ℕ) → first + n ≤ s.managed → hand ≡ unplugged_blocks s plugged → held ≡ range_with_len first n → merged ≡ united hand held → left ≡ without_range 0 0 merged → left ≡ unplugged_blocks s (without_range first n plugged)
taken s plugged hand held merged left first n inside h r m l =
    l ∙ without_none 0 merged ∙ m ∙ rw (h, r) (hand_with-range s plugged first n inside)

pub taken_all : (s : Sizes) (plugged hand held merged left : List ℕ) → IsRisingBelow s.managed plugged → hand ≡ unplugged_blocks s plugged → held ≡ plugged → merged ≡ united hand held → left ≡ without_range 0 0 merged → left ≡ unplugged_blocks s []
taken_all s plugged hand held merged left rising h r m l =
    l ∙ without_none 0 merged ∙ m ∙ rw (h, r) (hand_with-all s plugged rising)

-- the region is cleared
pub region_cleared : (n m : ℕ) (plugged after : List ℕ) → n ≡ m → IsRisingBelow m plugged → after ≡ without_range 0 n plugged → after ≡ []
region_cleared n m plugged after e r a = a ∙ ap (λ (k : ℕ). without_range 0 k plugged) e ∙ without_all m plugged r

-- the blocks that come with an UNPLUG that gets as far as the backing
pub named_unplug : (s : Sizes) (d : DeviceState) (addr count : ℕ) → asks_backing s d (Some (Unplug addr count)) ≡ true → named_blocks s d.plugged (Some (Unplug addr count)) ≡ range_with_len (block_at s addr) count
named_unplug s d addr count asks =
    let parts = and_parts (is_good_range s addr count) (are_plugged d.plugged (block_at s addr) count && not d.migrating) asks in
    let good = parts.0 in
    let plugged = (and_parts (are_plugged d.plugged (block_at s addr) count) (not d.migrating) parts.1).0 in
    rw (good, plugged) refl

pub range_plugged : (plugged : List ℕ) (first n b : ℕ) → are_plugged plugged first n ≡ true → is_in b (range_with_len first n) ≡ true → is_in b plugged ≡ true
range_plugged plugged first n b all h =
    elim (cases_lt b first) [
      | inl l ↦ let x : true ≡ false = sym h ∙ is_in-range_with_len b first n ∙ between_below first (first + n) b l in cc
      | inr f ↦ elim (cases_lt b (first + n)) [
        | inl l ↦ all_plugged plugged first n all b f l
        | inr g ↦ let x : true ≡ false = sym h ∙ is_in-range_with_len b first n ∙ between_above first (first + n) b g in cc
      ]
    ]

-- no block is plugged where no byte is
pub no_bytes : (s : Sizes) (plugged : List ℕ) → IsWithinLimits s → length plugged * block_bytes s ≡ 0 → plugged ≡ []
no_bytes s plugged w e = nil_from_length plugged (size_none (length plugged) (block_bytes s) (bytes_some s w) e)

-- an UNPLUG_ALL where nothing is plugged
pub answer_none : (s : Sizes) (d : DeviceState) (faults : ℕ) (told : Option Calls) → d.plugged ≡ [] → IsAnswer s d (Some UnplugAll) faults faults told (Ack 0)
answer_none s d faults told e =
    record {
      refused = false;
      answer = rw e refl;
      asked = λ x. cc;
      cause = λ x. cc;
      exact = λ x. let y : false ≡ true = rw e at x in cc;
    }

-- a STATE of a good range
pub state_good : (s : Sizes) (d : DeviceState) (addr count first state : ℕ) → is_good_range s addr count ≡ true → first ≡ block_at s addr → state ≡ state_told d.plugged first count → Ack state ≡ state_answer s d addr count
unfolding state_told
state_good s d addr count first state good f e = rw (good, e, f) refl

-- a set of a machine's blocks with just a range
pub only_range : (first n m : ℕ) (before mid after : List ℕ) → first + n ≤ m → IsRisingBelow m before → mid ≡ without_range 0 m before → after ≡ with_range first n mid → after ≡ range_with_len first n
only_range first n m before mid after inside r e a =
    a ∙ ap (with_range first n) (e ∙ without_all m before r)
    ∙ with_range-below first n m [] (λ b h. refl) inside
    ∙ numbers-range (λ b. is_in b [] || is_between first (first + n) b) first n m inside (λ b l. refl)
