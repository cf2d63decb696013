-- The hand of a device, whose blocks are those that aren't plugged.
use Rattle.std.proofs.Common.{◌≡◌, ℕ, ◌+◌, ◌-◌, ◌<◌, ◌≤◌, Bool, true, false, not, ◌&&◌, ◌||◌, List, [], refl, sym, ap, ◌∙◌, arith, inl, inr}
use Rattle.std.specs.List.{range_with_len}
use Rattle.std.proofs.lemmas.Bool.{cases_lt}
use Rattle.std.proofs.Math.Bool.{or-false, not-or_self}
use Rattle.evac_model.specs.Geometry.{Sizes}
use Rattle.evac_model.specs.Numbers.{is_in, is_between, united, with_range, without_range, IsRisingBelow}
use Rattle.evac_model.proofs.Ranges.{between_inside, between_below, between_above}
use Rattle.evac_model.proofs.Numbers.{numbers_agree, is_in-numbers_where, is_in-numbers_where_past}
use Rattle.evac_model.specs.DeviceAnswer.{unplugged_blocks}
use Rattle.evac_model.proofs.Booleans.{or_not, and_not}
use Rattle.evac_model.proofs.Members.{is_in-range_with_len}
use Rattle.evac_model.proofs.Unions.{united_below, is_in-with_range, is_in-without_range, without_range-numbers, numbers-range, rising_past, range_past}

-- which blocks the hand has
pub is_in-unplugged : (s : Sizes) (plugged : List ℕ) (b : ℕ) → b < s.managed → is_in b (unplugged_blocks s plugged) ≡ not (is_in b plugged)
is_in-unplugged s plugged b l = is_in-numbers_where (λ k. not (is_in k plugged)) s.managed b l

pub unplugged_past : (s : Sizes) (plugged : List ℕ) (b : ℕ) → s.managed ≤ b → is_in b (unplugged_blocks s plugged) ≡ false
unplugged_past s plugged b h = is_in-numbers_where_past (λ k. not (is_in k plugged)) s.managed b h

-- a plugged block isn't in the hand
pub plugged_apart : (s : Sizes) (plugged : List ℕ) (b : ℕ) → is_in b plugged ≡ true → is_in b (unplugged_blocks s plugged) ≡ false
plugged_apart s plugged b h =
    elim (cases_lt b s.managed) [
      | inl l ↦ is_in-unplugged s plugged b l ∙ ap not h
      | inr g ↦ unplugged_past s plugged b g
    ]

-- a range that was plugged comes in
pub hand_with-range : (s : Sizes) (plugged : List ℕ) (first n : ℕ) → first + n ≤ s.managed → united (unplugged_blocks s plugged) (range_with_len first n) ≡ unplugged_blocks s (without_range first n plugged)
hand_with-range s plugged first n h =
    united_below (unplugged_blocks s plugged) (range_with_len first n) s.managed (unplugged_past s plugged) (range_past first n s.managed h)
    ∙ numbers_agree (λ b. is_in b (unplugged_blocks s plugged) || is_in b (range_with_len first n)) (λ b. not (is_in b (without_range first n plugged))) s.managed (λ b l.
    ap (λ (t : Bool). t || is_in b (range_with_len first n)) (is_in-unplugged s plugged b l)
    ∙ ap (λ (t : Bool). not (is_in b plugged) || t) (is_in-range_with_len b first n)
    ∙ or_not (is_in b plugged) (is_between first (first + n) b)
    ∙ ap not (sym (is_in-without_range first n plugged b)))

-- all plugged blocks come in
pub hand_with-all : (s : Sizes) (plugged : List ℕ) → IsRisingBelow s.managed plugged → united (unplugged_blocks s plugged) plugged ≡ unplugged_blocks s []
hand_with-all s plugged r =
    united_below (unplugged_blocks s plugged) plugged s.managed (unplugged_past s plugged) (rising_past s.managed plugged r)
    ∙ numbers_agree (λ b. is_in b (unplugged_blocks s plugged) || is_in b plugged) (λ b. not (is_in b [])) s.managed (λ b l.
    ap (λ (t : Bool). t || is_in b plugged) (is_in-unplugged s plugged b l) ∙ not-or_self (is_in b plugged))

-- nothing comes in
pub hand_with-none : (s : Sizes) (plugged : List ℕ) → united (unplugged_blocks s plugged) [] ≡ unplugged_blocks s plugged
hand_with-none s plugged =
    united_below (unplugged_blocks s plugged) [] s.managed (unplugged_past s plugged) (λ b h. refl)
    ∙ numbers_agree (λ b. is_in b (unplugged_blocks s plugged) || is_in b []) (λ b. not (is_in b plugged)) s.managed (λ b l.
    or-false (is_in b (unplugged_blocks s plugged)) ∙ is_in-unplugged s plugged b l)

-- a range that is plugged goes out
pub hand_without-range : (s : Sizes) (plugged : List ℕ) (first n : ℕ) → without_range first n (unplugged_blocks s plugged) ≡ unplugged_blocks s (with_range first n plugged)
hand_without-range s plugged first n =
    without_range-numbers (λ b. not (is_in b plugged)) first n s.managed
    ∙ numbers_agree (λ b. not (is_in b plugged) && not (is_between first (first + n) b)) (λ b. not (is_in b (with_range first n plugged))) s.managed (λ b l.
    and_not (is_in b plugged) (is_between first (first + n) b)
    ∙ ap not (sym (is_in-with_range first n plugged b)))

-- the hand at the start has the blocks above the plugged ones
pub unplugged_start : (s : Sizes) → s.plugged ≤ s.managed → unplugged_blocks s (range_with_len 0 s.plugged) ≡ range_with_len s.plugged (s.managed - s.plugged)
unplugged_start s h =
    numbers-range (λ b. not (is_in b (range_with_len 0 s.plugged))) s.plugged (s.managed - s.plugged) s.managed (omega arith) (λ b l.
    ap not (is_in-range_with_len b 0 s.plugged) ∙ elim (cases_lt b s.plugged) [
      | inl x ↦ ap not (between_inside 0 (0 + s.plugged) b (omega arith) (omega arith)) ∙ sym (between_below s.plugged (s.plugged + (s.managed - s.plugged)) b x)
      | inr y ↦ ap not (between_above 0 (0 + s.plugged) b (omega arith)) ∙ sym (between_inside s.plugged (s.plugged + (s.managed - s.plugged)) b y (omega arith))
    ])

-- where the blocks of a list lie
pub below_room : (m room : ℕ) (xs : List ℕ) → m ≤ room → ((b : ℕ) → m ≤ b → is_in b xs ≡ false) → (b : ℕ) → is_in b xs ≡ true → b < room
below_room m room xs h past b e =
    elim (cases_lt b m) [
      | inl l ↦ omega (arith, l, h)
      | inr g ↦ let x : true ≡ false = sym e ∙ past b g in cc
    ]
