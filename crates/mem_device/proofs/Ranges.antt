-- What a block map says of a range.
use Rattle.std.proofs.Common.{◌≡◌, ℕ, ◌*◌, ◌<◌, ◌≤◌, zero, suc, List, length, ◌↔◌, refl, sym, ap, ◌∙◌, arith, inl, inr}
use Rattle.std.proofs.lemmas.Bool.{cases_eq, eq-eqb, ne_eqb, false_from_ne_true}
use Rattle.std.proofs.lemmas.Nat.{mul-le}
use Rattle.std.proofs.Math.Dec.{eqb}
use Rattle.evac_model.specs.Geometry.{Sizes, IsWithinLimits, block_bytes}
use Rattle.evac_model.specs.Numbers.{is_in, IsRisingBelow}
use Rattle.evac_model.specs.DeviceAnswer.{are_plugged, are_unplugged}
use Rattle.evac_model.proofs.Numbers.{length-numbers_where}
use Rattle.block_map.specs.Blocks.{IsAllPlugged, IsNonePlugged}
use Rattle.block_map.proofs.Maps.{block_bytes_le}
use Rattle.block_map.proofs.States.{plugged_all, all_plugged, plugged_none, none_plugged}

pub tested_plugged : (r : ℕ) (plugged : List ℕ) (first n : ℕ) → (r ≡ 0) ↔ IsAllPlugged first n plugged → eqb r 0 ≡ are_plugged plugged first n
tested_plugged r plugged first n h =
    elim (cases_eq r 0) [
      | inl e ↦ eq-eqb r 0 e ∙ sym (plugged_all plugged first n (h.0 e))
      | inr ne ↦ ne_eqb r 0 ne ∙ sym (false_from_ne_true (are_plugged plugged first n) (λ t. ne (h.1 (all_plugged plugged first n t))))
    ]

pub tested_unplugged : (r : ℕ) (plugged : List ℕ) (first n : ℕ) → (r ≡ 1) ↔ IsNonePlugged first n plugged → eqb r 1 ≡ are_unplugged plugged first n
tested_unplugged r plugged first n h =
    elim (cases_eq r 1) [
      | inl e ↦ eq-eqb r 1 e ∙ sym (plugged_none plugged first n (h.0 e))
      | inr ne ↦ ne_eqb r 1 ne ∙ sym (false_from_ne_true (are_unplugged plugged first n) (λ t. ne (h.1 (none_plugged plugged first n t))))
    ]

-- sizes fit
pub plugged_few : (s : Sizes) (plugged : List ℕ) → IsWithinLimits s → IsRisingBelow s.managed plugged → length plugged ≤ 65536
plugged_few s plugged w r =
    let few : length plugged ≡ length _ = ap (λ (xs : List ℕ). length xs) r in
    omega (arith, few, length-numbers_where (λ b. is_in b plugged) s.managed, w.managed.1)

pub size_le : (s : Sizes) (n : ℕ) → IsWithinLimits s → n ≤ 65536 → n * block_bytes s ≤ 65536 * 2097152
size_le s n w h = mul-le n (block_bytes s) 65536 2097152 h (block_bytes_le s w)

-- no bytes are plugged where no block is
pub size_none : (n size : ℕ) → 0 < size → n * size ≡ 0 → n ≡ 0
size_none zero size h e = refl
size_none (suc n) size h e = absurd (omega (arith, e, mul-le 1 1 (suc n) size (omega arith) h))
