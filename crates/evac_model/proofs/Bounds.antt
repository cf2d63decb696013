-- Bounds on the numbers of a geometry and on their products.
use Rattle.std.proofs.Common.{◌≡◌, ℕ, suc, zero, ◌+◌, ◌*◌, ◌^◌, ◌<◌, ◌≤◌, Bool, true, false, nat_eq, ◌||◌, ◌↔◌, IsTrue, List, [], ◌∷◌, refl, sym, subst, ◌∙◌, arith, Fits, w32, lit≤, rules}
use Rattle.std.proofs.lemmas.Bool.{eqb-true}
use Rattle.std.specs.List.{list_any, AllByRecursion}
use Rattle.std.proofs.Math.Nat.{mul-le-mul}
use Rattle.std.proofs.lemmas.Bool.Decides.{nat_tests}
use Rattle.evac_model.specs.Geometry.{Sizes, IsWithinLimits}
use Rattle.evac_model.specs.GeometryLimits.{IsPowerTo512}
use Rattle.evac_model.specs.DeviceAnswer.{is_good_range, block_at}

-- what holds of each number to 9
pub to_nine : (P : ℕ → Type 0) → P 0 → P 1 → P 2 → P 3 → P 4 → P 5 → P 6 → P 7 → P 8 → P 9 → (k : ℕ) → k ≤ 9 → P k
to_nine P p0 p1 p2 p3 p4 p5 p6 p7 p8 p9 zero h = p0
to_nine P p0 p1 p2 p3 p4 p5 p6 p7 p8 p9 (suc zero) h = p1
to_nine P p0 p1 p2 p3 p4 p5 p6 p7 p8 p9 (suc (suc zero)) h = p2
to_nine P p0 p1 p2 p3 p4 p5 p6 p7 p8 p9 (suc (suc (suc zero))) h = p3
to_nine P p0 p1 p2 p3 p4 p5 p6 p7 p8 p9 (suc (suc (suc (suc zero)))) h = p4
to_nine P p0 p1 p2 p3 p4 p5 p6 p7 p8 p9 (suc (suc (suc (suc (suc zero))))) h = p5
to_nine P p0 p1 p2 p3 p4 p5 p6 p7 p8 p9 (suc (suc (suc (suc (suc (suc zero)))))) h = p6
to_nine P p0 p1 p2 p3 p4 p5 p6 p7 p8 p9 (suc (suc (suc (suc (suc (suc (suc zero))))))) h = p7
to_nine P p0 p1 p2 p3 p4 p5 p6 p7 p8 p9 (suc (suc (suc (suc (suc (suc (suc (suc zero)))))))) h = p8
to_nine P p0 p1 p2 p3 p4 p5 p6 p7 p8 p9 (suc (suc (suc (suc (suc (suc (suc (suc (suc zero))))))))) h = p9
to_nine P p0 p1 p2 p3 p4 p5 p6 p7 p8 p9 (suc (suc (suc (suc (suc (suc (suc (suc (suc (suc k)))))))))) h = absurd (omega arith)

pub power_to_512_most : (n : ℕ) → IsPowerTo512 n → n ≤ 512
power_to_512_most n h =
    subst (λ x. x ≤ 512) (sym h.2)
    (to_nine (λ k. 2 ^ k ≤ 512) (omega arith) (omega arith) (omega arith) (omega arith) (omega arith) (omega arith) (omega arith) (omega arith) (omega arith) (omega arith) h.0 h.1)

pub power_to_512_least : (n : ℕ) → IsPowerTo512 n → 1 ≤ n
power_to_512_least n h =
    subst (λ x. 1 ≤ x) (sym h.2)
    (to_nine (λ k. 1 ≤ 2 ^ k) (omega arith) (omega arith) (omega arith) (omega arith) (omega arith) (omega arith) (omega arith) (omega arith) (omega arith) (omega arith) h.0 h.1)

-- the powers of two from 1 to 512
abbrev pub powers : List ℕ
powers = 1 ∷ 2 ∷ 4 ∷ 8 ∷ 16 ∷ 32 ∷ 64 ∷ 128 ∷ 256 ∷ 512 ∷ []

are_powers : AllByRecursion IsPowerTo512 powers
are_powers =
    ((0, lit≤ tt, refl), ((1, lit≤ tt, refl), ((2, lit≤ tt, refl), ((3, lit≤ tt, refl), ((4, lit≤ tt, refl), ((5, lit≤ tt, refl), ((6, lit≤ tt, refl), ((7, lit≤ tt, refl), ((8, lit≤ tt, refl), ((9, lit≤ tt, refl), tt))))))))))

found : (P : ℕ → Type 0) (n : ℕ) (xs : List ℕ) → AllByRecursion P xs → list_any (λ y. nat_eq y n) xs ≡ true → P n
found P n [] h e = absurd (cc)
found P n (x ∷ xs) h e =
    elim (nat_eq x n) as (λ b. nat_eq x n ≡ b → (b || list_any (λ y. nat_eq y n) xs) ≡ true → P n) [
      | true ↦ λ t _. subst P (eqb-true x n t) h.0
      | false ↦ λ _ r. found P n xs h.1 r
    ] refl e

-- a number is such a power just if it is found among them
pub is_power_tested : (n : ℕ) (r : Bool) → r ≡ list_any (λ y. nat_eq y n) powers → IsTrue r ↔ IsPowerTo512 n
is_power_tested n r e = (
  λ t. found IsPowerTo512 n powers are_powers (sym e ∙ t),
  λ h. e ∙ subst (λ x. list_any (λ y. nat_eq y x) powers ≡ true) (sym h.2)
      (to_nine (λ k. list_any (λ y. nat_eq y (2 ^ k)) powers ≡ true) refl refl refl refl refl refl refl refl refl refl h.0 h.1),
)

-- frames of all blocks
pub product_fits : (blocks block : ℕ) → blocks ≤ 131072 → block ≤ 512 → Fits w32 (blocks * block)
product_fits blocks block h k =
    let most : blocks * block < 2 ^ 32 = omega (arith, mul-le-mul h k) in search rules

-- a block has a frame
pub block_some : (s : Sizes) → IsWithinLimits s → 0 < s.block
block_some s w = power_to_512_least s.block w.block

-- a good range lies in the region
pub good_within : (s : Sizes) (addr count : ℕ) → is_good_range s addr count ≡ true → block_at s addr + count ≤ s.managed
good_within s addr count good = grind (arith, nat_tests, good)
