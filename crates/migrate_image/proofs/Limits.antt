-- The test of an image's sizes tests the limits of a geometry.
use Rattle.std.proofs.Common.{◌≡◌, ℕ, true, Ok, Err, refl, sym, ap, arith, inl, inr}
use Rattle.std.proofs.lemmas.Bool.{cases_Bool, and_parts, and_from, leb-true, le-leb}
use Rattle.std.proofs.lemmas.Bool.Decides.{nat_tests}
use Rattle.evac_model.specs.declared.geometry.GeometryFault.{GeometryFault}
use Rattle.evac_model.specs.declared.geometry.GeometryFault.TheVariants.{Cells, Block, Boot, Managed, Plugged, Pages, Frames, TotalCells}
use Rattle.evac_model.specs.Geometry.{Sizes, IsWithinLimits, Meets, BreaksFirst}
use Rattle.evac_model.specs.GeometryLimits.{IsPowerTo512, IsCountTo65536}
use Rattle.evac_model.specs.Numbers.{is_between}
use Rattle.evac_model.proofs.Bounds.{is_power_tested}
use Rattle.migrate_image.specs.declared.fault.ImageFault.TheVariants.{BadHeader}
use Rattle.migrate_image.specs.Reading.{is_power, is_within, judged}

count_is : (n : ℕ) → is_between 1 65537 n ≡ true → IsCountTo65536 n
count_is n h = grind (arith, nat_tests, h)

is_count : (n : ℕ) → IsCountTo65536 n → is_between 1 65537 n ≡ true
is_count n h = grind (arith, nat_tests, h)

power_is : (n : ℕ) → is_power n ≡ true → IsPowerTo512 n
power_is n h = (is_power_tested n (is_power n) refl).0 h

power_passes : (n : ℕ) → IsPowerTo512 n → is_power n ≡ true
power_passes n h = (is_power_tested n (is_power n) refl).1 h

pub within_is : (s : Sizes) → is_within s ≡ true → IsWithinLimits s
unfolding is_within
within_is s h =
    let a = and_parts _ _ h in
    let b = and_parts _ _ a.1 in
    let c = and_parts _ _ b.1 in
    let d = and_parts _ _ c.1 in
    let e = and_parts _ _ d.1 in
    let f = and_parts _ _ e.1 in
    let g = and_parts _ _ f.1 in
    record {
      cells = power_is s.cells a.0;
      block = power_is s.block b.0;
      boot = count_is s.boot c.0;
      managed = count_is s.managed d.0;
      plugged = leb-true _ _ e.0;
      pages = count_is s.pages f.0;
      frames = leb-true _ _ g.0;
      total_cells = leb-true _ _ g.1;
    }

pub is_within-limits : (s : Sizes) → IsWithinLimits s → is_within s ≡ true
unfolding is_within
is_within-limits s w =
    and_from _ _ (power_passes s.cells w.cells) (and_from _ _ (power_passes s.block w.block) (and_from _ _ (is_count s.boot w.boot) (and_from _ _ (is_count s.managed w.managed)
    (and_from _ _ (le-leb _ _ w.plugged) (and_from _ _ (is_count s.pages w.pages) (and_from _ _ (le-leb _ _ w.frames) (le-leb _ _ w.total_cells)))))))

-- sizes that a geometry has, and those that break a limit
pub judged_good : (s g : Sizes) → g ≡ s → IsWithinLimits s → judged s ≡ Ok g
unfolding judged
judged_good s g e w = rw (is_within-limits s w) (ap (λ (x : Sizes). Ok x) (sym e))

each_met : (s : Sizes) → IsWithinLimits s → (f : GeometryFault) → Meets s f
each_met s w Cells = w.cells
each_met s w Block = w.block
each_met s w Boot = w.boot
each_met s w Managed = w.managed
each_met s w Plugged = w.plugged
each_met s w Pages = w.pages
each_met s w Frames = w.frames
each_met s w TotalCells = w.total_cells

pub judged_bad : (s : Sizes) (f : GeometryFault) → BreaksFirst s f → judged s ≡ Err BadHeader
unfolding judged
judged_bad s f b = elim (cases_Bool (is_within s)) [
  | inl t ↦ absurd (b.1 (each_met s (within_is s t) f))
  | inr n ↦ rw n refl
]
