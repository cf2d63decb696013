-- An evacuation before its first action goes by the tale in which nothing was tried.
use Rattle.std.proofs.Common.{◌≡◌, ◌≤◌, ℕ, zero, suc, List, length, replicate, refl, arith}
use Rattle.std.specs.List.{AllByRecursion}
use Rattle.std.proofs.lemmas.List.{length-replicate}
use Rattle.evac_model.specs.declared.names.BlockNo.{BlockNo}
use Rattle.evac_model.specs.Geometry.{Sizes}
use Rattle.evacuate.specs.Evacuating.{no_words, evacuation_at_start}
use Rattle.evacuate.specs.Tale.{nothing_tried}
use Rattle.evacuate.specs.UnderWay.{GoesBy}

abbrev five_zeros : List ℕ
five_zeros = replicate 5 0

rows_alike : (n : ℕ) → AllByRecursion (λ (row : List ℕ). length row ≡ 5) (replicate n five_zeros)
rows_alike zero = tt
rows_alike (suc n) = (refl, rows_alike n)

pub goes_by_at_start : (s : Sizes) (b : BlockNo) → s.block ≤ 512 → GoesBy (evacuation_at_start s b) nothing_tried
goes_by_at_start s b most = record {
  frames = let row : List ℕ = replicate 5 0 in let long : length no_words ≡ 512 = length-replicate 512 row in omega (arith, long, most);
  places = rows_alike 512;
  few = omega arith;
  counted = refl;
  rounds = tt;
  in_order = tt;
  busy_before = tt;
  stands = (refl, refl);
}
