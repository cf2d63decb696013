-- Caches from which frames are drained stay caches.
use Rattle.std.proofs.Common.{◌≡◌, ℕ, ◌≤◌, Bool, List, [], map, length, get_or, sym, ap, ◌∙◌, subst, inl, inr, arith}
use Rattle.std.specs.List.{filter}
use Rattle.std.proofs.lemmas.Bool.{cases_lt}
use Rattle.std.proofs.lemmas.List.{length-map, get_or-map, get_or_past}
use Rattle.frame_cache.specs.Drains.{AreCaches}
use Rattle.evac_model.proofs.Filters.{length-filter-le}

pub caches-drained : (p : ℕ → Bool) (old new : List (List ℕ)) → AreCaches old → new ≡ map (filter p) old → AreCaches new
caches-drained p old new h is = subst AreCaches (sym is) (record {
  callers = length-map old (filter p) ∙ h.callers;
  few = λ who.
      let few : length (get_or old who []) ≤ 8 = h.few who in
      elim (cases_lt who (length old)) [
        | inl within ↦ omega (arith, few, length-filter-le p (get_or old who []), ap length (get_or-map (filter p) old who [] [] within))
        | inr past ↦ omega (arith, ap length (get_or_past (map (filter p) old) who [] (omega (arith, length-map old (filter p)))))
      ];
})
