use Rattle.std.proofs.Common.{◌≡◌, sym, ap, subst, ◌∙◌}
use Rattle.std.specs.List.Sorted.{IsNonDecreasing}
use Rattle.std.proofs.lemmas.List.Sorted.{IsNonDecreasingBy-from_sort}
use Rattle.evac_model.specs.Numbers.{rising}
use Rattle.evac_model.proofs.Rising.{rising_permuted}
use Rattle.evac_model.proofs.fault.CallCount.new.Goals as goal

pub invariant_of-result : goal.invariant_of-result
invariant_of-result c =
    subst IsNonDecreasing (sym c.from_vec.ensures) (IsNonDecreasingBy-from_sort (λ x. x) c.sort_unstable.new.self.items c.sort_unstable.ensures.sorted)

pub returns : goal.returns
returns c =
    let kept : rising c.from_vec.result ≡ rising c.args.fails =
    ap rising c.from_vec.ensures ∙ rising_permuted _ _ c.sort_unstable.ensures.permutation ∙ ap rising c.into_vec-numbers.ensures in
    λ i. record { fails = kept i; made = 0 }
