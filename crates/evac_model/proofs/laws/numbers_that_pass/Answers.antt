use Rattle.std.proofs.Common.{ℕ, ◌+◌, ◌<◌, Bool, ◌&&◌, sym, ap, ◌∙◌, arith, inl, inr}
use Rattle.std.specs.List.{range_with_len}
use Rattle.std.specs.List.Sorted.{IsStrictlyIncreasing}
use Rattle.std.proofs.lemmas.Bool.{cases_lt, lt-ltb, le-ltb}
use Rattle.std.proofs.lemmas.List.FromFn.{length-range_with_len, get_or-range_with_len}
use Rattle.std.proofs.lemmas.List.Kept.{IsStrictlyIncreasing-filter}
use Rattle.evac_model.proofs.Numbers.{is_in-numbers_where, is_in-numbers_where_past}
use Rattle.evac_model.proofs.laws.numbers_that_pass.Goals as goal

IsStrictlyIncreasing-range : (n : ℕ) → IsStrictlyIncreasing (range_with_len 0 n)
IsStrictlyIncreasing-range n k h =
    let l : k + 1 < n = omega (arith, h, length-range_with_len 0 n) in
    omega (arith, get_or-range_with_len 0 n k 0 (omega (arith, l)), get_or-range_with_len 0 n (k + 1) 0 l)

pub returns-clause-rising : goal.returns-clause-rising
returns-clause-rising c = λ test n. IsStrictlyIncreasing-filter test (range_with_len 0 n) (IsStrictlyIncreasing-range n)

pub returns-clause-those : goal.returns-clause-those
returns-clause-those c = λ test n b.
    elim (cases_lt b n) [
      | inl l ↦ is_in-numbers_where test n b l ∙ sym (ap (λ (t : Bool). t && test b) (lt-ltb b n l))
      | inr g ↦ is_in-numbers_where_past test n b g ∙ sym (ap (λ (t : Bool). t && test b) (le-ltb b n g))
    ]
