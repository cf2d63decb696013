use Rattle.std.proofs.Common.{◌≡◌, ◌<◌, ◌≤◌, ℕ, Option, Some, None, List, length, replicate, set, sym, ap, ◌∙◌, ◌-◌, arith}
use Rattle.std.proofs.lemmas.List.{take-set-le, drop-set-lt, length-set}
use Rattle.core_state.proofs.KnownRanges.{none_in_fewer, none_from_later}
use Rattle.core_state.proofs.known_cells.KnownCells.know.Goals as goal

pub invariant_of-self : goal.invariant_of-self
invariant_of-self c =
    let xs : List (Option ℕ) = c.self.inside.items.items in
    let a : ℕ = c.lower-self-inside.result in
    let b : ℕ = c.higher-self-inside.result in
    let lt : c.args.cell < length xs = omega arith in
    let size : length (set xs c.args.cell (Some c.args.value)) ≡ length xs = length-set xs c.args.cell (Some c.args.value) in
    let first = c.lower-self-inside.ensures.first in
    let second = c.lower-self-inside.ensures.second in
    let later = c.higher-self-inside.ensures.first in
    let behind = c.higher-self-inside.ensures.second in
    let most : b ≤ length xs = c.higher-self-inside.ensures.most (length xs) c.self.invariant.high (omega arith) in
    record {
      low = omega arith;
      high = omega arith;
      before = take-set-le a xs c.args.cell (Some c.args.value) second ∙ none_in_fewer xs a c.self.inside.from first c.self.invariant.before;
      behind = drop-set-lt b xs c.args.cell (Some c.args.value) (omega arith)
          ∙ none_from_later xs c.self.inside.to b later most c.self.invariant.behind
          ∙ ap (λ (n : ℕ). replicate (n - b) None) (sym size);
    }
