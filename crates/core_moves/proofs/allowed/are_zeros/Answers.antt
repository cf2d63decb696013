use Rattle.std.proofs.Common.{rules, ◌≡◌, length, refl, arith}
use Rattle.core_moves.proofs.ZeroCells.{all_zeros}
use Rattle.core_moves.proofs.allowed.are_zeros.Goals as goal

pub returns : goal.returns
returns c =
    let long : length c.args.stores.now ≡ c.args.cells = search rules in
    (λ t. all_zeros c.args.stores.now c.args.cells long (λ cell lt. c.loop-cell.invariant cell (omega (arith, c.loop-cell-test.false, c.loop-cell.auto))), λ is. refl)
