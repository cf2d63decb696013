use Rattle.std.proofs.Common.{rules, ◌≡◌, ◌<◌, IsTrue, false}
use Rattle.core_moves.proofs.CopiedCells.{with_next, this_one}
use Rattle.core_moves.proofs.allowed.is_copied.Goals as goal

pub returns-then-not-are_known_same : goal.returns-then-not-are_known_same
returns-then-not-are_known_same c =
    let below : c.loop-cell.cell < c.args.o.now.cells = search rules in
    let not_same : c.are_known_same.result ≡ false = search rules in (
      λ e. search rules,
      λ copied. let same : IsTrue c.are_known_same.result = c.are_known_same.ensures.1 (this_one c.args.h.now c.args.x.now.stores c.loop-cell.cell c.args.o.now.cells c.known_cell.result c.at.result c.known_cell.ensures c.at.ensures below copied) in search rules,
    )

pub loop-cell-preserved : goal.loop-cell-preserved
loop-cell-preserved c =
    let same : IsTrue c.are_known_same.result = search rules in
    with_next c.args.h.now c.args.x.now.stores c.loop-cell.cell c.known_cell.result c.at.result c.known_cell.ensures c.at.ensures (c.are_known_same.ensures.0 same) c.loop-cell.invariant
