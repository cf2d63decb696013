use Rattle.std.proofs.Common.{[]}
use Rattle.std.proofs.lemmas.Result.{err_from_is_err_and}
use Rattle.migrate_image.specs.Reading.{cells_at}
use Rattle.migrate_image.proofs.Loops.{cells_on, cells_fail, cells_end}
use Rattle.migrate_image.proofs.cells.cells_of.Goals as goal

pub returns-in_err-cell : goal.returns-in_err-cell
returns-in_err-cell c =
    let p = err_from_is_err_and c.from_residual-in_err-cell.result c.from_residual-in_err-cell.ensures.1 in
    rw (p.1, p.2) (cells_fail c.in_err-cell.field-0.0 c.loop.cells.items c.args.count c.loop.counter c.loop.rest.now (cells_at [] c.args.count c.args.bytes.now) c.loop-test.true c.in_err-cell.ensures c.loop.invariant)

pub loop-preserved : goal.loop-preserved
loop-preserved c = rw c.in_ok-push.ensures.items (cells_on c.loop.cells.items c.args.count c.loop.counter c.loop.rest.now c.in_ok-cell.cell c.in_ok-cell.after.now (cells_at [] c.args.count c.args.bytes.now) c.loop-test.true c.in_ok-cell.ensures c.loop.invariant)

pub returns : goal.returns
returns c = cells_end c.loop.cells.items c.args.count c.loop.counter c.loop.rest.now (cells_at [] c.args.count c.args.bytes.now) c.loop-test.false c.loop.invariant
