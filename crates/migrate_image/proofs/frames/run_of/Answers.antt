use Rattle.std.proofs.lemmas.Result.{err_from_is_err_and}
use Rattle.std.specs.List.{range_with_len}
use Rattle.migrate_image.specs.Reading.{frames_at}
use Rattle.migrate_image.proofs.Loops.{frames_on, frames_fail, frames_end}
use Rattle.migrate_image.proofs.frames.run_of.Goals as goal

pub returns-in_err-frame : goal.returns-in_err-frame
returns-in_err-frame c =
    let p = err_from_is_err_and c.from_residual.result c.from_residual.ensures.1 in
    rw (p.1, p.2) (frames_fail c.in_err-frame.field-0.0 c.args.cells c.loop-k.frames.items _ c.args.first c.args.count c.loop-k.k c.loop-k.rest.now (frames_at c.args.cells c.args.read.items (range_with_len c.args.first c.args.count) c.args.bytes.now) c.loop-k-test.true c.deref.ensures.value c.in_err-frame.ensures c.loop-k.invariant)

pub loop-k-preserved : goal.loop-k-preserved
loop-k-preserved c =
    rw c.in_ok-push.ensures.items (frames_on c.args.cells c.loop-k.frames.items _ c.args.first c.args.count c.loop-k.k c.loop-k.rest.now c.in_ok-frame.frame c.in_ok-frame.after.now (frames_at c.args.cells c.args.read.items (range_with_len c.args.first c.args.count) c.args.bytes.now) c.loop-k-test.true c.deref.ensures.value c.in_ok-frame.ensures c.loop-k.invariant)

pub returns : goal.returns
returns c = frames_end c.args.cells c.loop-k.frames.items c.args.first c.args.count c.loop-k.k c.loop-k.rest.now (frames_at c.args.cells c.args.read.items (range_with_len c.args.first c.args.count) c.args.bytes.now) c.loop-k-test.false c.loop-k.invariant
