use Rattle.std.proofs.Common.{sym, ◌∙◌}
use Rattle.std.proofs.lemmas.Result.{err_from_is_err_and}
use Rattle.migrate_image.proofs.Loops.{boot_next, boot_stop, blocks_next, blocks_stop, blocks_done}
use Rattle.migrate_image.proofs.frames.frames_of.Goals as goal

pub returns-in_err-frames : goal.returns-in_err-frames
returns-in_err-frames c =
    let p = err_from_is_err_and c.from_residual.result c.from_residual.ensures.1 in
    rw (p.1, p.2) (boot_stop c.in_err-frames.field-0.0 c.args.geometry c.cells-cells.result c.boot-boot.result c.block-block.result c.new.result.items c.args.plugged.now c.args.bytes.now
    c.cells-cells.ensures.size c.boot-boot.ensures.size c.block-block.ensures.size c.new.ensures.items c.in_err-frames.ensures)

pub loop-b-init : goal.loop-b-init
loop-b-init c =
    boot_next c.args.geometry c.cells-cells.result c.boot-boot.result c.block-block.result c.new.result.items c.args.plugged.now c.args.bytes.now c.in_ok-frames.frames.items c.in_ok-frames.rest.now
    c.cells-cells.ensures.size c.boot-boot.ensures.size c.block-block.ensures.size c.new.ensures.items c.in_ok-frames.ensures

pub returns-in_err-more : goal.returns-in_err-more
returns-in_err-more c =
    let p = err_from_is_err_and c.from_residual-in_err-more.result c.from_residual-in_err-more.ensures.1 in
    let stopped = blocks_stop c.in_err-more.field-0.0 c.args.geometry c.cells-cells.result c.boot-boot.result c.block-block.result c.loop-b.frames.items c.args.plugged.now c.loop-b.b-index c.loop-b.rest.now _
    c.cells-cells.ensures.size c.boot-boot.ensures.size c.block-block.ensures.size c.loop-b-test.true c.in_err-more.ensures in
    rw (p.1, p.2, ← c.loop-b.invariant) stopped

pub loop-b-preserved : goal.loop-b-preserved
loop-b-preserved c =
    sym (blocks_next c.args.geometry c.cells-cells.result c.boot-boot.result c.block-block.result c.loop-b.frames.items c.args.plugged.now c.loop-b.b-index c.loop-b.rest.now _ c.in_ok-more.more.items c.in_ok-more.after.now
    c.cells-cells.ensures.size c.boot-boot.ensures.size c.block-block.ensures.size c.loop-b-test.true c.in_ok-more.ensures) ∙ c.loop-b.invariant

pub returns : goal.returns
returns c = sym c.loop-b.invariant ∙ blocks_done c.args.geometry c.loop-b.frames.items c.args.plugged.now c.loop-b.b-index c.loop-b.rest.now c.loop-b-test.false
