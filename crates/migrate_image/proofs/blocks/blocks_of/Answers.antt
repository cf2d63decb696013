use Rattle.std.proofs.Common.{[], inl, inr}
use Rattle.std.proofs.lemmas.Result.{err_from_is_err_and}
use Rattle.migrate_image.specs.Reading.{blocks_at}
use Rattle.migrate_image.proofs.Loops.{blocks_on, blocks_bad, blocks_fail, blocks_end}
use Rattle.migrate_image.proofs.blocks.blocks_of.Goals.{then-b-least-via-then-b-least, then-b-least-via-else-b-least+then-bound-b}
use Rattle.migrate_image.proofs.blocks.blocks_of.Goals as goal

pub returns-in_err-b : goal.returns-in_err-b
returns-in_err-b c =
    let p = err_from_is_err_and c.from_residual.result c.from_residual.ensures.1 in
    rw (p.1, p.2) (blocks_fail c.in_err-b.field-0.0 c.args.bound c.loop.plugged.items c.loop.least c.args.count c.loop.counter c.loop.rest.now (blocks_at c.args.bound [] 0 c.args.count c.args.bytes.now) c.loop-test.true c.in_err-b.ensures c.loop.invariant)

pub returns : goal.returns
returns c = blocks_end c.args.bound c.loop.plugged.items c.loop.least c.args.count c.loop.counter c.loop.rest.now (blocks_at c.args.bound [] 0 c.args.count c.args.bytes.now) c.loop-test.false c.loop.invariant

pub returns-then-b-least : goal.returns-then-b-least
returns-then-b-least c =
    blocks_bad c.args.bound c.loop.plugged.items c.loop.least c.args.count c.loop.counter c.loop.rest.now c.in_ok-b.b c.in_ok-b.after.now (blocks_at c.args.bound [] 0 c.args.count c.args.bytes.now) c.loop-test.true c.in_ok-b.ensures
    (elim c.then-b-least.branch [ then-b-least-via-then-b-least w ↦ inl w.if-b-least.true | then-b-least-via-else-b-least+then-bound-b w ↦ inr w.if-bound-b.true ]) c.loop.invariant

pub loop-preserved : goal.loop-preserved
loop-preserved c =
    rw c.in_ok-push.ensures.items (blocks_on c.args.bound c.loop.plugged.items c.loop.least c.args.count c.loop.counter c.loop.rest.now c.in_ok-b.b c.in_ok-b.after.now (blocks_at c.args.bound [] 0 c.args.count c.args.bytes.now) c.loop-test.true c.in_ok-b.ensures
    c.if-b-least.false c.if-bound-b.false c.loop.invariant)
