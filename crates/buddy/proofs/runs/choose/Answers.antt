use Rattle.std.proofs.Common.{◌+◌, ◌-◌, ◌∙◌, sym, arith}
use Rattle.buddy.specs.Choice.{choice_of_order}
use Rattle.buddy.proofs.Choosing.{choice_more, choice_here, choice_past}
use Rattle.buddy.proofs.runs.choose.Goals as goal

pub returns-in-Some : goal.returns-in-Some
returns-in-Some c =
    sym (c.loop-wanted.invariant ∙ choice_here (choice_of_order c.args.boot_frames c.args.boot.now c.args.managed.now c.args.takes) c.args.order c.loop-wanted.wanted c.in-Some.first c.loop-wanted.auto.wanted c.loop-wanted-test.true c.in-Some.ensures)

pub loop-wanted-preserved : goal.loop-wanted-preserved
loop-wanted-preserved c =
    c.loop-wanted.invariant ∙ choice_more (choice_of_order c.args.boot_frames c.args.boot.now c.args.managed.now c.args.takes) c.args.order c.loop-wanted.wanted c.loop-wanted.auto.wanted c.loop-wanted-test.true c.in_default.ensures

pub returns : goal.returns
returns c =
    sym (c.loop-wanted.invariant ∙ choice_past c.args.boot_frames c.args.boot.now c.args.managed.now c.args.takes c.loop-wanted.wanted (10 + c.args.order - c.loop-wanted.wanted) (omega (arith, c.requires.boot, c.loop-wanted-test.false)) (omega (arith, c.requires.managed, c.loop-wanted-test.false)))
