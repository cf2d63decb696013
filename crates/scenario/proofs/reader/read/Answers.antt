use Rattle.std.proofs.Common.{sym}
use Rattle.scenario.proofs.Runs.{goes_on_ignored, goes_on_added}
use Rattle.scenario.proofs.reader.read.Goals as goal

pub loop-text-preserved-then-is_ignored : goal.loop-text-preserved-then-is_ignored
loop-text-preserved-then-is_ignored c = goes_on_ignored c.args.bytes.now c.loop-text.rest.now c.in-Some.text.now c.in-Some.after.now c.loop-text.draft c.loop-text.number c.loop-text.invariant c.in-Some.ensures (sym c.if-is_ignored.ensures)

pub loop-text-preserved : goal.loop-text-preserved
loop-text-preserved c = goes_on_added c.args.bytes.now c.loop-text.rest.now c.in-Some.text.now c.in-Some.after.now c.loop-text.draft c.loop-text.number c.loop-text.invariant c.in-Some.ensures c.in-Ok.more (sym c.if-is_ignored.ensures) c.in-Ok.ensures
