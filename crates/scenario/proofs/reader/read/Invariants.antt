use Rattle.std.proofs.Common.{length}
use Rattle.scenario.proofs.Runs.{IsReadTo}
use Rattle.scenario.proofs.reader.read.Given as goal

abbrev pub invariant-loop-text : goal.invariant-loop-text
invariant-loop-text l = IsReadTo l.bytes l.rest l.draft l.number

abbrev pub decreases-loop-text : goal.decreases-loop-text
decreases-loop-text l = length l.rest
