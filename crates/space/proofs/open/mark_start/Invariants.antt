use Rattle.std.proofs.Common.{◌≡◌, ◌≤◌, length}
use Rattle.space.proofs.Opens.{marks_from}
use Rattle.space.proofs.open.mark_start.Given as goal

abbrev pub invariant-loop-left : goal.invariant-loop-left
invariant-loop-left l = record {
  left : l.left ≤ length l.start;
  marks : l.marks ≡ marks_from l.g l.start l.left;
}

abbrev pub decreases-loop-left : goal.decreases-loop-left
decreases-loop-left l = l.left
