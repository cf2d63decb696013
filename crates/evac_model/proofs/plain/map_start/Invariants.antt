use Rattle.std.proofs.Common.{◌≤◌, length}
use Rattle.evac_model.proofs.Slots.{IsMappedFrom}
use Rattle.evac_model.proofs.plain.map_start.Given as goal

abbrev pub invariant-loop-left : goal.invariant-loop-left
invariant-loop-left l = record {
  left : l.left ≤ length l.start;
  mapped : IsMappedFrom l.geometry l.slots l.start l.left;
}

abbrev pub decreases-loop-left : goal.decreases-loop-left
decreases-loop-left l = l.left
