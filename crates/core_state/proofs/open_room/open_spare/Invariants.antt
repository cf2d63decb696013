use Rattle.std.proofs.Common.{◌≡◌, ◌≤◌, length, drop}
use Rattle.core_state.specs.CoreOpens.{spare_at_start}
use Rattle.core_state.proofs.open_room.open_spare.Given as goal

abbrev pub invariant-loop-left : goal.invariant-loop-left
invariant-loop-left l = record {
  within : l.left ≤ length l.start;
  spare : l.spare.items ≡ spare_at_start l.g (drop l.left l.start);
}

abbrev pub decreases-loop-left : goal.decreases-loop-left
decreases-loop-left l = l.left
