use Rattle.std.proofs.Common.{◌≡◌, ◌≤◌, length, drop}
use Rattle.core_state.specs.CoreOpens.{free_hand}
use Rattle.core_state.proofs.open_hands.take_out.Given as goal

abbrev pub invariant-loop-left : goal.invariant-loop-left
invariant-loop-left l = record {
  within : l.left ≤ length l.start;
  hand : l.hand ≡ free_hand l.g (drop l.left l.start);
}

abbrev pub decreases-loop-left : goal.decreases-loop-left
decreases-loop-left l = l.left
