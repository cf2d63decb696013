use Rattle.std.proofs.Common.{◌≡◌, replicate, None}
use Rattle.core_state.proofs.open_room.no_spare.Given as goal

abbrev pub invariant-loop-frame : goal.invariant-loop-frame
invariant-loop-frame l = l.all.items ≡ replicate l._frame None
