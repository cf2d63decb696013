use Rattle.std.proofs.Common.{◌≡◌, replicate}
use Rattle.core_state.specs.CoreOpens.{unused_node}
use Rattle.core_state.proofs.open_room.open_nodes.Given as goal

abbrev pub invariant-loop-frame : goal.invariant-loop-frame
invariant-loop-frame l = l.all.items ≡ replicate l._frame unused_node
