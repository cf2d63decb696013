use Rattle.std.proofs.Common.{◌≡◌, replicate, Some}
use Rattle.core_state.specs.CoreOpens.{unused_cells}
use Rattle.core_state.proofs.open_room.open_cells.Given as goal

abbrev pub invariant-loop-seat : goal.invariant-loop-seat
invariant-loop-seat l = l.all.items ≡ replicate l._seat (Some (unused_cells l.cells))
