use Rattle.std.proofs.Common.{◌≡◌, replicate}
use Rattle.core_state.specs.Copies.{nothing_copied}
use Rattle.core_state.proofs.open_views.no_copies.Given as goal

abbrev pub invariant-loop-frame : goal.invariant-loop-frame
invariant-loop-frame l = l.image.items ≡ replicate l._frame (nothing_copied l.g.cells)
