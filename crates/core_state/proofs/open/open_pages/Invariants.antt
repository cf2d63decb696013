use Rattle.std.proofs.Common.{◌≡◌, ◌≤◌, length, drop}
use Rattle.core_state.specs.CoreOpens.{start_pages}
use Rattle.core_state.proofs.open.open_pages.Given as goal

abbrev pub invariant-loop-left : goal.invariant-loop-left
invariant-loop-left l = record {
  within : l.left ≤ length l.start;
  pages : l.pages.items ≡ start_pages l.g (drop l.left l.start);
}

abbrev pub decreases-loop-left : goal.decreases-loop-left
decreases-loop-left l = l.left
