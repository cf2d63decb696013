use Rattle.std.proofs.Common.{◌≡◌, ◌+◌, length}
use Rattle.replay.specs.Entries.{placed}
use Rattle.replay.proofs.history.place_entries.Given as goal

abbrev pub invariant-loop-entry : goal.invariant-loop-entry
invariant-loop-entry l = record {
  rest : placed l.places l.left ≡ placed l.fn.places l.view.entries;
  few : length l.left + l._entry ≡ length l.view.entries;
}
