use Rattle.std.proofs.Common.{◌≡◌}
use Rattle.space.proofs.Opens.{marks_to, runs_to}
use Rattle.space.proofs.open.isolate_unplugged.Given as goal

abbrev pub invariant-loop-b : goal.invariant-loop-b
invariant-loop-b l = record {
  runs : l.runs ≡ runs_to l.g l.fn.runs.online l.b;
  marks : l.marks ≡ marks_to l.g l.b;
}
