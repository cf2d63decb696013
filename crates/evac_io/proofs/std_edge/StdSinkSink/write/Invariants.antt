use Rattle.std.proofs.Common.{◌≡◌}
use Rattle.std.specs.Io.KnownBytes.{Keeps}
use Rattle.evac_io.proofs.std_edge.StdSinkSink.write.Given as goal

-- A call that was interrupted is no fault, and takes nothing.
abbrev pub invariant-loop : goal.invariant-loop
invariant-loop g l = record {
  faults : l.self.faults ≡ l.initial.self.faults;
  keeps : Keeps (g.W.Write.contents l.initial.self.inner) (g.W.Write.contents l.self.inner);
}
