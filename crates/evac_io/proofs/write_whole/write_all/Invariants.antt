use Rattle.std.proofs.Common.{◌≡◌, ◌≤◌, ◌-◌, take, length}
use Rattle.evac_io.specs.Told.{Takes}
use Rattle.evac_io.proofs.write_whole.write_all.Given as goal

abbrev pub invariant-loop-at : goal.invariant-loop-at
invariant-loop-at g l = record {
  within : l.at ≤ length l.text;
  takes : Takes (g.K.Sink.taken l.initial.k) (g.K.Sink.taken l.k) (take l.at l.text);
  sure : g.K.Sink.faults l.k ≡ g.K.Sink.faults l.initial.k;
}

abbrev pub decreases-loop-at : goal.decreases-loop-at
decreases-loop-at g l = length l.text - l.at
