use Rattle.std.proofs.Common.{◌≡◌, ◌≤◌, ◌-◌, ◌+◌, min, vec_len}
use Rattle.evac_io.specs.Told.{Gives}
use Rattle.evac_io.proofs.read_whole.read_all.Given as goal

abbrev pub invariant-loop-bytes : goal.invariant-loop-bytes
invariant-loop-bytes g l = record {
  room : vec_len l.piece ≡ min l.limit 65535 + 1;
  within : vec_len l.bytes ≤ l.limit;
  gives : Gives (g.S.Source.left l.initial.s) (g.S.Source.left l.s) l.bytes.items;
  sure : g.S.Source.faults l.s ≡ g.S.Source.faults l.initial.s;
}

abbrev pub decreases-loop-bytes : goal.decreases-loop-bytes
decreases-loop-bytes g l = l.limit - vec_len l.bytes
