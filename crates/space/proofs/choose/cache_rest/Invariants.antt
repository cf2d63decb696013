use Rattle.std.proofs.Common.{◌≡◌, ◌+◌, ◌-◌, ◌≤◌, slice_set}
use Rattle.std.specs.List.{range_with_len}
use Rattle.space.proofs.choose.cache_rest.Given as goal

abbrev pub invariant-loop-k : goal.invariant-loop-k
invariant-loop-k l = record {
  some : 1 ≤ l.k;
  cached : l.caches ≡ slice_set l.fn.caches l.who (range_with_len (l.first.0 + l.k) (l.frames - l.k));
}
