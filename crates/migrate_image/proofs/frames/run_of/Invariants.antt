use Rattle.std.proofs.Common.{◌≡◌, ◌+◌, ◌-◌}
use Rattle.std.specs.List.{range_with_len}
use Rattle.migrate_image.specs.Reading.{frames_at}
use Rattle.migrate_image.proofs.frames.run_of.Given as goal

abbrev pub invariant-loop-k : goal.invariant-loop-k
invariant-loop-k l = frames_at l.cells l.frames.items (range_with_len (l.first + l.k) (l.count - l.k)) l.rest ≡ frames_at l.cells l.fn.read.items (range_with_len l.first l.count) l.bytes
