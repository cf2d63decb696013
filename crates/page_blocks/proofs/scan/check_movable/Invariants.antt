use Rattle.std.proofs.Common.{◌≡◌, ◌+◌, ◌-◌}
use Rattle.std.specs.List.{filter}
use Rattle.page_blocks.specs.Marks.{frames_out, is_unmovable}
use Rattle.page_blocks.proofs.scan.check_movable.Given as goal

abbrev pub invariant-loop-frame : goal.invariant-loop-frame
invariant-loop-frame l =
    filter is_unmovable (frames_out l.out l.fn.first.0 l.fn.n) ≡ filter is_unmovable (frames_out l.out l.frame (l.fn.first.0 + l.fn.n - l.frame))
