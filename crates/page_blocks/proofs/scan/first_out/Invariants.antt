use Rattle.std.proofs.Common.{◌≡◌, ◌+◌, ◌-◌}
use Rattle.page_blocks.specs.Marks.{frames_out}
use Rattle.page_blocks.proofs.scan.first_out.Given as goal

abbrev pub invariant-loop-frame : goal.invariant-loop-frame
invariant-loop-frame l = frames_out l.out l.fn.first.0 l.fn.n ≡ frames_out l.out l.frame (l.fn.first.0 + l.fn.n - l.frame)
