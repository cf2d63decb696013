use Rattle.std.proofs.Common.{◌≡◌}
use Rattle.buddy.specs.FreeFrames.{with_frames}
use Rattle.space.specs.Opening.{runs_at_open}
use Rattle.space.proofs.Opens.{given_to}
use Rattle.space.proofs.open.give_frames.Given as goal

abbrev pub invariant-loop-frame : goal.invariant-loop-frame
invariant-loop-frame l = l.runs ≡ with_frames (given_to l.start l.frame) (runs_at_open l.g l.fn.runs.online)
