use Rattle.std.proofs.Common.{◌≡◌, ◌≤◌, take}
use Rattle.std.specs.List.{count_by}
use Rattle.std.specs.Option.{is_some}
use Rattle.space.proofs.open.frames_out.Given as goal

abbrev pub invariant-loop-frame : goal.invariant-loop-frame
invariant-loop-frame l = record {
  counted : l.count ≡ count_by is_some (take l.frame l.marks.out);
  few : l.count ≤ l.frame;
}
