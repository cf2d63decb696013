use Rattle.std.proofs.Common.{◌≡◌, ◌++◌, drop}
use Rattle.std.specs.List.{flat_map}
use Rattle.migrate_image.specs.Images.{frame_bytes}
use Rattle.migrate_image.proofs.frames.put_frames.Given as goal

abbrev pub invariant-loop-frame : goal.invariant-loop-frame
invariant-loop-frame l = l.out.items ++ flat_map frame_bytes (drop l.frame-index l.frames) ≡ l.fn.out.items ++ flat_map frame_bytes l.frames
