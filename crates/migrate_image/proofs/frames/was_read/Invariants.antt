use Rattle.std.proofs.Common.{◌≡◌, drop}
use Rattle.evac_model.specs.Numbers.{is_in}
use Rattle.migrate_image.specs.Images.{frame_numbers}
use Rattle.migrate_image.proofs.frames.was_read.Given as goal

abbrev pub invariant-loop-f : goal.invariant-loop-f
invariant-loop-f l = is_in l.n (frame_numbers (drop l.f-index l.frames)) ≡ is_in l.n (frame_numbers l.frames)
