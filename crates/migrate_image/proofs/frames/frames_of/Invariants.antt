use Rattle.std.proofs.Common.{◌≡◌, [], drop}
use Rattle.std.specs.List.{flat_map}
use Rattle.migrate_image.specs.Images.{block_frames, frames_due}
use Rattle.migrate_image.specs.Reading.{frames_at}
use Rattle.migrate_image.proofs.frames.frames_of.Given as goal

abbrev pub invariant-loop-b : goal.invariant-loop-b
invariant-loop-b l = frames_at l.fn.geometry.cells l.frames.items (flat_map (block_frames l.fn.geometry) (drop l.b-index l.plugged)) l.rest ≡ frames_at l.fn.geometry.cells [] (frames_due l.fn.geometry l.plugged) l.bytes
