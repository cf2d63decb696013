-- Frames of a block, and tests on them.
use Rattle.std.proofs.Common.{◌≡◌, ℕ, ◌+◌, ◌<◌, ◌≤◌, true, Option, Some, arith}
use Rattle.std.proofs.lemmas.Bool.{and_parts}
use Rattle.std.proofs.lemmas.Bool.Decides.{nat_tests}
use Rattle.evac_model.specs.declared.names.BlockNo.{BlockNo}
use Rattle.evac_model.specs.declared.names.FrameNo.{FrameNo}
use Rattle.evac_model.specs.Geometry.{Sizes, first_frame}
use Rattle.evac_model.specs.SpaceJournal.{is_frame_of}
use Rattle.evacuate.specs.Tale.{is_behind, is_next}

-- where the frame lies in its block
pub record IsInside (s : Sizes) (b : BlockNo) (frame : ℕ) : Type 0 where
  pub from : first_frame s b.0 ≤ frame
  pub below : frame < first_frame s b.0 + s.block

pub inside_block : (s : Sizes) (b : BlockNo) (frame : ℕ) → is_frame_of s b.0 frame ≡ true → IsInside s b frame
inside_block s b frame h = record { from = grind (arith, nat_tests); below = grind (arith, nat_tests) }

pub next_in_block : (s : Sizes) (b : BlockNo) (after : Option FrameNo) (frame : ℕ) → is_next s b after frame ≡ true → is_frame_of s b.0 frame ≡ true
next_in_block s b after frame h = (and_parts (is_frame_of s b.0 frame) (is_behind after frame) h).0

pub next_behind : (s : Sizes) (b : BlockNo) (last : FrameNo) (frame : ℕ) → is_next s b (Some last) frame ≡ true → last.0 < frame
next_behind s b last frame h =
    let behind = (and_parts (is_frame_of s b.0 frame) (is_behind (Some last) frame) h).1 in grind (arith, nat_tests)
