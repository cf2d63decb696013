-- What the trees and the flags of the runs are seen as, and what holds of them.
use Rattle.std.specs.Prelude.{◌≡◌, ℕ, ◌*◌, ◌/◌, ◌-◌, ◌^◌, ◌≤◌, Bool, true, false, ◌&&◌, nat_le, nat_lt, if◌then◌else◌, List, length, slice_index_or}
use Rattle.evac_model.specs.declared.names.Kind.{Kind}
use Rattle.evac_model.specs.Geometry.{Sizes, IsWithinLimits, frame_count}
use Rattle.evac_model.specs.Numbers.{numbers_where}
use Rattle.buddy.specs.FreeFrames.{FreeFrames}
use Rattle.buddy.specs.Parts.{Part}

-- the flag at a place; past the end nothing is so
abbrev pub flag : List Bool → ℕ → Bool
flag flags place = slice_index_or flags place false

-- whether a frame is free, by the flags of the boot blocks' frames and of the managed blocks'
abbrev pub is_free : Sizes → (boot managed : List Bool) → (frame : ℕ) → Bool
is_free s boot managed frame =
    if nat_lt frame (s.boot * s.block) then flag boot frame else flag managed (frame - s.boot * s.block)

-- whether a frame is of a withdrawn block
abbrev pub is_put_aside : Sizes → List Bool → (frame : ℕ) → Bool
is_put_aside s withdrawn frame =
    nat_le (s.boot * s.block) frame && flag withdrawn ((frame - s.boot * s.block) / s.block)

abbrev pub frames_of : Sizes → Kind → (boot managed : Part) → (aside withdrawn : List Bool) → FreeFrames
frames_of s online boot managed aside withdrawn = record {
  sizes = s;
  online = online;
  free = numbers_where (is_free s boot.free managed.free) (frame_count s);
  aside = numbers_where (flag aside) (frame_count s);
  withdrawn = numbers_where (flag withdrawn) s.managed;
}

-- a part that has n frames, and room for more which are never free
pub record HasRoomFor (s : Sizes) (n : ℕ) (p : Part) : Type 0 where
  pub block : s.block ≡ 2 ^ p.top
  pub small : p.order ≤ 16
  pub places : length p.free ≡ 2 ^ p.order
  pub room : n ≤ 2 ^ p.order
  pub never : (k : ℕ) → n ≤ k → flag p.free k ≡ false

-- no frame of a withdrawn block is free, and frames kept aside are of withdrawn blocks
pub record IsKept (s : Sizes) (boot managed : Part) (aside withdrawn : List Bool) : Type 0 where
  pub within : IsWithinLimits s
  pub boot_part : HasRoomFor s (s.boot * s.block) boot
  pub managed_part : HasRoomFor s (s.managed * s.block) managed
  pub aside_length : length aside ≡ frame_count s
  pub withdrawn_length : length withdrawn ≡ s.managed
  pub none_free : (frame : ℕ) → is_free s boot.free managed.free frame ≡ true → is_put_aside s withdrawn frame ≡ false
  pub all_withdrawn : (frame : ℕ) → flag aside frame ≡ true → is_put_aside s withdrawn frame ≡ true
