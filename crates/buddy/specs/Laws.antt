-- The words of the laws of free runs.
use Rattle.std.specs.Prelude.{◌≡◌, ℕ, ◌+◌, ◌*◌, ◌^◌, ◌<◌, ◌≤◌, ◌⊎◌, true, List, Option}
use Rattle.evac_model.specs.declared.names.Kind.{Kind}
use Rattle.evac_model.specs.Geometry.{Sizes}
use Rattle.evac_model.specs.FreeRuns.{fits, is_free_run}
use Rattle.buddy.specs.Choice.{part_free, lowest_choice}

-- Blocks have 2^top frames. Those of the boot blocks have room in one part, and those of the managed blocks
-- in another.
pub record HasParts (s : Sizes) (top boot_order managed_order : ℕ) : Type 0 where
  pub block : s.block ≡ 2 ^ top
  pub boot_top : top ≤ boot_order
  pub boot : s.boot * s.block ≤ 2 ^ boot_order
  pub managed_top : top ≤ managed_order
  pub managed : s.managed * s.block ≤ 2 ^ managed_order

-- the lowest free run of an order that these parts have
abbrev pub lowest_in_parts : Sizes → (online kind : Kind) → List ℕ → (top boot_order managed_order : ℕ) → (wanted : ℕ) → Option ℕ
lowest_in_parts s online kind free top boot_order managed_order =
    lowest_choice s online kind top boot_order managed_order (part_free free 0 (s.boot * s.block) boot_order)
    (part_free free (s.boot * s.block) (s.managed * s.block) managed_order)

-- a free run of that order in a block that takes the kind
abbrev pub IsRunFor : Sizes → (online kind : Kind) → List ℕ → (order first : ℕ) → Type 0
IsRunFor s online kind free order first = (is_free_run s free order first ≡ true) × (fits s online kind first ≡ true)

-- the best run for a kind begins there: it has at least that order, no other such run is smaller, and none
-- of its own order is lower
pub record IsBest (s : Sizes) (online kind : Kind) (free : List ℕ) (order first : ℕ) : Type 0 where
  pub size : ℕ
  pub at_least : order ≤ size
  pub run : IsRunFor s online kind free size first
  pub best : (j m : ℕ) → order ≤ j → IsRunFor s online kind free j m → (size < j) ⊎ ((size ≡ j) × (first ≤ m))

-- a frame is one of a run's
abbrev pub IsInRun : (order first frame : ℕ) → Type 0
IsInRun order first frame = (first ≤ frame) × (frame < first + 2 ^ order)

-- a run lies in another
abbrev pub IsInside : (order first other_order other_first : ℕ) → Type 0
IsInside order first other_order other_first =
    (other_first ≤ first) × (first + 2 ^ order ≤ other_first + 2 ^ other_order)

-- a frame is one of a free run's, and a run has at most 2^9 frames
pub record IsInFreeRun (s : Sizes) (free : List ℕ) (frame : ℕ) : Type 0 where
  pub order : ℕ
  pub first : ℕ
  pub order_most : order ≤ 9
  pub run : is_free_run s free order first ≡ true
  pub holds : IsInRun order first frame
