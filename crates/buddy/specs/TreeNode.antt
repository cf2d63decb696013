-- What a node of the tree is seen as, and what holds of it.
use Rattle.std.specs.Prelude.{◌≡◌, ℕ, ◌+◌, ◌^◌, ◌≤◌, Bool, List, [], ◌++◌, length}
use Rattle.buddy.specs.declared.tree.Halves.{Halves}
use Rattle.buddy.specs.declared.tree.Halves.TheVariants.{Frame, Two}
use Rattle.buddy.specs.Parts.{Part}
use Rattle.buddy.specs.TreeInside.{orders_of, alike, flags}

-- the flags of both halves
abbrev pub halves_free : Halves → List Bool
halves_free Frame = []
halves_free (Two low high) = low.value.free ++ high.value.free

-- a node's flags: what its halves say counts only where its frames aren't alike
abbrev pub part_of : (top order orders : ℕ) → Halves → Part
part_of top order orders halves = record {
  top = top;
  order = order;
  free = flags (alike top order orders) order (halves_free halves);
}

-- a half of a part of 2^order frames
pub record IsHalf (top order : ℕ) (half : Part) : Type 0 where
  pub same_top : half.top ≡ top
  pub order_below : half.order + 1 ≡ order
  pub places : length half.free ≡ 2 ^ half.order

-- a part has two halves, and a part of one frame none
abbrev pub AreHalves : (top order : ℕ) → Halves → Type 0
AreHalves top order Frame = order ≡ 0
AreHalves top order (Two low high) = IsHalf top order low.value × IsHalf top order high.value

-- a node: at most 2^16 frames, its halves, and the bits of its free runs
pub record IsNode (top order orders : ℕ) (halves : Halves) : Type 0 where
  pub small : order ≤ 16
  pub in_halves : AreHalves top order halves
  pub bits : orders ≡ orders_of top order (part_of top order orders halves).free
