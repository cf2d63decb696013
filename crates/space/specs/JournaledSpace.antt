-- A frame space as its journal: all that it answers follows from the actions so far.
use Rattle.std.specs.Prelude.{◌≡◌, ℕ, true, List, [], ◌∷◌, ◌++◌}
use Rattle.std.specs.List.{AllByRecursion}
use Rattle.evac_model.specs.declared.names.Kind.{Kind}
use Rattle.evac_model.specs.declared.scenario.StartPage.{StartPage}
use Rattle.evac_model.specs.declared.space.SpaceAction.{SpaceAction}
use Rattle.evac_model.specs.Geometry.{Sizes, IsThereAtStart}
use Rattle.evac_model.specs.FreeRuns.{fits}
use Rattle.evac_model.specs.SpaceJournal.{SpaceState, IsLeasable, space_after}

-- the machine, the kind of pages that managed blocks are online for, the space at its opening, and the
-- actions since
pub record JournaledSpace : Type 0 where
  pub sizes : Sizes
  pub online : Kind
  pub opening : SpaceState
  pub journal : List SpaceAction

-- the space now
abbrev pub space_state : JournaledSpace → SpaceState
space_state v = space_after v.sizes v.online v.opening v.journal

-- the space behind one more action
abbrev pub with_action : SpaceAction → JournaledSpace → JournaledSpace
with_action a v = record v { journal = v.journal ++ a ∷ [] }

-- a frame that a lease for a page of the kind may give now
abbrev pub IsLeasableFor : JournaledSpace → (kind : Kind) → (frame : ℕ) → Type 0
IsLeasableFor v kind frame = IsLeasable v.sizes v.online (space_state v) kind frame

-- frames that a space may open with: they are there at the start, and take their pages
pub record AreStartFrames (s : Sizes) (online : Kind) (start : List StartPage) : Type 0 where
  pub there : AllByRecursion (λ p. IsThereAtStart s p.frame.0) start
  pub fitting : AllByRecursion (λ p. fits s online p.kind p.frame.0 ≡ true) start
