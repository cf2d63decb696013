-- A space as it is kept beside its journal.
use Rattle.std.specs.Prelude.{◌≡◌, ℕ, Bool, List, length}
use Rattle.evac_model.specs.declared.names.Kind.{Kind}
use Rattle.evac_model.specs.declared.space.SpaceAction.{SpaceAction}
use Rattle.evac_model.specs.Geometry.{Sizes, IsWithinLimits}
use Rattle.evac_model.specs.SpaceJournal.{SpaceState, after_action}
use Rattle.buddy.specs.FreeFrames.{FreeFrames}
use Rattle.page_blocks.specs.Marks.{Marks, blocks_marked}
use Rattle.space.specs.SpaceInside.{IsSpace, runs_of}

-- the machine, the kind of pages that managed blocks are online for, and the space
pub record KeptSpace : Type 0 where
  pub sizes : Sizes
  pub online : Kind
  pub state : SpaceState

-- behind an action
abbrev pub behind : SpaceAction → KeptSpace → KeptSpace
behind a k = record k { state = after_action k.sizes k.online k.state a }

-- the space that the runs, the marks, the caches and the bits of offline blocks make
abbrev pub space_of : FreeFrames → Marks → (caches : List (List ℕ)) → (offline : List Bool) → KeptSpace
space_of runs marks caches offline = record {
  sizes = runs.sizes;
  online = runs.online;
  state = record {
    out = marks.out;
    isolated = marks.isolated;
    offline = blocks_marked offline runs.sizes.managed;
    caches = caches;
  };
}

-- the marks of a space
abbrev pub marks_of : KeptSpace → Marks
marks_of k = record { sizes = k.sizes; isolated = k.state.isolated; out = k.state.out }

-- runs, marks, caches and bits have what a space says
pub record AreOf (k : KeptSpace) (r : FreeFrames) (m : Marks) (held : List (List ℕ)) (bits : List Bool) : Type 0 where
  pub within : IsWithinLimits k.sizes
  pub space : IsSpace k.sizes k.online k.state
  pub runs : r ≡ runs_of k.sizes k.online k.state
  pub marks : m ≡ marks_of k
  pub caches : held ≡ k.state.caches
  pub offline : blocks_marked bits k.sizes.managed ≡ k.state.offline
  pub count : length bits ≡ k.sizes.managed
