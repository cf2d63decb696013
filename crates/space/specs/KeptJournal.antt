-- A space that is kept, with the journal from which it follows.
use Rattle.std.specs.Prelude.{◌≡◌, ℕ, ◌+◌, ◌≤◌, List}
use Rattle.evac_model.specs.declared.scenario.StartPage.{StartPage}
use Rattle.evac_model.specs.declared.space.SpaceAction.{SpaceAction}
use Rattle.evac_model.specs.Geometry.{IsWithinLimits}
use Rattle.evac_model.specs.SpaceJournal.{space_at_start, IsPossibleJournal}
use Rattle.space.specs.JournaledSpace.{JournaledSpace, space_state}
use Rattle.space.specs.KeptSpace.{KeptSpace}
use Rattle.space.specs.SpaceInside.{IsSpace, IsOwed}

-- a space that was opened with those pages, and what was done since
abbrev pub journaled : KeptSpace → List StartPage → List SpaceAction → JournaledSpace
journaled k start journal =
    record { sizes = k.sizes; online = k.online; opening = space_at_start k.sizes start; journal = journal }

-- the space that a journal leaves
abbrev pub left_by : JournaledSpace → KeptSpace
left_by v = record { sizes = v.sizes; online = v.online; state = space_state v }

-- What is kept is a space, and what the journal leaves, and there is room for the actions that may follow without
-- another lease or isolation.
pub record IsLeftBy (v : JournaledSpace) (k : KeptSpace) (used owed room : ℕ) : Type 0 where
  pub within : IsWithinLimits k.sizes
  pub space : IsSpace k.sizes k.online k.state
  pub left : k ≡ left_by v
  pub possible : IsPossibleJournal v.sizes v.online v.opening v.journal
  pub owed_for : IsOwed k.state owed
  pub enough : used + owed ≤ room
