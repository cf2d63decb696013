-- A machine at its start.
use Rattle.std.specs.Prelude.{◌≡◌, ℕ, ◌≤◌, ◌<◌, ◌^◌, true, List, [], length, sum}
use Rattle.std.specs.List.{AllByRecursion}
use Rattle.evac_model.specs.declared.names.Kind.{Kind}
use Rattle.evac_model.specs.declared.scenario.StartPage.{StartPage}
use Rattle.evac_model.specs.Counts.{first_of_calls}
use Rattle.evac_model.specs.FreeRuns.{fits}
use Rattle.evac_model.specs.Geometry.{Sizes, IsWithinLimits}
use Rattle.evac_model.specs.SpaceJournal.{space_at_start}
use Rattle.evac_model.specs.StartPages.{AreStartPages}
use Rattle.core_state.specs.CoreOpens.{opening_of, opening_words, opening_views}
use Rattle.machine.specs.World.{Setting, World}

-- The machine of these sizes, whose managed blocks are online for pages of a kind, with these pages at the start, and so
-- many calls for each owner. The calls of the device's backing with these numbers fail.
abbrev pub setting_at_start : Sizes → (online : Kind) → List StartPage → (budgets fails : List ℕ) → Setting
setting_at_start s online start budgets fails =
    record { opening = opening_of s start budgets; sizes = s; online = online; space = space_at_start s start; owners = length budgets; backing = first_of_calls fails }

abbrev pub world_at_start : Sizes → List StartPage → (budgets : List ℕ) → World
world_at_start s start budgets =
    record { snapshot = record { words = opening_words s start; views = opening_views s start budgets }; space = []; device = [] }

-- a machine can start so
pub record MayStart (s : Sizes) (online : Kind) (pages : List StartPage) (budgets : List ℕ) : Type 0 where
  pub limits : IsWithinLimits s
  pub start : AreStartPages s pages
  pub kinds : AllByRecursion (λ p. fits s online p.kind p.frame.0 ≡ true) pages
  pub owners : length budgets ≤ 16
  pub calls : sum budgets < 2 ^ 33
