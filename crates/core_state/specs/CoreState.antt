-- What contracts see of a core.
use Rattle.std.specs.Prelude.{ℕ}
use Rattle.core_state.specs.declared.opening.Opening.{Opening}
use Rattle.core_state.specs.declared.seen.Seen.{Seen}
use Rattle.core_state.specs.declared.seen.Seen.TheVariants.{Word, Nothing}
use Rattle.core_state.specs.declared.snapshot.Snapshot.{Snapshot}
use Rattle.core_state.specs.declared.step.Step.{Step}
use Rattle.core_state.specs.declared.step.Step.TheVariants.{Take, Draw, Load, Store, Mark, Release}
use Rattle.core_state.specs.declared.view.View.{View}
use Rattle.core_state.specs.Views.{right_to}
use Rattle.core_state.specs.Sound.{Sound}

-- what the run began with, the words and the views as they are, and for how many more notices there is room
pub record CoreState : Type 0 where
  pub opening : Opening
  pub snapshot : Snapshot
  pub room : ℕ

-- its words and views are sound
abbrev pub IsSound : CoreState → Type 0
IsSound c = Sound c.opening c.snapshot.words c.snapshot.views

-- what a step gives, where it found that word
abbrev pub seen_by : Step → ℕ → Seen
seen_by (Take page) found = Word found
seen_by Draw found = Word found
seen_by (Load cell) found = Word found
seen_by (Store frame cell value) found = Nothing
seen_by (Mark frame) found = Nothing
seen_by (Release end) found = Nothing

-- the notices for which a step needs room: one for a take by the right to move the page
abbrev pub notices_of : View → Step → ℕ
notices_of v (Take page) = right_to page.0 v
notices_of v Draw = 0
notices_of v (Load cell) = 0
notices_of v (Store frame cell value) = 0
notices_of v (Mark frame) = 0
notices_of v (Release end) = 0
