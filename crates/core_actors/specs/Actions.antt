-- An owner once it has heard, its last action, and what its steps store.
use Rattle.std.specs.Prelude.{Bool, ◌<◌, ◌^◌, ⊤}
use Rattle.core_state.specs.declared.step.Step.{Step}
use Rattle.core_state.specs.declared.step.Step.TheVariants.{Take, Draw, Load, Store, Mark, Release}
use Rattle.machine.specs.declared.action.Action.{Action}
use Rattle.machine.specs.declared.action.Action.TheVariants as actions
use Rattle.machine.specs.declared.action.Heard.{Heard}
use Rattle.machine.specs.declared.action.Heard.TheVariants.{Start, Nothing}
use Rattle.core_actors.specs.Owners.{OwnerState, owner_ended, owner_after}

-- the owner once it has heard of the action that it was to make
abbrev pub owner_heard : OwnerState → Heard → OwnerState
owner_heard a Start = a
owner_heard a heard = owner_after a heard

-- No action is left behind the next one. The last action of a script ends it, whatever it gives: it is a
-- release or a return.
abbrev pub ends_with_next : OwnerState → Bool
ends_with_next a = owner_ended (owner_after a Nothing)

-- a value that is stored has 64 bits
abbrev pub IsStorable : Step → Type 0
IsStorable (Take page) = ⊤
IsStorable Draw = ⊤
IsStorable (Load cell) = ⊤
IsStorable (Store frame cell value) = value < 2 ^ 64
IsStorable (Mark frame) = ⊤
IsStorable (Release end) = ⊤

abbrev pub IsStorableAction : Action → Type 0
IsStorableAction (actions.Step step) = IsStorable step
IsStorableAction (actions.Move step) = ⊤
IsStorableAction (actions.Space call) = ⊤
IsStorableAction (actions.Block call) = ⊤
IsStorableAction (actions.Device call) = ⊤
IsStorableAction actions.Ended = ⊤
