-- What the frames in the hands of owners are there for.
use Rattle.std.specs.Prelude.{◌≡◌, ℕ, suc, slice_get, Some}
use Rattle.evac_model.specs.declared.scenario.Scenario.{Scenario}
use Rattle.core_actors.specs.FramesOut.{IsOutForCall}
use Rattle.core_actors.specs.Owners.{OwnerState}
use Rattle.core_actors.specs.Places.{frame_owed}
use Rattle.machine.specs.World.{HasFrame, space_now}
use Rattle.replay.specs.Running.{Running}
use Rattle.replay.specs.Runs.{setting}

-- a frame in an owner's hand is out for its call, or to be given back
abbrev pub AreFramesInHand : Scenario → Running → Type 0
AreFramesInHand s m =
    (i : ℕ) (a : OwnerState) (frame : ℕ) → slice_get m.owners i ≡ Some a → HasFrame m.world (suc i) frame → IsOutForCall (space_now (setting s) m.world) a.left (frame_owed a.place) frame
