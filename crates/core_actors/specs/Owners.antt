-- How an owner stands between its actions, which comes next, and how it stands after it.
use Rattle.std.specs.Prelude.{Bool, true, false, ℕ, ◌&&◌, List, [], ◌∷◌, Option, None, Some}
use Rattle.evac_model.specs.declared.names.FrameNo.{FrameNo}
use Rattle.evac_model.specs.declared.names.PageNo.{PageNo}
use Rattle.evac_model.specs.declared.call.Call.{Call}
use Rattle.machine.specs.declared.action.Action.{Action}
use Rattle.machine.specs.declared.action.Action.TheVariants as actions
use Rattle.machine.specs.declared.action.Heard.{Heard}
use Rattle.machine.specs.declared.action.SpaceCall.TheVariants.{Return}
use Rattle.core_actors.specs.declared.place.Place.{Place}
use Rattle.core_actors.specs.declared.place.Place.TheVariants.{Between, InCall}
use Rattle.core_actors.specs.Places.{first_action, action_at, behind_first, place_behind, calls_behind, frame_owed}

-- The owner's number, the cells of a page, the calls that it hasn't ended, in order, and its place: between two
-- calls, or in the first of them.
pub record OwnerState : Type 0 where
  pub owner : ℕ
  pub cells : ℕ
  pub left : List (PageNo × Call)
  pub place : Place

-- an owner that stands before its next call, or before a frame to give back
abbrev pub before_call : (owner cells : ℕ) → List (PageNo × Call) → Option FrameNo → OwnerState
before_call owner cells calls back = record { owner = owner; cells = cells; left = calls; place = Between back }

-- an owner that has made no action of its script
abbrev pub owner_at_start : (owner cells : ℕ) → List (PageNo × Call) → OwnerState
owner_at_start owner cells calls = before_call owner cells calls None

abbrev pub are_none : List (PageNo × Call) → Bool
are_none [] = true
are_none (c ∷ cs) = false

abbrev pub is_nothing : Option FrameNo → Bool
is_nothing None = true
is_nothing (Some frame) = false

-- no call is left, and no frame to give back
abbrev pub owner_ended : OwnerState → Bool
owner_ended a = are_none a.left && is_nothing (frame_owed a.place)

abbrev pub action_in : Place → List (PageNo × Call) → Action
action_in (Between (Some frame)) left = actions.Space (Return frame)
action_in (Between None) [] = actions.Ended
action_in (Between None) (c ∷ cs) = first_action c
action_in (InCall at) [] = actions.Ended
action_in (InCall at) (c ∷ cs) = action_at c at

-- the action that the owner makes next; Ended where it has ended
abbrev pub next_action : OwnerState → Action
next_action a = action_in a.place a.left

abbrev pub owner_after_at : Place → List (PageNo × Call) → OwnerState → Heard → OwnerState
owner_after_at (Between (Some frame)) left a heard = record a { place = Between None }
owner_after_at (Between None) [] a heard = a
owner_after_at (Between None) (c ∷ cs) a heard = record a { place = behind_first a.cells c.1 heard }
owner_after_at (InCall at) [] a heard = a
owner_after_at (InCall at) (c ∷ cs) a heard = record a { left = calls_behind c cs at; place = place_behind a.cells c.1 at heard }

-- the owner after its next action, of which it heard this; one that has ended stays so
abbrev pub owner_after : OwnerState → Heard → OwnerState
owner_after a heard = owner_after_at a.place a.left a heard
