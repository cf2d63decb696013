-- The actions that an owner makes, one after another, by what it hears.
use Rattle.std.specs.Prelude.{ℕ, ◌==◌, if◌then◌else◌, List, [], ◌∷◌, ◌++◌, Option, None, Some}
use Rattle.evac_model.specs.declared.names.FrameNo.{FrameNo}
use Rattle.evac_model.specs.declared.names.PageNo.{PageNo}
use Rattle.evac_model.specs.declared.call.Call.{Call}
use Rattle.evac_words.specs.Word.{taken_bit}
use Rattle.core_state.specs.declared.step.Step.TheVariants.{Take}
use Rattle.machine.specs.declared.action.Action.{Action}
use Rattle.machine.specs.declared.action.Action.TheVariants as actions
use Rattle.machine.specs.declared.action.Heard.{Heard}
use Rattle.machine.specs.declared.action.SpaceCall.TheVariants.{Return}
use Rattle.core_actors.specs.declared.action.LeaseSeen.{LeaseSeen}
use Rattle.core_actors.specs.declared.place.Place.{Place}
use Rattle.core_actors.specs.declared.place.Place.TheVariants.{InCall}
use Rattle.core_actors.specs.declared.place.CallPlace.TheVariants.{Release}
use Rattle.core_actors.specs.CallSteps.{call_actions, frame_back}
use Rattle.core_actors.specs.Places.{word_in}
use Rattle.core_actors.specs.Owners.{OwnerState, next_action, owner_after}

-- The action, and those behind it. A take that finds its page taken isn't listed, since it is made again, and the end
-- is none.
abbrev pub listed : Action → Heard → List Action → List Action
listed (actions.Step (Take page)) heard behind = if taken_bit (word_in heard) == 0 then actions.Step (Take page) ∷ behind else behind
listed actions.Ended heard behind = behind
listed action heard behind = action ∷ behind

-- the actions that an owner makes, where it hears this of them
abbrev pub made_hearing : OwnerState → List Heard → List Action
made_hearing a [] = []
made_hearing a (heard ∷ rest) = listed (next_action a) heard (made_hearing (owner_after a heard) rest)

-- the owner behind them
abbrev pub after_hearing : OwnerState → List Heard → OwnerState
after_hearing a [] = a
after_hearing a (heard ∷ rest) = after_hearing (owner_after a heard) rest

-- an owner before the release of the first of its calls
abbrev pub before_release : (owner cells : ℕ) → List (PageNo × Call) → LeaseSeen → (found : ℕ) → List ℕ → OwnerState
before_release owner cells calls lease found loads = record { owner = owner; cells = cells; left = calls; place = InCall (Release lease found loads) }

-- ---- a whole script

-- what a call heard: what its lease gave, the word that its take found, and what its loads gave
pub record CallHeard : Type 0 where
  pub lease : LeaseSeen
  pub found : ℕ
  pub loads : List ℕ

-- what the call heard that ends at this place, if one does, before what those behind it heard
abbrev pub heard_at : Place → List CallHeard → List CallHeard
heard_at (InCall (Release lease found loads)) behind = record { lease = lease; found = found; loads = loads } ∷ behind
heard_at place behind = behind

-- what each call heard that the owner ends meanwhile
abbrev pub calls_heard : OwnerState → List Heard → List CallHeard
calls_heard a [] = []
calls_heard a (heard ∷ rest) = heard_at a.place (calls_heard (owner_after a heard) rest)

-- the return of a frame, if one is left
abbrev pub return_of : Option FrameNo → List Action
return_of None = []
return_of (Some frame) = actions.Space (Return frame) ∷ []

-- the actions of a script whose calls heard this: those of each call, and the return of the frame that it leaves
abbrev pub script_actions : (cells : ℕ) → List (PageNo × Call) → List CallHeard → List Action
script_actions cells [] heards = []
script_actions cells (c ∷ cs) [] = []
script_actions cells (c ∷ cs) (h ∷ hs) =
    call_actions cells c.0 c.1 h.lease h.found h.loads ++ (return_of (frame_back c.1 h.lease h.found) ++ script_actions cells cs hs)
