-- How many actions an owner may still make.
use Rattle.std.specs.Prelude.{◌≡◌, ◌≢◌, ℕ, ◌+◌, ◌-◌, ◌<◌, min, true, List, [], ◌∷◌, length, Option, None, Some, ⊤}
use Rattle.std.specs.List.{sum_by}
use Rattle.evac_model.specs.declared.names.FrameNo.{FrameNo}
use Rattle.evac_model.specs.declared.names.PageNo.{PageNo}
use Rattle.evac_model.specs.declared.call.Call.{Call}
use Rattle.evac_model.specs.declared.call.Call.TheVariants.{Alloc, Free, Read, Write, Add, Pin, Unpin}
use Rattle.evac_words.specs.Word.{taken_bit, mapped_bit}
use Rattle.core_state.specs.declared.step.Step.{Step}
use Rattle.core_state.specs.declared.step.Step.TheVariants.{Take, Draw, Load, Store, Mark, Release}
use Rattle.machine.specs.declared.action.Action.{Action}
use Rattle.machine.specs.declared.action.Action.TheVariants as actions
use Rattle.core_actors.specs.declared.action.LeaseSeen.{LeaseSeen}
use Rattle.core_actors.specs.declared.action.LeaseSeen.TheVariants.{NotAsked}
use Rattle.core_actors.specs.declared.place.Place.{Place}
use Rattle.core_actors.specs.declared.place.Place.TheVariants.{Between, InCall}
use Rattle.core_actors.specs.declared.place.CallPlace.{CallPlace}
use Rattle.core_actors.specs.declared.place.CallPlace.TheVariants as places
use Rattle.core_actors.specs.CallSteps.{load_count, values_of, is_freed, frame_back}
use Rattle.core_actors.specs.Owners.{OwnerState}

-- the most actions that a call makes, with the return behind its release
abbrev pub most_actions : (cells : ℕ) → Call → ℕ
most_actions cells (Alloc kind) = cells + 6
most_actions cells Free = 5
most_actions cells (Read first count) = count + 3
most_actions cells (Write first values) = length values + 4
most_actions cells (Add cell value) = 6
most_actions cells Pin = 3
most_actions cells Unpin = 3

abbrev pub returns_left : Option FrameNo → ℕ
returns_left None = 0
returns_left (Some frame) = 1

-- the most actions that it makes behind its draw
abbrev pub behind_most : Call → ℕ
behind_most (Alloc kind) = 2
behind_most Free = 3
behind_most (Read first count) = count + 1
behind_most (Write first values) = length values + 2
behind_most (Add cell value) = 4
behind_most Pin = 1
behind_most Unpin = 1

-- the most actions that are left of a call at a place, with the return
abbrev pub left_in : (cells : ℕ) → Call → CallPlace → ℕ
left_in cells call (places.Zero frame cell) = cells - cell + 5
left_in cells call (places.MarkZeros frame) = 5
left_in cells call (places.Take lease) = 4
left_in cells call (places.Draw lease found) = behind_most call + 1
left_in cells call (places.Load found loads) = load_count call - length loads + (length (values_of loads call) + min (length (values_of loads call)) 1 + 1)
left_in cells call (places.Store found loads i) = length (values_of loads call) - i + 2
left_in cells call (places.Mark found loads) = 2
left_in cells call (places.Map frame kind found) = 2
left_in cells call (places.Unmap found) = 3
left_in cells call (places.Release lease found loads) = returns_left (frame_back call lease found) + 1

abbrev pub left_of : (cells : ℕ) → List (PageNo × Call) → ℕ
left_of cells calls = sum_by (λ c. most_actions cells c.1) calls

abbrev pub left_at : (cells : ℕ) → Place → List (PageNo × Call) → ℕ
left_at cells (Between back) left = left_of cells left + returns_left back
left_at cells (InCall at) [] = 0
left_at cells (InCall at) (c ∷ cs) = left_in cells c.1 at + left_of cells cs

-- the actions that the owner may still make, where a take that finds its page taken isn't counted
abbrev pub actions_left : OwnerState → ℕ
actions_left a = left_at a.cells a.place a.left

-- ---- places that a call comes to

abbrev pub IsAlloc : Call → Type 0
IsAlloc (Alloc kind) = ⊤
IsAlloc call = ⊥

-- a call with steps on cells
abbrev pub NamesCells : Call → Type 0
NamesCells (Read first count) = ⊤
NamesCells (Write first values) = ⊤
NamesCells (Add cell value) = ⊤
NamesCells call = ⊥

-- an alloc's lease was heard of, and no other call asks for one
abbrev pub IsLeaseOf : Call → LeaseSeen → Type 0
IsLeaseOf (Alloc kind) lease = lease ≢ NotAsked
IsLeaseOf call lease = lease ≡ NotAsked

-- the call comes to that place
abbrev pub ComesTo : (cells : ℕ) → Call → CallPlace → Type 0
ComesTo cells call (places.Zero frame cell) = IsAlloc call × (cell < cells)
ComesTo cells call (places.MarkZeros frame) = IsAlloc call
ComesTo cells call (places.Take lease) = IsAlloc call × (lease ≢ NotAsked)
ComesTo cells call (places.Draw lease found) = IsLeaseOf call lease
ComesTo cells call (places.Load found loads) = NamesCells call × (mapped_bit found ≡ 1) × (length loads < load_count call)
ComesTo cells call (places.Store found loads i) = NamesCells call × (mapped_bit found ≡ 1) × (length loads ≡ load_count call) × (i < length (values_of loads call))
ComesTo cells call (places.Mark found loads) = NamesCells call × (mapped_bit found ≡ 1) × (length loads ≡ load_count call) × (0 < length (values_of loads call))
ComesTo cells call (places.Map frame kind found) = (call ≡ Alloc kind) × (mapped_bit found ≢ 1)
ComesTo cells call (places.Unmap found) = (call ≡ Free) × (is_freed found ≡ true)
ComesTo cells call (places.Release lease found loads) = IsLeaseOf call lease × (mapped_bit found ≡ 1 → length loads ≡ load_count call)

abbrev pub IsPlaced : (cells : ℕ) → Place → List (PageNo × Call) → Type 0
IsPlaced cells (Between back) left = ⊤
IsPlaced cells (InCall at) [] = ⊥
IsPlaced cells (InCall at) (c ∷ cs) = ComesTo cells c.1 at

-- the owner is between two calls, or at a place that the first of its calls comes to
abbrev pub IsUnderWay : OwnerState → Type 0
IsUnderWay a = IsPlaced a.cells a.place a.left

-- a take that found its page taken
abbrev pub FindsTakenBy : Step → ℕ → Type 0
FindsTakenBy (Take page) found = taken_bit found ≡ 1
FindsTakenBy Draw found = ⊥
FindsTakenBy (Load cell) found = ⊥
FindsTakenBy (Store frame cell value) found = ⊥
FindsTakenBy (Mark frame) found = ⊥
FindsTakenBy (Release end) found = ⊥

abbrev pub FindsTaken : Action → ℕ → Type 0
FindsTaken (actions.Step step) found = FindsTakenBy step found
FindsTaken (actions.Move step) found = ⊥
FindsTaken (actions.Space call) found = ⊥
FindsTaken (actions.Block call) found = ⊥
FindsTaken (actions.Device call) found = ⊥
FindsTaken actions.Ended found = ⊥
