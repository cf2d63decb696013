-- Where an owner asks the frame space, and what it never asks.
use Rattle.std.specs.Prelude.{⊤}
use Rattle.std.proofs.Common.{◌≡◌, ◌≢◌, ◌↔◌, ℕ, true, false, List, [], ◌∷◌, refl, ap, subst, Some, None}
use Rattle.evac_model.specs.declared.names.FrameNo.{FrameNo}
use Rattle.evac_model.specs.declared.names.Kind.{Kind}
use Rattle.evac_model.specs.declared.names.PageNo.{PageNo}
use Rattle.evac_model.specs.declared.call.Call.{Call}
use Rattle.evac_model.specs.declared.call.Call.TheVariants.{Alloc, Free, Read, Write, Add, Pin, Unpin}
use Rattle.core_state.specs.declared.step.MoveStep.{MoveStep}
use Rattle.machine.specs.declared.action.Action.{Action}
use Rattle.machine.specs.declared.action.Action.TheVariants as actions
use Rattle.machine.specs.declared.action.BlockCall.{BlockCall}
use Rattle.machine.specs.declared.action.DeviceCall.{DeviceCall}
use Rattle.machine.specs.declared.action.SpaceCall.{SpaceCall}
use Rattle.machine.specs.declared.action.SpaceCall.TheVariants.{Lease, Return}
use Rattle.core_actors.specs.declared.place.Place.{Place}
use Rattle.core_actors.specs.declared.place.Place.TheVariants.{Between, InCall}
use Rattle.core_actors.specs.declared.place.CallPlace.{CallPlace}
use Rattle.core_actors.specs.declared.place.CallPlace.TheVariants.{Zero, MarkZeros, Take, Draw, Load, Store, Mark, Map, Unmap, Release}
use Rattle.core_actors.specs.Places.{first_action, action_at}
use Rattle.core_actors.specs.Owners.{OwnerState, action_in, owner_ended, next_action}
use Rattle.core_actors.proofs.Cases.{by_test}

-- a call begins with no step on the mapping
pub first_moves : (page : PageNo) (call : Call) (step : MoveStep) → first_action (page, call) ≡ actions.Move step → ⊥
first_moves page (Alloc kind) step is = cc
first_moves page Free step is = cc
first_moves page (Read first count) step is = cc
first_moves page (Write first values) step is = cc
first_moves page (Add cell value) step is = cc
first_moves page Pin step is = cc
first_moves page Unpin step is = cc

pub place_asks : (c : PageNo × Call) (at : CallPlace) (x : SpaceCall) → action_at c at ≡ actions.Space x → ⊥
place_asks c (Zero frame cell) x is = cc
place_asks c (MarkZeros frame) x is = cc
place_asks c (Take lease) x is = cc
place_asks c (Draw lease found) x is = cc
place_asks c (Load found loads) x is = cc
place_asks c (Store found loads i) x is = cc
place_asks c (Mark found loads) x is = cc
place_asks c (Map frame kind found) x is = cc
place_asks c (Unmap found) x is = cc
place_asks c (Release lease found loads) x is = cc

-- an owner that leases stands before an alloc
pub record Leases (place : Place) (left : List (PageNo × Call)) (page : PageNo) (kind : Kind) : Type 0 where
  pub rest : List (PageNo × Call)
  pub place_is : place ≡ Between None
  pub left_is : left ≡ (page, Alloc kind) ∷ rest

first_leases : (p page : PageNo) (call : Call) (kind : Kind) → first_action (p, call) ≡ actions.Space (Lease page kind) → ◌≡◌ {A = PageNo × Call} (p, call) (page, Alloc kind)
first_leases p page (Alloc k) kind is = cc
first_leases p page Free kind is = absurd cc
first_leases p page (Read first count) kind is = absurd cc
first_leases p page (Write first values) kind is = absurd cc
first_leases p page (Add cell value) kind is = absurd cc
first_leases p page Pin kind is = absurd cc
first_leases p page Unpin kind is = absurd cc

pub leases_at : (place : Place) (left : List (PageNo × Call)) (page : PageNo) (kind : Kind) → action_in place left ≡ actions.Space (Lease page kind) → Leases place left page kind
leases_at (Between (Some frame)) left page kind is = absurd cc
leases_at (Between None) [] page kind is = absurd cc
leases_at (Between None) (c ∷ cs) page kind is = record { rest = cs; place_is = refl; left_is = ap (λ (d : PageNo × Call). d ∷ cs) (first_leases c.0 page c.1 kind is) }
leases_at (InCall at) [] page kind is = absurd cc
leases_at (InCall at) (c ∷ cs) page kind is = absurd (place_asks c at (Lease page kind) is)

first_returns : (c : PageNo × Call) (frame : FrameNo) → first_action c ≡ actions.Space (Return frame) → ⊥
first_returns (page, Alloc kind) frame is = cc
first_returns (page, Free) frame is = cc
first_returns (page, Read first count) frame is = cc
first_returns (page, Write first values) frame is = cc
first_returns (page, Add cell value) frame is = cc
first_returns (page, Pin) frame is = cc
first_returns (page, Unpin) frame is = cc

-- an owner that gives a frame back stands before it
pub returns_at : (place : Place) (left : List (PageNo × Call)) (frame : FrameNo) → action_in place left ≡ actions.Space (Return frame) → place ≡ Between (Some frame)
returns_at (Between (Some f)) left frame is = cc
returns_at (Between None) [] frame is = absurd cc
returns_at (Between None) (c ∷ cs) frame is = absurd (first_returns c frame is)
returns_at (InCall at) [] frame is = absurd cc
returns_at (InCall at) (c ∷ cs) frame is = absurd (place_asks c at (Return frame) is)

-- ---- the end

first_goes : (c : PageNo × Call) → first_action c ≡ actions.Ended → ⊥
first_goes (page, Alloc kind) is = cc
first_goes (page, Free) is = cc
first_goes (page, Read first count) is = cc
first_goes (page, Write first values) is = cc
first_goes (page, Add cell value) is = cc
first_goes (page, Pin) is = cc
first_goes (page, Unpin) is = cc

place_goes : (c : PageNo × Call) (at : CallPlace) → action_at c at ≡ actions.Ended → ⊥
place_goes c (Zero frame cell) is = cc
place_goes c (MarkZeros frame) is = cc
place_goes c (Take lease) is = cc
place_goes c (Draw lease found) is = cc
place_goes c (Load found loads) is = cc
place_goes c (Store found loads i) is = cc
place_goes c (Mark found loads) is = cc
place_goes c (Map frame kind found) is = cc
place_goes c (Unmap found) is = cc
place_goes c (Release lease found loads) is = cc

ended_at : (owner cells : ℕ) (place : Place) (left : List (PageNo × Call)) → (action_in place left ≡ actions.Ended) ↔ (owner_ended (record { owner = owner; cells = cells; left = left; place = place }) ≡ true)
ended_at owner cells (Between (Some frame)) [] = ((λ e. absurd cc), (λ e. absurd cc))
ended_at owner cells (Between (Some frame)) (c ∷ cs) = ((λ e. absurd cc), (λ e. absurd cc))
ended_at owner cells (Between None) [] = ((λ e. refl), (λ e. refl))
ended_at owner cells (Between None) (c ∷ cs) = ((λ e. absurd (first_goes c e)), (λ e. absurd cc))
ended_at owner cells (InCall at) [] = ((λ e. refl), (λ e. refl))
ended_at owner cells (InCall at) (c ∷ cs) = ((λ e. absurd (place_goes c at e)), (λ e. absurd cc))

-- the owner makes no action just where it has ended
pub ended_told : (a : OwnerState) → (next_action a ≡ actions.Ended) ↔ (owner_ended a ≡ true)
ended_told a = ended_at a.owner a.cells a.place a.left

-- ---- which actions it makes

-- a step, a lease or a return
abbrev pub IsOwners : Action → Type 0
IsOwners (actions.Step step) = ⊤
IsOwners (actions.Move step) = ⊤
IsOwners (actions.Space call) = ⊤
IsOwners (actions.Block call) = ⊥
IsOwners (actions.Device call) = ⊥
IsOwners actions.Ended = ⊥

first_owners : (c : PageNo × Call) → IsOwners (first_action c)
first_owners (page, Alloc kind) = tt
first_owners (page, Free) = tt
first_owners (page, Read first count) = tt
first_owners (page, Write first values) = tt
first_owners (page, Add cell value) = tt
first_owners (page, Pin) = tt
first_owners (page, Unpin) = tt

place_owners : (c : PageNo × Call) (at : CallPlace) → IsOwners (action_at c at)
place_owners c (Zero frame cell) = tt
place_owners c (MarkZeros frame) = tt
place_owners c (Take lease) = tt
place_owners c (Draw lease found) = tt
place_owners c (Load found loads) = tt
place_owners c (Store found loads i) = tt
place_owners c (Mark found loads) = tt
place_owners c (Map frame kind found) = tt
place_owners c (Unmap found) = tt
place_owners c (Release lease found loads) = tt

owners_in : (a : OwnerState) (place : Place) (left : List (PageNo × Call)) → owner_ended (record a { left = left; place = place }) ≡ false → IsOwners (action_in place left)
owners_in a (Between (Some frame)) left going = tt
owners_in a (Between None) [] going = absurd cc
owners_in a (Between None) (c ∷ cs) going = first_owners c
owners_in a (InCall at) [] going = absurd cc
owners_in a (InCall at) (c ∷ cs) going = place_owners c at

-- an owner that hasn't ended makes one of these
pub owners_action : (a : OwnerState) (x : Action) → owner_ended a ≡ false → next_action a ≡ x → IsOwners x
owners_action a x going is = subst IsOwners is (owners_in a a.place a.left going)

-- it asks nothing of a block, and nothing of the device
pub no_block : (a : OwnerState) (call : BlockCall) → next_action a ≢ actions.Block call
no_block a call is = by_test (owner_ended a)
    (λ ended. let none = (ended_told a).1 ended in cc)
    (λ going. owners_action a (actions.Block call) going is)

pub no_device : (a : OwnerState) (call : DeviceCall) → next_action a ≢ actions.Device call
no_device a call is = by_test (owner_ended a)
    (λ ended. let none = (ended_told a).1 ended in cc)
    (λ going. owners_action a (actions.Device call) going is)
