-- An owner whose calls have numbers of 64 bits stores no other ones.
use Rattle.std.proofs.Common.{ℕ, zero, suc, ◌+◌, ◌%◌, ◌^◌, ◌<◌, List, [], ◌∷◌, get_or, arith, None, Some}
use Rattle.std.specs.List.{AllByRecursion}
use Rattle.evac_model.specs.declared.names.PageNo.{PageNo}
use Rattle.evac_model.specs.declared.call.Call.{Call}
use Rattle.evac_model.specs.declared.call.Call.TheVariants.{Alloc, Free, Read, Write, Add, Pin, Unpin}
use Rattle.evac_model.specs.ScenarioLines.{IsNumber, HasNumbers}
use Rattle.core_actors.specs.declared.place.Place.{Place}
use Rattle.core_actors.specs.declared.place.Place.TheVariants.{Between, InCall}
use Rattle.core_actors.specs.declared.place.CallPlace.{CallPlace}
use Rattle.core_actors.specs.declared.place.CallPlace.TheVariants.{Zero, MarkZeros, Take, Draw, Load, Store, Mark, Map, Unmap, Release}
use Rattle.core_actors.specs.CallSteps.{values_of}
use Rattle.core_actors.specs.Places.{first_action, action_at}
use Rattle.core_actors.specs.Owners.{OwnerState, action_in, next_action}
use Rattle.core_actors.specs.Actions.{IsStorableAction}
use Rattle.replay.specs.Keeping.{HaveNumbers}

number_at : (xs : List ℕ) (i : ℕ) → AllByRecursion IsNumber xs → get_or xs i 0 < 2 ^ 64
number_at [] i all = omega arith
number_at (x ∷ xs) zero all = all.0
number_at (x ∷ xs) (suc i) all = number_at xs i all.1

sum_storable : (n i : ℕ) → get_or (n % 2 ^ 64 ∷ []) i 0 < 2 ^ 64
sum_storable n zero = omega arith
sum_storable n (suc i) = omega arith

value_storable : (call : Call) (loads : List ℕ) (i : ℕ) → HasNumbers call → get_or (values_of loads call) i 0 < 2 ^ 64
value_storable (Alloc kind) loads i h = omega arith
value_storable Free loads i h = omega arith
value_storable (Read first count) loads i h = omega arith
value_storable (Write first values) loads i h = number_at values i h.3
value_storable (Add cell value) loads i h = sum_storable (get_or loads 0 0 + value) i
value_storable Pin loads i h = omega arith
value_storable Unpin loads i h = omega arith

first_storable : (c : PageNo × Call) → IsStorableAction (first_action c)
first_storable (page, Alloc kind) = tt
first_storable (page, Free) = tt
first_storable (page, Read first count) = tt
first_storable (page, Write first values) = tt
first_storable (page, Add cell value) = tt
first_storable (page, Pin) = tt
first_storable (page, Unpin) = tt

place_storable : (c : PageNo × Call) (at : CallPlace) → HasNumbers c.1 → IsStorableAction (action_at c at)
place_storable c (Zero frame cell) h = omega arith
place_storable c (MarkZeros frame) h = tt
place_storable c (Take lease) h = tt
place_storable c (Draw lease found) h = tt
place_storable c (Load found loads) h = tt
place_storable c (Store found loads i) h = value_storable c.1 loads i h
place_storable c (Mark found loads) h = tt
place_storable c (Map frame kind found) h = tt
place_storable c (Unmap found) h = tt
place_storable c (Release lease found loads) h = tt

storable_in : (place : Place) (left : List (PageNo × Call)) → HaveNumbers left → IsStorableAction (action_in place left)
storable_in (Between (Some frame)) left h = tt
storable_in (Between None) [] h = tt
storable_in (Between None) (c ∷ cs) h = first_storable c
storable_in (InCall at) [] h = tt
storable_in (InCall at) (c ∷ cs) h = place_storable c at h.0

-- what an owner stores next, if anything, is a number of 64 bits
pub next_storable : (a : OwnerState) → HaveNumbers a.left → IsStorableAction (next_action a)
next_storable a h = storable_in a.place a.left h
