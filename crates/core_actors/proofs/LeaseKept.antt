-- What an owner's lease gave, and the frame that it owes, stay so over the actions of a call.
use Rattle.std.proofs.Common.{◌≡◌, ℕ, ◌==◌, nat_lt, false, List, [], length, refl, sym, ◌∙◌, None}
use Rattle.evac_model.specs.declared.names.FrameNo.{FrameNo}
use Rattle.evac_model.specs.declared.names.Kind.{Kind}
use Rattle.evac_model.specs.declared.call.Call.{Call}
use Rattle.evac_model.specs.declared.call.Call.TheVariants.{Alloc, Free, Read, Write, Add, Pin, Unpin}
use Rattle.evac_words.specs.Word.{taken_bit, mapped_bit}
use Rattle.machine.specs.declared.action.Heard.{Heard}
use Rattle.core_actors.specs.declared.action.LeaseSeen.{LeaseSeen}
use Rattle.core_actors.specs.declared.action.LeaseSeen.TheVariants.{NotAsked, Got, Refused}
use Rattle.core_actors.specs.declared.place.Place.{Place}
use Rattle.core_actors.specs.declared.place.Place.TheVariants.{Between, InCall}
use Rattle.core_actors.specs.declared.place.CallPlace.{CallPlace}
use Rattle.core_actors.specs.declared.place.CallPlace.TheVariants.{Zero, MarkZeros, Take, Draw, Load, Store, Mark, Map, Unmap, Release}
use Rattle.core_actors.specs.CallSteps.{load_count, values_of, is_freed}
use Rattle.core_actors.specs.Places.{word_in, zero_from, behind_take, store_from, behind_loads, load_from, cells_behind, map_behind, behind_draw, behind_first, place_behind, ends_call, lease_at, lease_seen, frame_owed}
use Rattle.core_actors.specs.Counts.{IsLeaseOf, ComesTo}
use Rattle.core_actors.proofs.Cases.{if_then}

-- ---- the frame that is owed

pub take_owes : (here : Place) (lease : LeaseSeen) (word : ℕ) → frame_owed here ≡ None → frame_owed (behind_take here lease word) ≡ None
take_owes here lease word none = if_then (λ (p : Place). frame_owed p ≡ None) (taken_bit word == 0) (InCall (Draw lease word)) here (λ t. refl) (λ f. none)

pub first_owes : (cells : ℕ) (call : Call) (heard : Heard) → frame_owed (behind_first cells call heard) ≡ None
first_owes cells (Alloc kind) heard = refl
first_owes cells Free heard = take_owes (Between None) NotAsked (word_in heard) refl
first_owes cells (Read first count) heard = take_owes (Between None) NotAsked (word_in heard) refl
first_owes cells (Write first values) heard = take_owes (Between None) NotAsked (word_in heard) refl
first_owes cells (Add cell value) heard = take_owes (Between None) NotAsked (word_in heard) refl
first_owes cells Pin heard = take_owes (Between None) NotAsked (word_in heard) refl
first_owes cells Unpin heard = take_owes (Between None) NotAsked (word_in heard) refl

pub place_owes : (cells : ℕ) (call : Call) (at : CallPlace) (heard : Heard) → ends_call (InCall at) ≡ false → frame_owed (place_behind cells call at heard) ≡ None
place_owes cells call (Zero frame cell) heard going = refl
place_owes cells call (MarkZeros frame) heard going = refl
place_owes cells call (Take lease) heard going = take_owes (InCall (Take lease)) lease (word_in heard) refl
place_owes cells call (Draw lease found) heard going = refl
place_owes cells call (Load found loads) heard going = refl
place_owes cells call (Store found loads i) heard going = refl
place_owes cells call (Mark found loads) heard going = refl
place_owes cells call (Map frame kind found) heard going = refl
place_owes cells call (Unmap found) heard going = refl
place_owes cells call (Release lease found loads) heard going = absurd cc

-- ---- the lease

pub zero_leases : (cells : ℕ) (frame : FrameNo) (cell : ℕ) → lease_at (zero_from cells frame cell) ≡ Got frame
zero_leases cells frame cell = if_then (λ (at : CallPlace). lease_at at ≡ Got frame) (nat_lt cell cells) (Zero frame cell) (MarkZeros frame) (λ t. refl) (λ f. refl)

pub take_leases : (here : Place) (lease : LeaseSeen) (word : ℕ) → lease_seen here ≡ lease → lease_seen (behind_take here lease word) ≡ lease
take_leases here lease word e = if_then (λ (p : Place). lease_seen p ≡ lease) (taken_bit word == 0) (InCall (Draw lease word)) here (λ t. refl) (λ f. e)

module _ (call : Call) (found : ℕ) (loads : List ℕ) where
  store_leases : (i : ℕ) → lease_at (store_from call found loads i) ≡ NotAsked
  store_leases i = if_then (λ (at : CallPlace). lease_at at ≡ NotAsked) (nat_lt i (length (values_of loads call))) (Store found loads i) (Mark found loads) (λ t. refl) (λ f. refl)

  load_leases : lease_at (load_from call found loads) ≡ NotAsked
  load_leases = if_then (λ (at : CallPlace). lease_at at ≡ NotAsked) (nat_lt (length loads) (load_count call)) (Load found loads) (behind_loads call found loads) (λ t. refl)
      (λ f. if_then (λ (at : CallPlace). lease_at at ≡ NotAsked) (length (values_of loads call) == 0) (Release NotAsked found loads) (Store found loads 0) (λ t. refl) (λ g. refl))

cells_lease : (call : Call) (found : ℕ) → lease_at (cells_behind call found) ≡ NotAsked
cells_lease call found = if_then (λ (at : CallPlace). lease_at at ≡ NotAsked) (mapped_bit found == 1) (load_from call found []) (Release NotAsked found []) (λ t. load_leases call found []) (λ f. refl)

map_leases : (kind : Kind) (lease : LeaseSeen) (found : ℕ) → lease_at (map_behind kind lease found) ≡ lease
map_leases kind NotAsked found = refl
map_leases kind (Got frame) found = if_then (λ (at : CallPlace). lease_at at ≡ Got frame) (mapped_bit found == 1) (Release (Got frame) found []) (Map frame kind found) (λ t. refl) (λ f. refl)
map_leases kind (Refused i) found = refl

draw_leases : (call : Call) (lease : LeaseSeen) (found : ℕ) → IsLeaseOf call lease → lease_at (behind_draw call lease found) ≡ lease
draw_leases (Alloc kind) lease found is = map_leases kind lease found
draw_leases Free lease found is = if_then (λ (at : CallPlace). lease_at at ≡ lease) (is_freed found) (Unmap found) (Release NotAsked found []) (λ t. sym is) (λ f. sym is)
draw_leases (Read first count) lease found is = cells_lease (Read first count) found ∙ sym is
draw_leases (Write first values) lease found is = cells_lease (Write first values) found ∙ sym is
draw_leases (Add cell value) lease found is = cells_lease (Add cell value) found ∙ sym is
draw_leases Pin lease found is = sym is
draw_leases Unpin lease found is = sym is

pub place_leases : (cells : ℕ) (call : Call) (at : CallPlace) (heard : Heard) → ComesTo cells call at → ends_call (InCall at) ≡ false → lease_seen (place_behind cells call at heard) ≡ lease_at at
place_leases cells call (Zero frame cell) heard way going = zero_leases cells frame _
place_leases cells call (MarkZeros frame) heard way going = refl
place_leases cells call (Take lease) heard way going = take_leases (InCall (Take lease)) lease (word_in heard) refl
place_leases cells call (Draw lease found) heard way going = draw_leases call lease found way
place_leases cells call (Load found loads) heard way going = load_leases call found _
place_leases cells call (Store found loads i) heard way going = store_leases call found loads _
place_leases cells call (Mark found loads) heard way going = refl
place_leases cells call (Map frame kind found) heard way going = refl
place_leases cells call (Unmap found) heard way going = refl
place_leases cells call (Release lease found loads) heard way going = absurd cc
