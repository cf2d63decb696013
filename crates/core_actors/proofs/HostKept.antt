-- What holds of a host holds behind its next action.
use Rattle.std.proofs.Common.{◌≡◌, ℕ, false, List, ◌++◌}
use Rattle.evac_model.specs.declared.host.HostRun.{HostRun}
use Rattle.machine.specs.Consistent.{IsSetting, IsConsistent}
use Rattle.machine.specs.Made.{Made, made}
use Rattle.machine.specs.MayMake.{MayMake}
use Rattle.machine.specs.World.{Setting, World, device_now}
use Rattle.machine.proofs.CellsKept.{cells_kept}
use Rattle.core_actors.specs.declared.host_place.HostPlace.{HostPlace}
use Rattle.core_actors.specs.declared.host_place.HostPlace.TheVariants as places
use Rattle.core_actors.specs.Hosts.{HostState, host_ended, host_action}
use Rattle.core_actors.specs.HostHears.{host_after, line_after}
use Rattle.core_actors.specs.HostSeat.{HostSeat}
use Rattle.core_actors.specs.HostSpace.{tale_heard, HostSpace}
use Rattle.core_actors.specs.HostFound.{HostFound, HasTakes}
use Rattle.core_actors.specs.HostDid.{run_list, HostDid}
use Rattle.core_actors.specs.HostKept.{HostKept}
use Rattle.core_actors.proofs.HostMay.{host_may_make}
use Rattle.core_actors.proofs.HostGrows.{driver_adds}
use Rattle.core_actors.proofs.HostFinds.{found_after}
use Rattle.core_actors.proofs.HostHasTakes.{takes_after}
use Rattle.core_actors.proofs.HostEvacuatesTrue.{told_evacuating}
use Rattle.core_actors.proofs.HostTruths.{Adds, did_true_of}
use Rattle.core_actors.proofs.HostPlaces.{IsRoundPlace, IsBlockPlace}
use Rattle.core_actors.proofs.HostSteps.{IsStepPlace, seat_after_step}
use Rattle.core_actors.proofs.HostHands.{IsHandPlace, seat_after_hand}
use Rattle.core_actors.proofs.HostRounds.{space_after_round}
use Rattle.core_actors.proofs.HostBlocks.{space_after_block}
use Rattle.core_actors.proofs.HostDoesRounds.{did_after_round}
use Rattle.core_actors.proofs.HostDoesBlocks.{did_after_block}

-- by the place: it makes a step there or not, and goes on with rounds or with blocks
step_or_hand : {A : Type 0} (place : HostPlace) → (IsStepPlace place → A) → (IsHandPlace place → A) → A
step_or_hand places.Asking step hand = hand tt
step_or_hand places.Evacuating step hand = hand tt
step_or_hand (places.Moving lease at) step hand = step tt
step_or_hand places.TakingAway step hand = hand tt
step_or_hand (places.Zeroing frame cell) step hand = step tt
step_or_hand (places.MarkingZeros frame) step hand = step tt
step_or_hand (places.PuttingOnline result) step hand = hand tt

round_or_block : {A : Type 0} (place : HostPlace) → (IsRoundPlace place → A) → (IsBlockPlace place → A) → A
round_or_block places.Asking round block = block tt
round_or_block places.Evacuating round block = round tt
round_or_block (places.Moving lease at) round block = round tt
round_or_block places.TakingAway round block = block tt
round_or_block (places.Zeroing frame cell) round block = block tt
round_or_block (places.MarkingZeros frame) round block = block tt
round_or_block (places.PuttingOnline result) round block = block tt

module _ (c : Setting) (w : World) (runs : List HostRun) (h : HostState) (set : IsSetting c) (kept : IsConsistent c w) (k : HostKept c w runs h) (going : host_ended h ≡ false) where
  abbrev x : Made
  x = made c 0 w (host_action h)

  abbrev plugged : List ℕ
  plugged = (device_now c x.world).plugged

  may : MayMake c 0 w (host_action h)
  may = host_may_make c w runs h set kept k going

  seat_on : HostSeat c x.world (host_after plugged h x.heard)
  seat_on = step_or_hand h.place
      (λ at. seat_after_step c w h k.tale set kept k.cells k.seat k.space going at may)
      (λ at. seat_after_hand c w h k.tale set kept k.cells k.seat k.space going at may)

  space_on : HostSpace c x.world (host_after plugged h x.heard) (tale_heard h k.tale x.heard)
  space_on = round_or_block h.place
      (λ at. space_after_round c w h k.tale set kept k.seat k.space going at may)
      (λ at. space_after_block c w h k.tale set kept k.seat k.space going at may)

  found_on : HostFound c x.world (host_after plugged h x.heard) (tale_heard h k.tale x.heard)
  found_on = found_after c w h k.tale set kept k.seat k.space k.found k.takes going may

  takes_on : HasTakes x.world (host_after plugged h x.heard)
  takes_on = takes_after c w h k.tale set kept k.seat k.space k.takes going may

  adds : Adds c w x.world
  adds = driver_adds c w (host_action h) set kept k.seat.driver may

  -- what was done is true of the world behind the action
  did_then : HostDid c x.world w runs h k.tale
  did_then = did_true_of c w x.world w runs h k.tale adds k.did

  did_on : HostDid c x.world x.world (runs ++ run_list h.left (line_after plugged h x.heard)) (host_after plugged h x.heard) (tale_heard h k.tale x.heard)
  did_on = round_or_block h.place
      (λ at. did_after_round c w h k.tale runs set kept k.seat k.space did_then going at may (λ evacuating. told_evacuating c w h k.tale set kept k.seat k.space k.found going may evacuating))
      (λ at. did_after_block c x.world w h k.tale runs set kept k.seat k.space k.found adds did_then going at may)

  pub hosts_go_on : HostKept c x.world (runs ++ run_list h.left (line_after plugged h x.heard)) (host_after plugged h x.heard)
  hosts_go_on = record {
    tale = tale_heard h k.tale x.heard;
    pages = k.pages;
    cells = cells_kept c 0 w (host_action h) set kept may k.cells;
    seat = seat_on;
    space = space_on;
    found = found_on;
    takes = takes_on;
    did = did_on;
  }
