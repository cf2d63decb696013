-- What the driver's seat has behind each step of a move, and of the zeros.
use Rattle.std.proofs.Common.{◌≡◌, ℕ, false, List, [], ◌∷◌, Some}
use Rattle.std.specs.Prelude.{⊤}
use Rattle.evac_model.specs.declared.evacuation.MoveLease.{MoveLease}
use Rattle.evac_model.specs.declared.host.HostCommand.{HostCommand}
use Rattle.evacuate.specs.Tale.{Tale}
use Rattle.machine.specs.CellNumbers.{HaveNumbersInCells}
use Rattle.machine.specs.Consistent.{IsSetting, IsConsistent}
use Rattle.machine.specs.Made.{made}
use Rattle.machine.specs.MayMake.{MayMake}
use Rattle.machine.specs.World.{Setting, World, device_now}
use Rattle.core_actors.specs.declared.host_place.HostPlace.{HostPlace}
use Rattle.core_actors.specs.declared.host_place.HostPlace.TheVariants as places
use Rattle.core_actors.specs.declared.host_place.MovePlace.{MovePlace}
use Rattle.core_actors.specs.declared.host_place.MovePlace.TheVariants.{Taking, Beginning, Loading, Storing, Marking, Remapping, Releasing}
use Rattle.core_actors.specs.Hosts.{HostState, has_none, host_ended, move_action, action_at, action_for, host_action}
use Rattle.core_actors.specs.HostHears.{moved, heard_at, heard_for, host_after}
use Rattle.core_actors.specs.HostSeat.{frame_moving, for_page_in, IsMovingAt, IsViewAt, HostSeat}
use Rattle.core_actors.specs.HostSpace.{IsPlacedAt, HostSpace}
use Rattle.core_actors.proofs.HostViews.{driver_of, Drives, drives_now}
use Rattle.core_actors.proofs.HostTakes.{seat_taken, seat_released}
use Rattle.core_actors.proofs.HostCopies.{seat_begun, seat_loaded, seat_stored, seat_marked}
use Rattle.core_actors.proofs.HostRemaps.{seat_remapped}
use Rattle.core_actors.proofs.HostZeros.{seat_zeroed, seat_zeros_marked}

-- the places at which the driver makes a step on words or on a mapping
abbrev pub IsStepPlace : HostPlace → Type 0
IsStepPlace places.Asking = ⊥
IsStepPlace places.Evacuating = ⊥
IsStepPlace (places.Moving lease at) = ⊤
IsStepPlace places.TakingAway = ⊥
IsStepPlace (places.Zeroing frame cell) = ⊤
IsStepPlace (places.MarkingZeros frame) = ⊤
IsStepPlace (places.PuttingOnline result) = ⊥

module _ (c : Setting) (w : World) (h : HostState) (t : Tale) (set : IsSetting c) (k : IsConsistent c w) (numbers : HaveNumbersInCells c w.snapshot.words) (sizes : h.sizes ≡ c.sizes) (plugged : List ℕ) where
  -- a move
  move_at : (lease : MoveLease) (at : MovePlace) → IsMovingAt c.opening (driver_of w) lease at → Drives c w (driver_of w) (Some (record { frame = (frame_moving lease at).0; page = lease.page.0 })) → IsPlacedAt c w h t (places.Moving lease at)
      → MayMake c 0 w (move_action lease at) → HostSeat c (made c 0 w (move_action lease at)).world (moved plugged h lease at (made c 0 w (move_action lease at)).heard).state
  move_at lease Taking view d placed may = seat_taken c w h t lease set k placed.0 placed.1 plugged d view may
  move_at lease Beginning view d placed may = seat_begun c w h lease k d set view
  move_at lease (Loading cell) view d placed may = seat_loaded c w h lease k d cell view numbers
  move_at lease (Storing cell value) view d placed may = seat_stored c w h lease k d cell value view sizes set
  move_at lease Marking view d placed may = seat_marked c w h lease k d view
  move_at lease Remapping view d placed may = seat_remapped c w h lease set k d view
  move_at lease (Releasing came) view d placed may = seat_released c w h lease k view.0 plugged came placed.1 placed.2 d

  step_at : (command : HostCommand) (place : HostPlace) → IsStepPlace place → IsViewAt c.opening (driver_of w) place → Drives c w (driver_of w) (for_page_in h place) → IsPlacedAt c w h t place
      → MayMake c 0 w (action_at command h place) → HostSeat c (made c 0 w (action_at command h place)).world (heard_at plugged command h place (made c 0 w (action_at command h place)).heard).state
  step_at command places.Asking its view d placed may = absurd its
  step_at command places.Evacuating its view d placed may = absurd its
  step_at command (places.Moving lease at) its view d placed may = move_at lease at view d placed may
  step_at command places.TakingAway its view d placed may = absurd its
  step_at command (places.Zeroing frame cell) its view d placed may = seat_zeroed c w h frame k d cell view
  step_at command (places.MarkingZeros frame) its view d placed may = seat_zeros_marked c w h frame k d view
  step_at command (places.PuttingOnline result) its view d placed may = absurd its

  step_for : (left : List HostCommand) → has_none left ≡ false → IsStepPlace h.place → IsViewAt c.opening (driver_of w) h.place → Drives c w (driver_of w) (for_page_in h h.place) → IsPlacedAt c w h t h.place
      → MayMake c 0 w (action_for left h) → HostSeat c (made c 0 w (action_for left h)).world (heard_for plugged left h (made c 0 w (action_for left h)).heard).state
  step_for [] going its view d placed may = absurd cc
  step_for (command ∷ commands) going its view d placed may = step_at command h.place its view d placed may

pub seat_after_step : (c : Setting) (w : World) (h : HostState) (t : Tale) → IsSetting c → IsConsistent c w → HaveNumbersInCells c w.snapshot.words → HostSeat c w h → HostSpace c w h t → host_ended h ≡ false → IsStepPlace h.place → MayMake c 0 w (host_action h)
    → HostSeat c (made c 0 w (host_action h)).world (host_after (device_now c (made c 0 w (host_action h)).world).plugged h (made c 0 w (host_action h)).heard)
seat_after_step c w h t set k numbers seat space going its may =
    step_for c w h t set k numbers space.sizes (device_now c (made c 0 w (host_action h)).world).plugged h.left going its seat.view (drives_now c w h seat) space.place may
