-- What the driver's seat has while the frames of a block that was taken away are zeroed.
use Rattle.std.proofs.Common.{◌≡◌, ℕ, zero, suc, ◌+◌, nat_lt, [], ◌∷◌, ◌++◌, ap, ◌∙◌, Option, None}
use Rattle.evac_model.specs.declared.names.FrameNo.{FrameNo}
use Rattle.evac_model.specs.Geometry.{first_frame}
use Rattle.core_state.specs.declared.held.Held.{Held}
use Rattle.core_state.specs.declared.keeper.Keeper.TheVariants.{OneOwner}
use Rattle.core_state.specs.declared.step.Step.TheVariants as steps
use Rattle.core_state.specs.declared.view.View.{View}
use Rattle.core_state.specs.Steps.{with_store, view_after}
use Rattle.host_work.specs.Requests.{emptied_lines}
use Rattle.machine.specs.Consistent.{IsConsistent}
use Rattle.machine.specs.Made.{step_made}
use Rattle.machine.specs.World.{Setting, World}
use Rattle.core_actors.specs.declared.host_place.HostPlace.{HostPlace}
use Rattle.core_actors.specs.declared.host_place.HostPlace.TheVariants as places
use Rattle.core_actors.specs.Hosts.{HostState, with_next_block, next_block}
use Rattle.core_actors.specs.HostHears.{zeroed_on, marked_on}
use Rattle.core_actors.specs.HostSeat.{IsViewAt, HostSeat}
use Rattle.core_actors.proofs.Cases.{if_then}
use Rattle.core_actors.proofs.Unmarked.{unmarked_now, marked_now, more_unmarked}
use Rattle.core_actors.proofs.HostViews.{driver_of, Drives, seat_stepped}

module _ (c : Setting) (w : World) (h : HostState) (frame : FrameNo) (k : IsConsistent c w) (d : Drives c w (driver_of w) None) where
  abbrev v : View
  v = driver_of w

  pub seat_zeroed : (cell : ℕ) → IsViewAt c.opening v (places.Zeroing frame cell) → HostSeat c (step_made c 0 w (steps.Store frame cell 0)).world (record h { place = zeroed_on h frame cell })
  seat_zeroed cell at =
      let held = ap (λ (m : Option Held). with_store m frame.0 cell 0) at.0 in
      let marks = unmarked_now v frame cell at.1 in
      if_then (λ (x : HostPlace). HostSeat c (step_made c 0 w (steps.Store frame cell 0)).world (record h { place = x })) (nat_lt (cell + 1) h.sizes.cells) (places.Zeroing frame (cell + 1)) (places.MarkingZeros frame)
      (λ t. seat_stepped c w k (record h { place = places.Zeroing frame (cell + 1) }) (steps.Store frame cell 0) tt d (held, marks ∙ more_unmarked cell frame))
      (λ f. seat_stepped c w k (record h { place = places.MarkingZeros frame }) (steps.Store frame cell 0) tt d (held, marks))

  module _ (at : IsViewAt c.opening v (places.MarkingZeros frame)) where
    marks_gone : (view_after OneOwner v (steps.Mark frame) 0).unmarked ≡ []
    marks_gone = marked_now v frame 1 at.1

    -- behind the block the next one is emptied, or the device is asked
    next_seat : (waiting : ℕ) (g : HostState) → HostSeat c (step_made c 0 w (steps.Mark frame)).world (with_next_block waiting g)
    next_seat zero g = seat_stepped c w k (with_next_block zero g) (steps.Mark frame) tt d (at.0, marks_gone)
    next_seat (suc n) g = seat_stepped c w k (with_next_block (suc n) g) (steps.Mark frame) tt d (at.0, marks_gone)

    pub seat_zeros_marked : HostSeat c (step_made c 0 w (steps.Mark frame)).world (marked_on h frame)
    seat_zeros_marked =
        let next : HostState = record h { place = places.Zeroing (record { 0 = frame.0 + 1 }) 0 } in
        let done : HostState = record h { tried = h.tried ++ emptied_lines (h.evacuation.block.0 ∷ []) } in
        if_then (λ (x : HostState). HostSeat c (step_made c 0 w (steps.Mark frame)).world x) (nat_lt (frame.0 + 1) (first_frame h.sizes h.evacuation.block.0 + h.sizes.block)) next (next_block done)
        (λ t. seat_stepped c w k next (steps.Mark frame) tt d (at.0, marks_gone))
        (λ f. next_seat h.waiting done)
