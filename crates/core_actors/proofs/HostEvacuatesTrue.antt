-- What the machine gives on an action that an evacuation asks for is true, so that all that it was told is true behind the action.
use Rattle.std.proofs.Common.{◌≡◌, ℕ, zero, suc, ◌+◌, Bool, true, false, true≢false, cond, not, List, [], ◌∷◌, get_or, refl, sym, ap, ◌∙◌, subst, Option, Some, None}
use Rattle.std.specs.List.{filter}
use Rattle.std.proofs.lemmas.Bool.{false≢true}
use Rattle.evac_model.specs.declared.host.HostCommand.{HostCommand}
use Rattle.evac_model.specs.declared.names.FrameNo.{FrameNo}
use Rattle.evac_model.specs.declared.names.Kind.{Kind}
use Rattle.evac_model.specs.declared.names.Kind.TheVariants.{Movable, Unmovable}
use Rattle.evac_model.specs.declared.names.PageNo.{PageNo}
use Rattle.evac_model.specs.Geometry.{Sizes}
use Rattle.evac_model.specs.Page.{is_movable}
use Rattle.evac_model.specs.SpaceJournal.{SpaceState, Out, Leased, IsLeasable, out_for, is_frame_of, lease_of}
use Rattle.evacuate.specs.declared.action.EvacAction.TheVariants as evac
use Rattle.evacuate.specs.declared.seen.EvacSeen.{EvacSeen}
use Rattle.evacuate.specs.declared.stage.Stage.{Stage}
use Rattle.evacuate.specs.declared.stage.Stage.TheVariants.{Isolating, Leasing, Moving, Returning, Undoing, Emptied, Failed}
use Rattle.evacuate.specs.Evacuating.{Evacuating, action_at, action_of, evacuation_after}
use Rattle.evacuate.specs.Tale.{Tale}
use Rattle.evacuate.specs.UnderWay.{tale_after}
use Rattle.page_blocks.specs.Marks.{with_frame, frames_out, is_unmovable, first_page}
use Rattle.space.specs.JournaledSpace.{JournaledSpace}
use Rattle.space.specs.Refusals.{first_unmovable, next_out}
use Rattle.space.proofs.Leases.{refused_none}
use Rattle.space.proofs.NextOut.{next_is_out}
use Rattle.machine.specs.Consistent.{IsSetting, IsConsistent}
use Rattle.machine.specs.Made.{Made, isolate_made, target_made, made}
use Rattle.machine.specs.MayMake.{MayMake}
use Rattle.machine.specs.World.{Setting, World, space_now}
use Rattle.machine.proofs.SpaceNow.{space_is}
use Rattle.core_actors.specs.declared.host_place.HostPlace.{HostPlace}
use Rattle.core_actors.specs.declared.host_place.HostPlace.TheVariants as places
use Rattle.core_actors.specs.HostFound.{HasToldTrue, HostFound}
use Rattle.core_actors.specs.HostHears.{seen_in}
use Rattle.core_actors.specs.HostSeat.{HostSeat}
use Rattle.core_actors.specs.HostSpace.{AreOutByTale, IsSpaceAt, IsWaiting, HostSpace}
use Rattle.core_actors.specs.Hosts.{HostState, evac_action, host_ended, host_action}
use Rattle.core_actors.proofs.HostAnswers.{seen_answers, leased_was_busy}
use Rattle.core_actors.proofs.HostAnswersTrue.{IsTrueAnswer, told_true}
use Rattle.core_actors.proofs.HostGrows.{driver_adds}
use Rattle.core_actors.proofs.HostMakes.{makes}

-- ---- the frame that refuses an isolation

kind_unmovable : (kind : Kind) → not (is_movable kind) ≡ true → kind ≡ Unmovable
kind_unmovable Movable is = absurd (false≢true is)
kind_unmovable Unmovable is = refl

abbrev IsOutThere : List (Option Out) → FrameNo × PageNo → Type 0
IsOutThere out x = get_or out (x.0).0 None ≡ Some (record { page = (x.1).0; kind = Unmovable })

first_is_out : (out : List (Option Out)) (first n : ℕ) (at : FrameNo × PageNo) → first_page (filter is_unmovable (frames_out out first n)) ≡ Some at → IsOutThere out at
first_is_out out first zero at e = absurd (cc e)
first_is_out out first (suc n) at e = found (get_or out first None) refl e (λ later. first_is_out out (first + 1) n at later)
  where
    rest : List (ℕ × Out)
    rest = filter is_unmovable (frames_out out (first + 1) n)

    here : (o : Out) → get_or out first None ≡ Some o → is_unmovable (first, o) ≡ true → first_page ((first, o) ∷ rest) ≡ Some at → IsOutThere out at
    here o there is e =
        let frame : FrameNo = record { 0 = first } in
        let page : PageNo = record { 0 = o.page } in
        let same : (frame, page) ≡ at = cc e in
        subst (λ (x : FrameNo × PageNo). IsOutThere out x) same (there ∙ ap (λ (kind : Kind). Some (record { page = o.page; kind = kind })) (kind_unmovable o.kind is))

    tested : (o : Out) (t : Bool) → get_or out first None ≡ Some o → is_unmovable (first, o) ≡ t → first_page (cond t ((first, o) ∷ rest) rest) ≡ Some at → (first_page rest ≡ Some at → IsOutThere out at) → IsOutThere out at
    tested o true there is e later = here o there is e
    tested o false there is e later = later e

    found : (o : Option Out) → get_or out first None ≡ o → first_page (filter is_unmovable (with_frame first o (frames_out out (first + 1) n))) ≡ Some at → (first_page rest ≡ Some at → IsOutThere out at) → IsOutThere out at
    found None there e later = later e
    found (Some o) there e later = tested o (is_unmovable (first, o)) there refl e later

-- ---- what is told

module _ (c : Setting) (w : World) (set : IsSetting c) (kept : IsConsistent c w) (e : Evacuating) (t : Tale) (same : e.sizes ≡ c.sizes) where
  abbrev st : SpaceState
  st = space_now c w

  isolate_true : (first : Option (FrameNo × PageNo)) → first_unmovable c.sizes st e.block.0 ≡ first
      → IsTrueAnswer c w (isolate_made w e.block first).world e t Isolating (seen_in (evac.Isolate e.block) (isolate_made w e.block first).heard)
  isolate_true None is = tt
  isolate_true (Some at) is = first_is_out st.out _ c.sizes.block at is

  -- the next frame is out for a movable page
  next_movable : (after : Option FrameNo) (at : FrameNo × PageNo) → AreOutByTale st e t → next_out c.sizes st e.block.0 after ≡ Some at → out_for st (at.0).0 ≡ Some (record { page = (at.1).0; kind = Movable })
  next_movable after at out is =
      let there = next_is_out c.sizes st e.block.0 after at is in
      let movable : there.1 ≡ Movable = (out (at.0).0 (record { page = (at.1).0; kind = there.1 }) (subst (λ (s : Sizes). is_frame_of s e.block.0 (at.0).0 ≡ true) (sym same) there.0) there.2).movable in
      there.2 ∙ ap (λ (kind : Kind). Some (record { page = (at.1).0; kind = kind })) movable

  -- the space with its journal
  abbrev space_here : JournaledSpace
  space_here = record { sizes = c.sizes; online = c.online; opening = c.space; journal = w.space }

  none_free : lease_of c.sizes c.online st 0 Movable ≡ None → (free : ℕ) → ¬ IsLeasable c.sizes c.online st Movable free
  none_free none = (refused_none space_here 0 Movable set.limits (space_is c w set kept)).0 none

  target_true : (after : Option FrameNo) (next : Option (FrameNo × PageNo)) (l : Option Leased) → AreOutByTale st e t → MayMake c 0 w (evac_action (evac.Lease e.block after)) → next_out c.sizes st e.block.0 after ≡ next → lease_of c.sizes c.online st 0 Movable ≡ l
      → IsTrueAnswer c w (target_made c w next l).world e t (Leasing after) (seen_in (evac.Lease e.block after) (target_made c w next l).heard)
  target_true after None l out may is chosen = tt
  target_true after (Some at) None out may is chosen = (refl, may.isolated, next_movable after at out is, none_free chosen)
  target_true after (Some at) (Some l) out may is chosen = (may.isolated, next_movable after at out is, refl)

  true_at : (stage : Stage) → IsWaiting stage → IsSpaceAt st e t stage → MayMake c 0 w (evac_action (action_at e.block stage))
      → IsTrueAnswer c w (made c 0 w (evac_action (action_at e.block stage))).world e t stage (seen_in (action_at e.block stage) (made c 0 w (evac_action (action_at e.block stage))).heard)
  true_at Isolating waits out may = isolate_true (first_unmovable c.sizes st e.block.0) refl
  true_at (Leasing after) waits out may = target_true after (next_out c.sizes st e.block.0 after) (lease_of c.sizes c.online st 0 Movable) out may refl refl
  true_at (Moving lease) waits out may = absurd waits
  true_at (Returning attempt) waits out may = tt
  true_at (Undoing why) waits out may = tt
  true_at Emptied waits out may = absurd waits
  true_at (Failed why) waits out may = absurd waits

-- ---- the action of a host

-- what was told is true in the world behind it
abbrev IsToldTrue : Setting → Made → HostState → Tale → Type 0
IsToldTrue c x h t = HasToldTrue c x.world (evacuation_after h.evacuation (seen_in (action_of h.evacuation) x.heard)) (tale_after h.evacuation t (seen_in (action_of h.evacuation) x.heard))

module _ (c : Setting) (w : World) (g : HostState) (t : Tale) (set : IsSetting c) (kept : IsConsistent c w) where
  abbrev placed : List HostCommand → HostPlace → HostState
  placed left place = record g { left = left; place = place }

  evacuating : (left : List HostCommand) → HostSeat c w (placed left places.Evacuating) → HostSpace c w (placed left places.Evacuating) t → HostFound c w (placed left places.Evacuating) t → MayMake c 0 w (evac_action (action_of g.evacuation))
      → IsToldTrue c (made c 0 w (evac_action (action_of g.evacuation))) (placed left places.Evacuating) t
  evacuating left seat space found may =
      let x : Made = made c 0 w (evac_action (action_of g.evacuation)) in
      let h : HostState = placed left places.Evacuating in
      let what : EvacSeen = seen_in (action_of g.evacuation) x.heard in
      told_true c w x.world g.evacuation t what space.place.0.sizes space.place.0.goes_by
      (seen_answers c w h t space.place.0 space.place.1) (leased_was_busy c w h t space.place.0 space.place.1)
      found.place (driver_adds c w (evac_action (action_of g.evacuation)) set kept seat.driver may) (makes c w (action_of g.evacuation)).0
      (true_at c w set kept g.evacuation t space.place.0.sizes g.evacuation.stage space.place.1 space.place.0.space may)

  at_place : (left : List HostCommand) (place : HostPlace) → HostSeat c w (placed left place) → HostSpace c w (placed left place) t → HostFound c w (placed left place) t → host_ended (placed left place) ≡ false → MayMake c 0 w (host_action (placed left place)) → place ≡ places.Evacuating
      → IsToldTrue c (made c 0 w (host_action (placed left place))) (placed left place) t
  at_place [] place seat space found going may is = absurd (true≢false going)
  at_place (command ∷ cs) places.Asking seat space found going may is = absurd (cc is)
  at_place (command ∷ cs) places.Evacuating seat space found going may is = evacuating (command ∷ cs) seat space found may
  at_place (command ∷ cs) (places.Moving lease at) seat space found going may is = absurd (cc is)
  at_place (command ∷ cs) places.TakingAway seat space found going may is = absurd (cc is)
  at_place (command ∷ cs) (places.Zeroing frame cell) seat space found going may is = absurd (cc is)
  at_place (command ∷ cs) (places.MarkingZeros frame) seat space found going may is = absurd (cc is)
  at_place (command ∷ cs) (places.PuttingOnline result) seat space found going may is = absurd (cc is)

pub told_evacuating : (c : Setting) (w : World) (h : HostState) (t : Tale) → IsSetting c → IsConsistent c w → HostSeat c w h → HostSpace c w h t → HostFound c w h t → host_ended h ≡ false → MayMake c 0 w (host_action h) → h.place ≡ places.Evacuating
    → let x : Made = made c 0 w (host_action h) in
    HasToldTrue c x.world (evacuation_after h.evacuation (seen_in (action_of h.evacuation) x.heard)) (tale_after h.evacuation t (seen_in (action_of h.evacuation) x.heard))
told_evacuating c w h t set kept seat space found going may is = at_place c w h t set kept h.left h.place seat space found going may is
