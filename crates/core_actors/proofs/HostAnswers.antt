-- What the machine gives on an action that an evacuation asks for is an answer to it; and while its block is isolated, a page that
-- is leased a target was busy in the round before.
use Rattle.std.proofs.Common.{◌≡◌, ◌<◌, true, nat_lt, refl, sym, subst, arith, Option, Some, None}
use Rattle.std.proofs.lemmas.Bool.{and_from}
use Rattle.std.proofs.lemmas.Bool.Decides.{nat_tests}
use Rattle.evac_model.specs.declared.names.BlockNo.{BlockNo}
use Rattle.evac_model.specs.declared.names.FrameNo.{FrameNo}
use Rattle.evac_model.specs.declared.names.Kind.TheVariants.{Movable}
use Rattle.evac_model.specs.declared.names.PageNo.{PageNo}
use Rattle.evac_model.specs.Geometry.{Sizes}
use Rattle.evac_model.specs.SpaceJournal.{SpaceState, Leased, is_frame_of, lease_of}
use Rattle.evacuate.specs.declared.action.EvacAction.TheVariants as evac
use Rattle.evacuate.specs.declared.stage.Stage.{Stage}
use Rattle.evacuate.specs.declared.stage.Stage.TheVariants.{Isolating, Leasing, Moving, Returning, Undoing, Emptied, Failed}
use Rattle.evacuate.specs.Evacuating.{Evacuating, action_at, action_of, answers, is_answer}
use Rattle.evacuate.specs.Tale.{Tale, is_next}
use Rattle.evacuate.specs.UnderWay.{LeasedWasBusy}
use Rattle.machine.specs.Made.{isolate_made, target_made, made}
use Rattle.machine.specs.World.{Setting, World, space_now}
use Rattle.space.specs.Refusals.{first_unmovable, next_out}
use Rattle.space.proofs.NextOut.{next_is_out, next_is_behind, unmovable_in_block}
use Rattle.core_actors.specs.HostHears.{seen_in}
use Rattle.core_actors.specs.HostSpace.{AreOutByTale, IsSpaceAt, IsEmptying, IsWaiting}
use Rattle.core_actors.specs.Hosts.{HostState, evac_action}

-- ---- the next frame

-- the frame whose page gets a target is the block's next one that is out
pub next_is_next : (s : Sizes) (st : SpaceState) (b : BlockNo) (after : Option FrameNo) (found : FrameNo × PageNo) → next_out s st b.0 after ≡ Some found → is_next s b after (found.0).0 ≡ true
next_is_next s st b None found e = and_from (is_frame_of s b.0 (found.0).0) true (next_is_out s st b.0 None found e).0 refl
next_is_next s st b (Some last) found e =
    let behind : last.0 < (found.0).0 = next_is_behind s st b.0 last found e in
    and_from (is_frame_of s b.0 (found.0).0) (nat_lt last.0 (found.0).0) (next_is_out s st b.0 (Some last) found e).0 (grind (arith, nat_tests))

-- ---- what is told

module _ (c : Setting) (w : World) (e : Evacuating) (same : e.sizes ≡ c.sizes) where
  isolate_answers : (found : Option (FrameNo × PageNo)) → first_unmovable c.sizes (space_now c w) e.block.0 ≡ found → answers e.sizes e.block Isolating (seen_in (evac.Isolate e.block) (isolate_made w e.block found).heard) ≡ true
  isolate_answers None is = refl
  isolate_answers (Some at) is = subst (λ (s : Sizes). is_frame_of s e.block.0 (at.0).0 ≡ true) (sym same) (unmovable_in_block c.sizes (space_now c w) e.block.0 at is)

  target_answers : (after : Option FrameNo) (next : Option (FrameNo × PageNo)) (l : Option Leased) → next_out c.sizes (space_now c w) e.block.0 after ≡ next → answers e.sizes e.block (Leasing after) (seen_in (evac.Lease e.block after) (target_made c w next l).heard) ≡ true
  target_answers after None l is = refl
  target_answers after (Some at) None is = subst (λ (s : Sizes). is_next s e.block after (at.0).0 ≡ true) (sym same) (next_is_next c.sizes (space_now c w) e.block after at is)
  target_answers after (Some at) (Some l) is = subst (λ (s : Sizes). is_next s e.block after (at.0).0 ≡ true) (sym same) (next_is_next c.sizes (space_now c w) e.block after at is)

  answers_at : (stage : Stage) → IsWaiting stage → answers e.sizes e.block stage (seen_in (action_at e.block stage) (made c 0 w (evac_action (action_at e.block stage))).heard) ≡ true
  answers_at Isolating waits = isolate_answers (first_unmovable c.sizes (space_now c w) e.block.0) refl
  answers_at (Leasing after) waits = target_answers after (next_out c.sizes (space_now c w) e.block.0 after) (lease_of c.sizes c.online (space_now c w) 0 Movable) refl
  answers_at (Moving lease) waits = absurd waits
  answers_at (Returning attempt) waits = refl
  answers_at (Undoing why) waits = refl
  answers_at Emptied waits = absurd waits
  answers_at (Failed why) waits = absurd waits

  module _ (t : Tale) where
    isolate_busy : (found : Option (FrameNo × PageNo)) → LeasedWasBusy t (seen_in (evac.Isolate e.block) (isolate_made w e.block found).heard)
    isolate_busy None = tt
    isolate_busy (Some at) = tt

    target_busy : (after : Option FrameNo) (next : Option (FrameNo × PageNo)) (l : Option Leased) → AreOutByTale (space_now c w) e t → next_out c.sizes (space_now c w) e.block.0 after ≡ next → LeasedWasBusy t (seen_in (evac.Lease e.block after) (target_made c w next l).heard)
    target_busy after None l out is = tt
    target_busy after (Some at) None out is = tt
    target_busy after (Some at) (Some l) out is =
        let there = next_is_out c.sizes (space_now c w) e.block.0 after at is in
        (out (at.0).0 (record { page = (at.1).0; kind = there.1 }) (subst (λ (s : Sizes). is_frame_of s e.block.0 (at.0).0 ≡ true) (sym same) there.0) there.2).before

    busy_at : (stage : Stage) → IsWaiting stage → IsSpaceAt (space_now c w) e t stage → LeasedWasBusy t (seen_in (action_at e.block stage) (made c 0 w (evac_action (action_at e.block stage))).heard)
    busy_at Isolating waits out = isolate_busy (first_unmovable c.sizes (space_now c w) e.block.0)
    busy_at (Leasing after) waits out = target_busy after (next_out c.sizes (space_now c w) e.block.0 after) (lease_of c.sizes c.online (space_now c w) 0 Movable) out refl
    busy_at (Moving lease) waits out = absurd waits
    busy_at (Returning attempt) waits out = tt
    busy_at (Undoing why) waits out = tt
    busy_at Emptied waits out = absurd waits
    busy_at (Failed why) waits out = absurd waits

module _ (c : Setting) (w : World) (h : HostState) (t : Tale) (p : IsEmptying c w h t) (waits : IsWaiting h.evacuation.stage) where
  pub seen_answers : is_answer h.evacuation (seen_in (action_of h.evacuation) (made c 0 w (evac_action (action_of h.evacuation))).heard) ≡ true
  seen_answers = answers_at c w h.evacuation p.sizes h.evacuation.stage waits

  pub leased_was_busy : LeasedWasBusy t (seen_in (action_of h.evacuation) (made c 0 w (evac_action (action_of h.evacuation))).heard)
  leased_was_busy = busy_at c w h.evacuation p.sizes t h.evacuation.stage waits p.space
