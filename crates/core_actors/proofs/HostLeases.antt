-- What is in the driver's hand behind an action that an evacuation asks for: one frame more behind a target, which is out for
-- the page that is to be moved, and one less behind a frame given back.
use Rattle.std.proofs.Common.{◌≡◌, ℕ, ◌+◌, ◌<◌, nat_lt, length, refl, sym, ap, ◌∙◌, subst, arith, true≢false, inl, inr, ⊎_elim, Option, Some, None, is_some, IsSome}
use mathlib.Core.Logic.{dite}
use native.Mathlib.Decide.{ℕ_discrete}
use Rattle.std.specs.Option.{option_or}
use Rattle.evac_model.specs.declared.evacuation.EvacCause.TheVariants as causes
use Rattle.evac_model.specs.declared.evacuation.MoveLease.{MoveLease}
use Rattle.evac_model.specs.declared.names.BlockNo.{BlockNo}
use Rattle.evac_model.specs.declared.names.FrameNo.{FrameNo}
use Rattle.evac_model.specs.declared.names.Kind.TheVariants.{Movable}
use Rattle.evac_model.specs.declared.names.PageNo.{PageNo}
use Rattle.evac_model.specs.declared.space.SpaceAction.TheVariants as space
use Rattle.evac_model.specs.SpaceJournal.{Leased, lease_of}
use Rattle.evacuate.specs.declared.action.EvacAction.TheVariants as evac
use Rattle.evacuate.specs.declared.stage.Stage.{Stage}
use Rattle.evacuate.specs.declared.stage.Stage.TheVariants as stages
use Rattle.evacuate.specs.Evacuating.{Evacuating, place_of, with_word, busy_cause, action_at, round_ended, attempt_over, after_answer}
use Rattle.evacuate.specs.Found.{is_pinned}
use Rattle.evacuate.specs.Tale.{frame_back}
use Rattle.core_state.specs.declared.hand.HandFrame.{HandFrame}
use Rattle.core_state.specs.Views.{view_of, hand_frame}
use Rattle.space.specs.Refusals.{first_unmovable, next_out}
use Rattle.machine.specs.Consistent.{IsSetting, IsConsistent}
use Rattle.machine.specs.Made.{noted, isolate_made, target_made, return_made, made}
use Rattle.machine.specs.MayMake.{MayTarget, MayReturn, MayMake}
use Rattle.machine.specs.World.{Setting, World, free_seat, HasFrame, space_now, is_held}
use Rattle.machine.proofs.NotesKept.{isolate_held, undo_held}
use Rattle.machine.proofs.OneFrame.{giver_gone, giver_still, receiver_has, receiver_still}
use Rattle.machine.proofs.ReturnsKept.{return_hands, return_held}
use Rattle.machine.proofs.TargetsKept.{target_hands, target_here, target_held}
use Rattle.core_actors.specs.Hosts.{evac_action}
use Rattle.core_actors.specs.HostHears.{seen_in}
use Rattle.core_actors.specs.HostSeat.{ForPage, for_page_at, HasForPage, IsOfHeldBlock}
use Rattle.core_actors.specs.HostSpace.{IsWaiting}
use Rattle.core_actors.proofs.Cases.{if_then}
use Rattle.core_actors.proofs.HostRests.{page_at, AreInHand}

-- a frame of a block that is still held
of_block_again : (c : Setting) (w later : World) → ((b : ℕ) → is_held c later b ≡ is_held c w b) → (f : ℕ) → IsOfHeldBlock c w f → IsOfHeldBlock c later f
of_block_again c w later same f b = record { block = b.block; held = same b.block ∙ b.held; in_block = b.in_block }

-- where no frame is in hand for a page, each is of such a block
pub of_blocks : (c : Setting) (w : World) → AreInHand c w None → (f : ℕ) → HasFrame w 0 f → IsOfHeldBlock c w f
of_blocks c w hand f has = ⊎_elim (λ b. b) (λ none. absurd none) (hand f has)

-- ---- no frame changes hands

module _ (c : Setting) (w : World) (block : BlockNo) (hand : AreInHand c w None) where
  isolate_hand : (found : Option (FrameNo × PageNo)) → AreInHand c (isolate_made w block found).world None
  isolate_hand None f has = inl (of_block_again c w (isolate_made w block None).world (isolate_held c w block None) f (of_blocks c w hand f has))
  isolate_hand (Some at) f has = hand f has

  undo_hand : AreInHand c (noted w (space.Undo block)).world None
  undo_hand f has = inl (of_block_again c w (noted w (space.Undo block)).world (undo_held c w block) f (of_blocks c w hand f has))

-- ---- a target

module _ (c : Setting) (w : World) (block : BlockNo) (after : Option FrameNo) (at : FrameNo × PageNo) (l : Leased) (set : IsSetting c) (k : IsConsistent c w) (may : MayTarget c 0 w block)
    (next : next_out c.sizes (space_now c w) block.0 after ≡ Some at) (e : lease_of c.sizes c.online (space_now c w) 0 Movable ≡ Some l) where
  abbrev free : ℕ
  free = free_seat c

  abbrev later : World
  later = (target_made c w (Some at) (Some l)).world

  -- it is in hand for the page
  abbrev target : ForPage
  target = record { frame = l.frame; page = (at.1).0 }

  free_there : free < length w.snapshot.views
  free_there = let seats = k.seats in omega arith

  driver_there : 0 < length w.snapshot.views
  driver_there = let seats = k.seats in omega arith

  target_has : HasForPage c later (Some target)
  target_has = record {
    in_hand = subst (λ (x : Option HandFrame). IsSome x)
        (sym (receiver_has c.opening w.snapshot.views free 0 (λ z. omega arith) free_there driver_there l.frame (target_hands c w block after at l set k may next e)))
        ((target_hands c w block after at l set k may next e).in_hand l.frame (omega arith) (omega arith));
    out = target_here c w block after at l set k may next e;
  }

  target_hand : AreInHand c w None → AreInHand c later (Some target)
  target_hand hand f has = dite (ℕ_discrete f l.frame)
      (λ same. inr same)
      (λ ne.
      let had : HasFrame w 0 f = subst (λ (x : Option HandFrame). IsSome x) (receiver_still c.opening w.snapshot.views free 0 (λ z. omega arith) free_there driver_there l.frame (target_hands c w block after at l set k may next e) f ne) has in
      inl (of_block_again c w later (target_held c w block after (Some at) (Some l) set k may next e) f (of_blocks c w hand f had)))

-- ---- a frame given back

module _ (c : Setting) (w : World) (frame : FrameNo) (set : IsSetting c) (k : IsConsistent c w) (may : MayReturn c 0 w frame) where
  abbrev without : World
  without = (return_made c 0 w frame).world

  return_hand : (page : ℕ) → AreInHand c w (Some (record { frame = frame.0; page = page })) → AreInHand c without None
  return_hand page hand f has =
      let free : ℕ = free_seat c in
      let driver_there : 0 < length w.snapshot.views = let seats = k.seats in omega arith in
      let free_there : free < length w.snapshot.views = let seats = k.seats in omega arith in
      let hands = return_hands c 0 w frame set k may in
      dite (ℕ_discrete f frame.0)
      (λ same. absurd (true≢false (sym has ∙ ap (λ (x : Option HandFrame). is_some x)
      (ap (λ (g : ℕ). hand_frame (view_of without.snapshot.views 0) g) same ∙ giver_gone c.opening w.snapshot.views 0 free (λ z. omega arith) driver_there free_there frame.0 hands))))
      (λ ne.
      let had : HasFrame w 0 f = subst (λ (x : Option HandFrame). IsSome x) (giver_still c.opening w.snapshot.views 0 free (λ z. omega arith) driver_there free_there frame.0 hands f ne) has in
      ⊎_elim (λ b. inl (of_block_again c w without (return_held c 0 w frame set k may) f b)) (λ same. absurd (ne same)) (hand f had))

-- ---- the stage then

-- no frame is in hand for a page once a round has ended, or a frame was given back
ended_page : (e : Evacuating) (busy : Option MoveLease) → page_at (round_ended e busy).stage ≡ None
ended_page e None = refl
ended_page e (Some lease) = if_then (λ (x : Evacuating). page_at x.stage ≡ None) (nat_lt e.round 4)
    (record e { stage = stages.Leasing None; round = e.round + 1; busy = None }) (record e { stage = stages.Undoing (busy_cause e lease) }) (λ t. refl) (λ f. refl)

over_page : (e : Evacuating) (lease : MoveLease) (found : Option ℕ) → page_at (attempt_over e lease found).stage ≡ None
over_page e lease None = refl
over_page e lease (Some word) = if_then (λ (x : Evacuating). page_at x.stage ≡ None) (is_pinned word lease.from.0)
    (record e { stage = stages.Undoing (causes.Pinned lease.from lease.page word) })
    (record e { stage = stages.Leasing (Some lease.from); busy = option_or e.busy (Some lease); words = with_word e.words (place_of e.sizes e.block lease.from) e.round word }) (λ t. refl) (λ f. refl)

-- ---- any action that an evacuation asks for

-- the frame is in hand for its page, and the others are of blocks that are held
abbrev pub HasHand : Setting → World → Option ForPage → Type 0
HasHand c w x = HasForPage c w x × AreInHand c w x

module _ (c : Setting) (w : World) (e : Evacuating) (set : IsSetting c) (k : IsConsistent c w) where
  isolate_stage : (found : Option (FrameNo × PageNo)) → AreInHand c w None
      → HasHand c (isolate_made w e.block found).world (page_at (after_answer e stages.Isolating (seen_in (evac.Isolate e.block) (isolate_made w e.block found).heard)).stage)
  isolate_stage None hand = (tt, isolate_hand c w e.block hand None)
  isolate_stage (Some at) hand = (tt, hand)

  target_stage : (after : Option FrameNo) (next : Option (FrameNo × PageNo)) (l : Option Leased) → MayTarget c 0 w e.block → AreInHand c w None
      → next_out c.sizes (space_now c w) e.block.0 after ≡ next → lease_of c.sizes c.online (space_now c w) 0 Movable ≡ l
      → HasHand c (target_made c w next l).world (page_at (after_answer e (stages.Leasing after) (seen_in (evac.Lease e.block after) (target_made c w next l).heard)).stage)
  target_stage after None l may hand is chosen = subst (λ (x : Option ForPage). HasHand c w x) (sym (ended_page e e.busy)) (tt, hand)
  target_stage after (Some at) None may hand is chosen = (tt, hand)
  target_stage after (Some at) (Some l) may hand is chosen = (target_has c w e.block after at l set k may is chosen, target_hand c w e.block after at l set k may is chosen hand)

  -- by the stage
  pub evacuation_hand : (stage : Stage) → IsWaiting stage → MayMake c 0 w (evac_action (action_at e.block stage)) → AreInHand c w (for_page_at stage)
      → HasHand c (made c 0 w (evac_action (action_at e.block stage))).world (page_at (after_answer e stage (seen_in (action_at e.block stage) (made c 0 w (evac_action (action_at e.block stage))).heard)).stage)
  evacuation_hand stages.Isolating waits may hand = isolate_stage (first_unmovable c.sizes (space_now c w) e.block.0) hand
  evacuation_hand (stages.Leasing after) waits may hand =
      target_stage after (next_out c.sizes (space_now c w) e.block.0 after) (lease_of c.sizes c.online (space_now c w) 0 Movable) may hand refl refl
  evacuation_hand (stages.Moving lease) waits may hand = absurd waits
  evacuation_hand (stages.Returning attempt) waits may hand =
      subst (λ (x : Option ForPage). HasHand c (made c 0 w (evac_action (action_at e.block (stages.Returning attempt)))).world x) (sym (over_page e attempt.lease attempt.found))
      (tt, return_hand c w (frame_back attempt) set k may attempt.lease.page.0 hand)
  evacuation_hand (stages.Undoing cause) waits may hand = (tt, undo_hand c w e.block hand)
  evacuation_hand stages.Emptied waits may hand = absurd waits
  evacuation_hand (stages.Failed cause) waits may hand = absurd waits
