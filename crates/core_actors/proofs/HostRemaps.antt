-- What the driver's seat has behind a remap: the page is as it was, in the target, and the old frame is in hand for it.
use Rattle.std.proofs.Common.{◌≡◌, ◌≢◌, ◌⊎◌, ℕ, ◌<◌, ◌==◌, List, length, length-set, get_or, get_or-set_same, get_or-set_other, set, refl, sym, ap, ◌∙◌, subst, inl, inr, ⊎_elim, arith, Option, None, Some, is_some, IsSome, IsSomeAnd}
use mathlib.Core.Logic.{dite}
use native.Mathlib.Decide.{ℕ_discrete}
use Rattle.evac_model.specs.declared.evacuation.MoveLease.{MoveLease}
use Rattle.evac_model.specs.declared.names.Kind.TheVariants.{Movable}
use Rattle.evac_model.specs.declared.names.PageNo.{PageNo}
use Rattle.evac_model.specs.Page.{kind_of}
use Rattle.evac_model.specs.SpaceJournal.{out_for}
use Rattle.evac_words.specs.Word.{unmovable_bit, frame_of}
use Rattle.core_state.specs.declared.hand.HandFrame.{HandFrame}
use Rattle.core_state.specs.declared.held.Change.{Change}
use Rattle.core_state.specs.declared.held.Held.{Held}
use Rattle.core_state.specs.declared.keeper.Keeper.TheVariants.{OneOwner}
use Rattle.core_state.specs.declared.step.MoveStep.TheVariants as moves
use Rattle.core_state.specs.declared.view.View.{View}
use Rattle.core_state.specs.MoveSteps.{let_out, moved, held_after_remap, hand_after_remap, view_after_move}
use Rattle.core_state.specs.Pages.{mapped_as}
use Rattle.core_state.specs.Steps.{MayLetGo}
use Rattle.core_state.specs.Views.{hand_frame}
use Rattle.core_state.specs.Words.{remapped_word}
use Rattle.core_state.proofs.Frames.{maps_to-one}
use Rattle.core_state.proofs.FrameSteps.{hand-set_same}
use Rattle.machine.specs.Consistent.{IsSetting, IsConsistent}
use Rattle.machine.specs.Made.{move_made}
use Rattle.machine.specs.World.{Setting, World, space_now}
use Rattle.machine.proofs.MovesKept.{held_out}
use Rattle.core_actors.specs.declared.host_place.HostPlace.TheVariants as places
use Rattle.core_actors.specs.declared.host_place.MovePlace.TheVariants.{Remapping, Releasing}
use Rattle.core_actors.specs.Hosts.{HostState}
use Rattle.core_actors.specs.HostSeat.{IsOfHeldBlock, IsMovingAt, HostSeat}
use Rattle.core_actors.proofs.HostViews.{driver_of, driver_there, driver_as, held_low, held_frame_low, held_elsewhere, Drives, seat_moved}
use Rattle.core_actors.proofs.HostTakes.{untouched}
use Rattle.core_actors.proofs.HostCopies.{Copies, copies}

module _ (c : Setting) (w : World) (h : HostState) (lease : MoveLease) (set_is : IsSetting c) (k : IsConsistent c w) (d : Drives c w (driver_of w) (Some (record { frame = lease.target.0; page = lease.page.0 })))
    (at : IsMovingAt c.opening (driver_of w) lease Remapping) where
  abbrev v : View
  v = driver_of w

  q : Copies c.opening v lease c.opening.cells
  q = copies c.opening v lease c.opening.cells at.1

  abbrev from : ℕ
  from = frame_of (q.page).word

  abbrev u : View
  u = view_after_move OneOwner v (moves.Remap lease.target)

  -- ---- the page

  abbrev page : Held
  page = record q.page { word = remapped_word (q.page).word lease.target.0; change = moved (q.page).change }

  held_now : u.held ≡ Some page
  held_now = ap (λ (m : Option Held). held_after_remap m lease.target.0) q.held

  may_go : MayLetGo c.opening u page
  may_go = record {
    still = omega arith;
    undrawn = q.to_move.undrawn;
    right = d.driver.rights (q.page).page.0 (held_low c w k q.page q.held);
    untouched = untouched c.opening page q.to_move.stores (λ m. ap (λ (x : Change). mapped_as c.opening.cells (moved x) m) q.to_move.change);
  }

  -- ---- the hand

  abbrev less : List (Option HandFrame)
  less = set v.hand lease.target.0 None

  abbrev more : List (Option HandFrame)
  more = set less from (Some (let_out OneOwner v.cells q.page))

  hand_now : u.hand ≡ more
  hand_now = ap (λ (m : Option Held). hand_after_remap OneOwner v m lease.target.0) q.held

  has_place : from < length less
  has_place =
      let none : Option HandFrame = None in
      let long = length-set v.hand lease.target.0 none in
      let hand = d.driver.seated.hand in
      let low = held_frame_low c w k q.page q.held q.to_move.mapped in
      omega arith

  -- the old frame isn't the target
  apart : lease.target.0 ≢ from
  apart e = absurd (
      let none = held_elsewhere c w k q.page q.held lease.target.0 q.target q.in_hand in
      let one = maps_to-one lease.target.0 (q.page).word q.to_move.mapped (sym e) in
      omega arith)

  at_old : hand_frame u from ≡ Some (let_out OneOwner v.cells q.page)
  at_old = ap (λ (l : List (Option HandFrame)). get_or l from None) hand_now ∙ get_or-set_same less from (Some (let_out OneOwner v.cells q.page)) None has_place

  at_target : hand_frame u lease.target.0 ≡ None
  at_target =
      ap (λ (l : List (Option HandFrame)). get_or l lease.target.0 None) hand_now
      ∙ (get_or-set_other less from lease.target.0 (Some (let_out OneOwner v.cells q.page)) None apart
      ∙ hand-set_same v.hand lease.target.0 None (λ none. refl))

  at_others : (f : ℕ) → f ≢ from → f ≢ lease.target.0 → hand_frame u f ≡ hand_frame v f
  at_others f old new =
      ap (λ (l : List (Option HandFrame)). get_or l f None) hand_now
      ∙ (get_or-set_other less from f (Some (let_out OneOwner v.cells q.page)) None old
      ∙ get_or-set_other v.hand lease.target.0 f None None new)

  -- ---- the seat

  out_now : out_for (space_now c w) from ≡ Some (record { page = lease.page.0; kind = Movable })
  out_now =
      held_out c w set_is k 0 v q.page (driver_there c w k) q.held q.to_move.mapped
      ∙ (ap (λ (p : PageNo). Some (record { page = p.0; kind = kind_of (unmovable_bit (q.page).word == 0) })) q.to_move.page
      ∙ ap (λ (bit : ℕ). Some (record { page = lease.page.0; kind = kind_of (bit == 0) })) q.to_move.movable)

  in_hand : (f : ℕ) → IsSome (hand_frame u f) → IsOfHeldBlock c w f ⊎ (f ≡ from)
  in_hand f some = dite (ℕ_discrete f from)
      (λ e. inr e)
      (λ old. dite (ℕ_discrete f lease.target.0)
      (λ e. absurd (let gone : hand_frame u f ≡ None = ap (λ (g : ℕ). hand_frame u g) e ∙ at_target in cc))
      (λ new. ⊎_elim (λ b. inl b) (λ e. absurd (new e)) (d.hand f (subst (λ (x : Option HandFrame). IsSome x) (at_others f old new) some))))

  drives_from : Drives c w u (Some (record { frame = from; page = lease.page.0 }))
  drives_from = record {
    driver = driver_as c.opening v u refl (ap (λ (l : List (Option HandFrame)). length l) hand_now ∙ (length-set less from (Some (let_out OneOwner v.cells q.page)) ∙ length-set v.hand lease.target.0 None)) refl refl refl refl d.driver;
    has = (ap (λ (x : Option HandFrame). is_some x) at_old, out_now);
    hand = in_hand;
  }

  pub seat_remapped : HostSeat c (move_made 0 w (moves.Remap lease.target)).world (record h { place = places.Moving lease (Releasing None) })
  seat_remapped = seat_moved c w k (record h { place = places.Moving lease (Releasing None) }) (moves.Remap lease.target)
      (subst (λ (f : ℕ). Drives c w u (Some (record { frame = f; page = lease.page.0 }))) q.to_move.frame drives_from)
      (at.0, subst (λ (m : Option Held). IsSomeAnd m (MayLetGo c.opening u)) (sym held_now) may_go)
