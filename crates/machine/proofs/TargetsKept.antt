-- A target for the next page of an isolated block takes a free frame into the driver's hand, where it is out for the page;
-- where there is no such page, or none such frame, nothing changes.
use Rattle.std.proofs.Common.{◌≡◌, ◌≢◌, ℕ, [], ◌∷◌, ◌++◌, sym, refl, ap, subst, arith, Option, Some, None}
use Rattle.evac_model.specs.declared.names.BlockNo.{BlockNo}
use Rattle.evac_model.specs.declared.names.FrameNo.{FrameNo}
use Rattle.evac_model.specs.declared.names.Kind.TheVariants.{Movable}
use Rattle.evac_model.specs.declared.names.PageNo.{PageNo}
use Rattle.evac_model.specs.declared.space.SpaceAction.{SpaceAction}
use Rattle.evac_model.specs.declared.space.SpaceAction.TheVariants as space
use Rattle.evac_model.specs.SpaceJournal.{SpaceState, Leased, out_for, lease_of, after_lease, Chooses}
use Rattle.core_state.specs.HandOvers.{MayHandOver}
use Rattle.core_state.specs.Views.{view_of}
use Rattle.space.specs.Refusals.{next_out}
use Rattle.space.proofs.NextOut.{next_isolated}
use Rattle.machine.specs.Consistent.{IsSetting, IsConsistent}
use Rattle.machine.specs.Made.{target_made}
use Rattle.machine.specs.MayMake.{MayTarget}
use Rattle.machine.specs.World.{Setting, World, free_seat, space_at, space_now, is_held}
use Rattle.machine.proofs.TakenFrames.{IsTaking, taken_hands, taken_here, taken_out, taken_offline, taken_kept, taken_held}

module _ (c : Setting) (w : World) (block : BlockNo) (after : Option FrameNo) (at : FrameNo × PageNo) (l : Leased) (set : IsSetting c) (kept : IsConsistent c w) (may : MayTarget c 0 w block)
    (next : next_out c.sizes (space_now c w) block.0 after ≡ Some at) (e : lease_of c.sizes c.online (space_now c w) 0 Movable ≡ Some l) where
  abbrev st : SpaceState
  st = space_now c w

  abbrev entry : SpaceAction
  entry = space.MoveLease (record { 0 = l.frame }) at.1

  abbrev then : SpaceState
  then = space_at c (w.space ++ entry ∷ [])

  taking : IsTaking c w 0 l entry
  taking = record {
    actor = omega arith;
    rests = may.rests;
    page = (at.1).0;
    kind = Movable;
    chosen = e;
    possible = (next_isolated c.sizes st block.0 after at may.isolated next, subst (λ (x : Option Leased). Chooses x l.frame) (sym e) refl);
    behind = ap (λ (x : Option Leased). after_lease st x (at.1).0 Movable) e;
  }

  pub target_hands : MayHandOver c.opening (view_of w.snapshot.views (free_seat c)) (view_of w.snapshot.views 0) l.frame 1
  target_hands = taken_hands c w 0 l entry set kept taking

  pub target_here : out_for then l.frame ≡ Some (record { page = (at.1).0; kind = Movable })
  unfolding taking
  target_here = taken_here c w 0 l entry set kept taking

  pub target_out : (f : ℕ) → f ≢ l.frame → out_for then f ≡ out_for st f
  target_out = taken_out c w 0 l entry set kept taking

  pub target_offline : then.offline ≡ st.offline
  target_offline = taken_offline c w 0 l entry set kept taking

  targeted_kept : IsConsistent c (target_made c w (Some at) (Some l)).world
  targeted_kept = taken_kept c w 0 l entry set kept taking

  targeted_held : (b : ℕ) → is_held c (target_made c w (Some at) (Some l)).world b ≡ is_held c w b
  targeted_held = taken_held c w 0 l entry set kept taking

module _ (c : Setting) (w : World) (block : BlockNo) (after : Option FrameNo) where
  pub target_kept : (next : Option (FrameNo × PageNo)) (l : Option Leased) → IsSetting c → IsConsistent c w → MayTarget c 0 w block
      → next_out c.sizes (space_now c w) block.0 after ≡ next → lease_of c.sizes c.online (space_now c w) 0 Movable ≡ l → IsConsistent c (target_made c w next l).world
  target_kept None l set kept may is e = kept
  target_kept (Some at) None set kept may is e = kept
  target_kept (Some at) (Some l) set kept may is e = targeted_kept c w block after at l set kept may is e

  -- the driver holds the same blocks
  pub target_held : (next : Option (FrameNo × PageNo)) (l : Option Leased) → IsSetting c → IsConsistent c w → MayTarget c 0 w block
      → next_out c.sizes (space_now c w) block.0 after ≡ next → lease_of c.sizes c.online (space_now c w) 0 Movable ≡ l → (b : ℕ) → is_held c (target_made c w next l).world b ≡ is_held c w b
  target_held None l set kept may is e b = refl
  target_held (Some at) None set kept may is e b = refl
  target_held (Some at) (Some l) set kept may is e b = targeted_held c w block after at l set kept may is e b
