-- A lease takes a free frame into the owner's hand, where it is out for the page; a refused one changes nothing.
use Rattle.std.proofs.Common.{◌≡◌, ◌≢◌, ℕ, ◌≤◌, [], ◌∷◌, ◌++◌, sym, refl, ap, subst, arith, Option, Some, None}
use Rattle.evac_model.specs.declared.names.Kind.{Kind}
use Rattle.evac_model.specs.declared.names.PageNo.{PageNo}
use Rattle.evac_model.specs.declared.space.SpaceAction.{SpaceAction}
use Rattle.evac_model.specs.declared.space.SpaceAction.TheVariants as space
use Rattle.evac_model.specs.SpaceJournal.{SpaceState, Leased, out_for, lease_of, after_lease, Chooses}
use Rattle.core_state.specs.HandOvers.{MayHandOver}
use Rattle.core_state.specs.Views.{view_of}
use Rattle.machine.specs.Consistent.{IsSetting, IsConsistent}
use Rattle.machine.specs.Made.{lease_made}
use Rattle.machine.specs.MayMake.{MayLease}
use Rattle.machine.specs.World.{Setting, World, free_seat, space_at, space_now, is_held}
use Rattle.machine.proofs.TakenFrames.{IsTaking, taken_hands, taken_here, taken_out, taken_offline, taken_kept, taken_held}

module _ (c : Setting) (seat : ℕ) (w : World) (page : PageNo) (kind : Kind) (l : Leased) (set : IsSetting c) (kept : IsConsistent c w) (may : MayLease c seat w page) (e : lease_of c.sizes c.online (space_now c w) seat kind ≡ Some l) where
  abbrev st : SpaceState
  st = space_now c w

  abbrev entry : SpaceAction
  entry = space.Lease seat (record { 0 = l.frame }) page kind

  abbrev then : SpaceState
  then = space_at c (w.space ++ entry ∷ [])

  taking : IsTaking c w seat l entry
  taking =
      let few : seat ≤ 16 = let high = may.owner.1 in let most = set.owners in omega arith in
      record {
        actor = may.owner.1;
        rests = may.rests;
        page = page.0;
        kind = kind;
        chosen = e;
        possible = (few, may.page, subst (λ (x : Option Leased). Chooses x l.frame) (sym e) refl);
        behind = ap (λ (x : Option Leased). after_lease st x page.0 kind) e;
      }

  pub lease_hands : MayHandOver c.opening (view_of w.snapshot.views (free_seat c)) (view_of w.snapshot.views seat) l.frame 1
  lease_hands = taken_hands c w seat l entry set kept taking

  pub lease_here : out_for then l.frame ≡ Some (record { page = page.0; kind = kind })
  unfolding taking
  lease_here = taken_here c w seat l entry set kept taking

  pub lease_out : (f : ℕ) → f ≢ l.frame → out_for then f ≡ out_for st f
  lease_out = taken_out c w seat l entry set kept taking

  pub lease_offline : then.offline ≡ st.offline
  lease_offline = taken_offline c w seat l entry set kept taking

  leased_kept : IsConsistent c (lease_made c seat w page kind (Some l)).world
  leased_kept = taken_kept c w seat l entry set kept taking

  leased_held : (block : ℕ) → is_held c (lease_made c seat w page kind (Some l)).world block ≡ is_held c w block
  leased_held = taken_held c w seat l entry set kept taking

module _ (c : Setting) (seat : ℕ) (w : World) (page : PageNo) (kind : Kind) where
  pub lease_kept : (l : Option Leased) → IsSetting c → IsConsistent c w → MayLease c seat w page → lease_of c.sizes c.online (space_now c w) seat kind ≡ l → IsConsistent c (lease_made c seat w page kind l).world
  lease_kept None set kept may e = kept
  lease_kept (Some l) set kept may e = leased_kept c seat w page kind l set kept may e

  -- the driver holds the same blocks
  pub lease_held : (l : Option Leased) → IsSetting c → IsConsistent c w → MayLease c seat w page → lease_of c.sizes c.online (space_now c w) seat kind ≡ l → (block : ℕ) → is_held c (lease_made c seat w page kind l).world block ≡ is_held c w block
  lease_held None set kept may e block = refl
  lease_held (Some l) set kept may e block = leased_held c seat w page kind l set kept may e block
