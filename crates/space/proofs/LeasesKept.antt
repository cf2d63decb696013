-- What a lease leaves of a space that is kept.
use Rattle.std.proofs.Common.{◌≡◌, ℕ, zero, suc, ◌+◌, ◌<◌, Bool, not, ◌&&◌, List, [], ◌∷◌, length, get_or, refl, sym, ap, ◌∙◌, subst, arith, Option, Some, None}
use Rattle.std.specs.List.{count_by}
use Rattle.std.specs.Option.{is_some, option_map}
use Rattle.std.proofs.Math.ListN.{set}
use Rattle.evac_model.specs.declared.names.FrameNo.{FrameNo}
use Rattle.evac_model.specs.declared.names.Kind.{Kind}
use Rattle.evac_model.specs.declared.names.PageNo.{PageNo}
use Rattle.evac_model.specs.declared.space.SpaceAction.TheVariants.{Lease}
use Rattle.evac_model.specs.Geometry.{Sizes, IsWithinLimits, frame_count}
use Rattle.evac_model.specs.SpaceJournal.{SpaceState, Out, Leased, lease_of, after_lease, Chooses}
use Rattle.buddy.specs.FreeFrames.{FreeFrames}
use Rattle.page_blocks.specs.Marks.{Marks}
use Rattle.space.specs.JournaledSpace.{JournaledSpace, space_state, IsLeasableFor}
use Rattle.space.specs.KeptSpace.{KeptSpace, behind, AreOf}
use Rattle.space.specs.KeptJournal.{IsLeftBy}
use Rattle.space.specs.SpaceInside.{IsSpace, IsOwed, runs_of}
use Rattle.space.proofs.Journals.{count_set}
use Rattle.space.proofs.Leases.{IsGoodLease, lease_good, leased_free, refused_none}
use Rattle.space.proofs.RunsOfSpaces.{runs_are, is_free, is_aside, is_isolated, is_cached}

-- a lease that gave a frame, and one that gave none
pub record IsLeaseOf (lease : Option Leased) (frame : ℕ) : Type 0 where
  pub leased : Leased
  pub is : lease ≡ Some leased
  pub gave : leased.frame ≡ frame

pub lease_chosen : (lease : Option Leased) (frame : ℕ) → Chooses lease frame → IsLeaseOf lease frame
lease_chosen None frame h = absurd h
lease_chosen (Some l) frame h = record { leased = l; is = refl; gave = h }

abbrev pub frame_of_lease : Leased → FrameNo
frame_of_lease l = record { 0 = l.frame }

pub lease_gave : (lease : Option Leased) (frame : FrameNo) → Some frame ≡ option_map frame_of_lease lease → IsLeaseOf lease frame.0
lease_gave None frame e = absurd (cc e)
lease_gave (Some l) frame e =
    let same : frame ≡ frame_of_lease l = cc e in record { leased = l; is = refl; gave = ap (λ (f : FrameNo). f.0) (sym same) }

pub lease_none : (lease : Option Leased) → None ≡ option_map frame_of_lease lease → lease ≡ None
lease_none None e = refl
lease_none (Some l) e = absurd (cc e)

-- for which page a frame is out makes no difference to the runs
out_either : (out : List (Option Out)) (f g : ℕ) (x y : Out) → is_some (get_or (set out f (Some x)) g None) ≡ is_some (get_or (set out f (Some y)) g None)
out_either [] f g x y = refl
out_either (o ∷ out) zero zero x y = refl
out_either (o ∷ out) zero (suc g) x y = refl
out_either (o ∷ out) (suc f) zero x y = refl
out_either (o ∷ out) (suc f) (suc g) x y = out_either out f g x y

runs_page : (s : Sizes) (online : Kind) (st : SpaceState) (l : Leased) (page : ℕ) (kind : Kind) → runs_of s online (after_lease st (Some l) 0 kind) ≡ runs_of s online (after_lease st (Some l) page kind)
runs_page s online st l page kind =
    let before : SpaceState = after_lease st (Some l) 0 kind in
    let after : SpaceState = after_lease st (Some l) page kind in
    let same : (f : ℕ) → is_some (get_or before.out f None) ≡ is_some (get_or after.out f None) =
    λ f. out_either st.out l.frame f (record { page = 0; kind = kind }) (record { page = page; kind = kind }) in
    runs_are s online after (is_free s before) (is_aside s before) st.isolated
    (λ f lf. ap (λ (t : Bool). not t && not (is_isolated s st f) && not (is_cached after f)) (same f))
    (λ f lf. ap (λ (t : Bool). not t && is_isolated s st f) (same f))
    refl

-- what is kept behind a lease
pub lease_kept : (k : KeptSpace) (r : FreeFrames) (m : Marks) (held : List (List ℕ)) (bits : List Bool) (who : ℕ) (frame : FrameNo) (page : PageNo) (kind : Kind) (r2 : FreeFrames) (m2 : Marks) (held2 : List (List ℕ)) → AreOf k r m held bits → Some frame ≡ option_map frame_of_lease (lease_of k.sizes k.online k.state who kind) → ((l : Leased) → lease_of k.sizes k.online k.state who kind ≡ Some l → (r2 ≡ runs_of k.sizes k.online (after_lease k.state (Some l) 0 kind)) × (held2 ≡ l.caches)) → m2 ≡ record m { out = set m.out frame.0 (Some (record { page = page.0; kind = kind })) } → AreOf (behind (Lease who frame page kind) k) r2 m2 held2 bits
lease_kept k r m held bits who frame page kind r2 m2 held2 h e taken em =
    let w : IsLeaseOf (lease_of k.sizes k.online k.state who kind) frame.0 = lease_gave (lease_of k.sizes k.online k.state who kind) frame e in
    let l : Leased = w.leased in
    let out : Option Out = Some (record { page = page.0; kind = kind }) in
    let P : Option Leased → Type 0 = λ o. AreOf (record k { state = after_lease k.state o page.0 kind }) r2 m2 held2 bits in
    subst P (sym w.is) (record {
      within = h.within;
      space = (lease_good k.sizes k.online k.state who kind l h.within h.space w.is).kept page.0;
      runs = (taken l w.is).0 ∙ runs_page k.sizes k.online k.state l page.0 kind;
      marks = em ∙ (λ i. record (h.marks i) { out = set (h.marks i).out (sym w.gave i) out });
      caches = (taken l w.is).1;
      offline = h.offline;
      count = h.count;
    })

pub leased_in_count : (k : KeptSpace) (r : FreeFrames) (m : Marks) (held : List (List ℕ)) (bits : List Bool) (who : ℕ) (frame : FrameNo) (kind : Kind) → AreOf k r m held bits → Some frame ≡ option_map frame_of_lease (lease_of k.sizes k.online k.state who kind) → frame.0 < frame_count m.sizes
leased_in_count k r m held bits who frame kind h e =
    let w : IsLeaseOf (lease_of k.sizes k.online k.state who kind) frame.0 = lease_gave (lease_of k.sizes k.online k.state who kind) frame e in
    let there : w.leased.frame < frame_count k.sizes = (lease_good k.sizes k.online k.state who kind w.leased h.within h.space w.is).leasable.there in
    let P : Marks → Type 0 = λ x. frame.0 < frame_count x.sizes in
    subst P (sym h.marks) (subst (λ (f : ℕ). f < frame_count k.sizes) w.gave there)

pub refusal_kept : (k : KeptSpace) (r : FreeFrames) (m : Marks) (held : List (List ℕ)) (bits : List Bool) (who : ℕ) (kind : Kind) (r2 : FreeFrames) (held2 : List (List ℕ)) → AreOf k r m held bits → None ≡ option_map frame_of_lease (lease_of k.sizes k.online k.state who kind) → (lease_of k.sizes k.online k.state who kind ≡ None → (r2 ≡ r) × (held2 ≡ held)) → AreOf k r2 m held2 bits
refusal_kept k r m held bits who kind r2 held2 h e same =
    let s : (r2 ≡ r) × (held2 ≡ held) = same (lease_none (lease_of k.sizes k.online k.state who kind) e) in
    record {
      within = h.within;
      space = h.space;
      runs = s.0 ∙ h.runs;
      marks = h.marks;
      caches = s.1 ∙ h.caches;
      offline = h.offline;
      count = h.count;
    }

-- one more return may follow
pub lease_owed : (k : KeptSpace) (owed who : ℕ) (frame : FrameNo) (page : PageNo) (kind : Kind) (next : KeptSpace) → IsWithinLimits k.sizes → IsSpace k.sizes k.online k.state → IsOwed k.state owed → Chooses (lease_of k.sizes k.online k.state who kind) frame.0 → next ≡ behind (Lease who frame page kind) k → IsOwed next.state (owed + 1)
lease_owed k owed who frame page kind next within space h chosen e =
    let w : IsLeaseOf (lease_of k.sizes k.online k.state who kind) frame.0 = lease_chosen (lease_of k.sizes k.online k.state who kind) frame.0 chosen in
    let l : Leased = w.leased in
    let good : IsGoodLease k.sizes k.online k.state kind l = lease_good k.sizes k.online k.state who kind l within space w.is in
    let there : l.frame < length k.state.out = omega (arith, good.leasable.there, space.out) in
    let more : count_by is_some (set k.state.out l.frame (Some (record { page = page.0; kind = kind }))) ≡ count_by is_some k.state.out + 1 =
    count_set k.state.out l.frame (record { page = page.0; kind = kind }) there good.leasable.not_out in
    let P : KeptSpace → Type 0 = λ x. IsOwed x.state (owed + 1) in
    let Q : Option Leased → Type 0 = λ o. IsOwed (after_lease k.state o page.0 kind) (owed + 1) in
    let leased : Q (Some l) = omega (arith, h, more) in
    subst P (sym e) (subst Q (sym w.is) leased)

-- the same, as the journal tells it
within_left : (v : JournaledSpace) (k : KeptSpace) (used owed room : ℕ) → IsLeftBy v k used owed room → IsWithinLimits k.sizes → IsWithinLimits v.sizes
within_left v k used owed room h w = let P : KeptSpace → Type 0 = λ x. IsWithinLimits x.sizes in subst P h.left w

space_left : (v : JournaledSpace) (k : KeptSpace) (used owed room : ℕ) → IsLeftBy v k used owed room → IsSpace k.sizes k.online k.state → IsSpace v.sizes v.online (space_state v)
space_left v k used owed room h w = let P : KeptSpace → Type 0 = λ x. IsSpace x.sizes x.online x.state in subst P h.left w

pub chosen_left : (v : JournaledSpace) (k : KeptSpace) (used owed room who : ℕ) (kind : Kind) (frame : ℕ) → IsLeftBy v k used owed room → Chooses (lease_of k.sizes k.online k.state who kind) frame → Chooses (lease_of v.sizes v.online (space_state v) who kind) frame
chosen_left v k used owed room who kind frame h chosen =
    let P : KeptSpace → Type 0 = λ x. Chooses (lease_of x.sizes x.online x.state who kind) frame in subst P h.left chosen

pub free_left : (v : JournaledSpace) (k : KeptSpace) (used owed room who : ℕ) (kind : Kind) (frame : ℕ) → IsLeftBy v k used owed room → IsWithinLimits k.sizes → IsSpace k.sizes k.online k.state → Chooses (lease_of k.sizes k.online k.state who kind) frame → IsLeasableFor v kind frame
free_left v k used owed room who kind frame h within space chosen =
    let w : IsLeaseOf (lease_of v.sizes v.online (space_state v) who kind) frame =
    lease_chosen (lease_of v.sizes v.online (space_state v) who kind) frame (chosen_left v k used owed room who kind frame h chosen) in
    subst (IsLeasableFor v kind) w.gave (leased_free v who kind w.leased (within_left v k used owed room h within) (space_left v k used owed room h space) w.is)

pub none_left : (v : JournaledSpace) (k : KeptSpace) (used owed room who : ℕ) (kind : Kind) → IsLeftBy v k used owed room → IsWithinLimits k.sizes → IsSpace k.sizes k.online k.state → lease_of k.sizes k.online k.state who kind ≡ None → (frame : ℕ) → ¬ IsLeasableFor v kind frame
none_left v k used owed room who kind h within space none =
    (refused_none v who kind (within_left v k used owed room h within) (space_left v k used owed room h space)).0
    (ap (λ (x : KeptSpace). lease_of x.sizes x.online x.state who kind) (sym h.left) ∙ none)
