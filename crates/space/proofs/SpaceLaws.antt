-- What always holds of a space, behind actions and journals.
use Rattle.std.proofs.Common.{◌≡◌, ◌≢◌, ℕ, ◌≤◌, Bool, true, false, List, [], ◌∷◌, ◌++◌, refl, sym, subst, None, Some, ◌↔◌, Option}
use Rattle.std.proofs.lemmas.Bool.{false_from_ne_true}
use Rattle.evac_model.specs.declared.names.Kind.{Kind}
use Rattle.evac_model.specs.declared.names.Kind.TheVariants.{Movable}
use Rattle.evac_model.specs.declared.space.SpaceAction.{SpaceAction}
use Rattle.evac_model.specs.declared.space.SpaceAction.TheVariants.{Lease, MoveLease, Return, Isolate, Undo, Offline, Online}
use Rattle.evac_model.specs.Geometry.{Sizes, IsWithinLimits}
use Rattle.evac_model.specs.FreeRuns.{fits}
use Rattle.evac_model.specs.SpaceJournal.{SpaceState, Out, Leased, out_for, is_frame_in, lease_of, after_lease, caches_after_return, after_action, space_after, Chooses, IsPossible, IsPossibleJournal}
use Rattle.space.specs.SpaceInside.{IsSpace}
use Rattle.space.proofs.Journals.{possible-append}
use Rattle.space.proofs.Leases.{lease_good}
use Rattle.space.proofs.LeasesKept.{IsLeaseOf, lease_chosen}
use Rattle.space.proofs.SpacesBehind.{space_isolated, space_undone, space_offline, space_online, space_cleared, space_returned}
use Rattle.std.proofs.Math.ListN.{set}

space_leased : (s : Sizes) (online : Kind) (st : SpaceState) (who page frame : ℕ) (kind : Kind) → IsWithinLimits s → IsSpace s online st → Chooses (lease_of s online st who kind) frame → IsSpace s online (after_lease st (lease_of s online st who kind) page kind)
space_leased s online st who page frame kind within h chosen =
    let w : IsLeaseOf (lease_of s online st who kind) frame = lease_chosen (lease_of s online st who kind) frame chosen in
    subst (λ (o : Option Leased). IsSpace s online (after_lease st o page kind)) (sym w.is) ((lease_good s online st who kind w.leased within h w.is).kept page)

space_given_back : (s : Sizes) (online : Kind) (st : SpaceState) (who frame : ℕ) (isolated : Bool) → IsSpace s online st → who ≤ 16 → out_for st frame ≢ None → is_frame_in s st.isolated frame ≡ isolated → IsSpace s online (record st { out = set st.out frame None; caches = caches_after_return isolated st.caches who frame })
space_given_back s online st who frame true h w ne e = space_cleared s online st frame h
space_given_back s online st who frame false h w ne e = space_returned s online st who frame h w ne e

pub space_behind : (s : Sizes) (online : Kind) (st : SpaceState) (a : SpaceAction) → IsWithinLimits s → IsSpace s online st → IsPossible s online st a → IsSpace s online (after_action s online st a)
space_behind s online st (Lease who frame page kind) within h may = space_leased s online st who page.0 frame.0 kind within h may.2
space_behind s online st (MoveLease frame page) within h may = space_leased s online st 0 page.0 frame.0 Movable within h may.1
space_behind s online st (Return who frame) within h may = space_given_back s online st who frame.0 (is_frame_in s st.isolated frame.0) h may.0 may.1 refl
space_behind s online st (Isolate block) within h may = space_isolated s online st block.0 h may.0 may.2
space_behind s online st (Undo block) within h may = space_undone s online st block.0 h may.1
space_behind s online st (Offline block) within h may = space_offline s online st block.0 h may.0 may.2
space_behind s online st (Online block) within h may = space_online s online st block.0 h

pub space_behind_all : (s : Sizes) (online : Kind) (st : SpaceState) (journal : List SpaceAction) → IsWithinLimits s → IsSpace s online st → IsPossibleJournal s online st journal → IsSpace s online (space_after s online st journal)
space_behind_all s online st [] within h may = h
space_behind_all s online st (a ∷ journal) within h may =
    space_behind_all s online (after_action s online st a) journal within (space_behind s online st a within h may.0) may.1

pub out_not_offline : (s : Sizes) (online : Kind) (st : SpaceState) (journal : List SpaceAction) (frame : ℕ) → IsWithinLimits s → IsSpace s online st → IsPossibleJournal s online st journal → out_for (space_after s online st journal) frame ≢ None → is_frame_in s (space_after s online st journal).offline frame ≡ false
out_not_offline s online st journal frame within h may ne =
    false_from_ne_true _ (λ e. ne ((space_behind_all s online st journal within h may).emptied frame e))

pub out_fits : (s : Sizes) (online : Kind) (st : SpaceState) (journal : List SpaceAction) (frame : ℕ) (x : Out) → IsWithinLimits s → IsSpace s online st → IsPossibleJournal s online st journal → out_for (space_after s online st journal) frame ≡ Some x → fits s online x.kind frame ≡ true
out_fits s online st journal frame x within h may out =
    (space_behind_all s online st journal within h may).fitting frame x out

pub isolated_movable : (s : Sizes) (online : Kind) (st : SpaceState) (journal : List SpaceAction) (frame : ℕ) (x : Out) → IsWithinLimits s → IsSpace s online st → IsPossibleJournal s online st journal → is_frame_in s (space_after s online st journal).isolated frame ≡ true → out_for (space_after s online st journal) frame ≡ Some x → x.kind ≡ Movable
isolated_movable s online st journal frame x within h may there out =
    (space_behind_all s online st journal within h may).isolated_movable frame x there out

possible_parts : (s : Sizes) (online : Kind) (st : SpaceState) (journal : List SpaceAction) (a : SpaceAction) → IsPossibleJournal s online st (journal ++ a ∷ []) → IsPossibleJournal s online st journal × IsPossible s online (space_after s online st journal) a
possible_parts s online st [] a h = (tt, h.0)
possible_parts s online st (x ∷ journal) a h =
    let rest : IsPossibleJournal s online (after_action s online st x) journal × IsPossible s online (space_after s online (after_action s online st x) journal) a =
    possible_parts s online (after_action s online st x) journal a h.1 in
    ((h.0, rest.0), rest.1)

pub possible_goes_on : (s : Sizes) (online : Kind) (st : SpaceState) (journal : List SpaceAction) (a : SpaceAction) → IsPossibleJournal s online st (journal ++ a ∷ []) ↔ (IsPossibleJournal s online st journal × IsPossible s online (space_after s online st journal) a)
possible_goes_on s online st journal a = (possible_parts s online st journal a, λ h. possible-append s online st journal a h.0 h.1)
