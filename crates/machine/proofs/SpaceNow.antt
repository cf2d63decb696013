-- The frame space of a consistent world is a space. A frame that a lease of it gives was free, and lies in no offline
-- block. No mapped page lies in an unplugged block.
use Rattle.std.proofs.Common.{◌≡◌, ℕ, ◌<◌, true, false, sym, ◌∙◌, None, Some}
use Rattle.std.proofs.lemmas.Bool.{false_from_ne_true, or_left}
use Rattle.std.proofs.lemmas.Option.{none-some}
use Rattle.evac_model.specs.declared.names.Kind.{Kind}
use Rattle.evac_model.specs.Numbers.{is_in}
use Rattle.evac_model.specs.SpaceJournal.{Leased, lease_of, out_for, is_frame_in, IsLeasable}
use Rattle.evac_words.specs.Word.{mapped_bit, frame_of}
use Rattle.core_state.specs.Words.{entry_word_of}
use Rattle.space.specs.JournaledSpace.{JournaledSpace}
use Rattle.space.specs.SpaceInside.{IsSpace}
use Rattle.space.proofs.BlockFrames.{frame_in_witness, frame_in_from, is_in_bound}
use Rattle.space.proofs.Leases.{leased_free}
use Rattle.space.proofs.SpaceLaws.{space_behind_all}
use Rattle.machine.specs.Consistent.{IsSetting, IsConsistent}
use Rattle.machine.specs.World.{Setting, World, space_now, unplugged_now}

pub space_is : (c : Setting) (w : World) → IsSetting c → IsConsistent c w → IsSpace c.sizes c.online (space_now c w)
space_is c w r k = space_behind_all c.sizes c.online c.space w.space r.limits r.space k.possible

-- an isolated block is a managed one
pub isolated_managed : (c : Setting) (w : World) → IsSetting c → IsConsistent c w → (block : ℕ) → is_in block (space_now c w).isolated ≡ true → block < c.sizes.managed
isolated_managed c w r k block = is_in_bound c.sizes.managed (space_now c w).isolated block (space_is c w r k).isolated

-- none of an offline block's frames is out
pub offline_not_out : (c : Setting) (w : World) → IsSetting c → IsConsistent c w → (frame : ℕ) → is_frame_in c.sizes (space_now c w).offline frame ≡ true → out_for (space_now c w) frame ≡ None
offline_not_out c w r k = (space_is c w r k).emptied

-- the space with its journal
abbrev journaled_now : Setting → World → JournaledSpace
journaled_now c w = record { sizes = c.sizes; online = c.online; opening = c.space; journal = w.space }

pub lease_is_free : (c : Setting) (w : World) → IsSetting c → IsConsistent c w → (who : ℕ) (kind : Kind) (l : Leased) → lease_of c.sizes c.online (space_now c w) who kind ≡ Some l → IsLeasable c.sizes c.online (space_now c w) kind l.frame
lease_is_free c w r k who kind l is = leased_free (journaled_now c w) who kind l r.limits (space_is c w r k) is

-- an offline block is isolated
pub lease_is_plugged : (c : Setting) (w : World) → IsSetting c → IsConsistent c w → (who : ℕ) (kind : Kind) (l : Leased) → lease_of c.sizes c.online (space_now c w) who kind ≡ Some l → is_frame_in c.sizes (space_now c w).offline l.frame ≡ false
lease_is_plugged c w r k who kind l is = false_from_ne_true _ (λ off.
    let b = frame_in_witness c.sizes (space_now c w).offline l.frame off in
    let on = frame_in_from c.sizes (space_now c w).isolated b.0 l.frame ((space_is c w r k).offline_isolated b.0 b.1) b.2 in
    let free = (lease_is_free c w r k who kind l is).not_isolated in
    absurd (cc))

-- an unplugged block is offline, so that none of its frames is out, as a mapped page's is
pub mapped_is_plugged : (c : Setting) (w : World) (page : ℕ) → IsSetting c → IsConsistent c w → page < c.sizes.pages → mapped_bit (entry_word_of w.snapshot.words page) ≡ 1
    → is_frame_in c.sizes (unplugged_now c w) (frame_of (entry_word_of w.snapshot.words page)) ≡ false
mapped_is_plugged c w page r k low on = false_from_ne_true _ (λ there.
    let frame = frame_of (entry_word_of w.snapshot.words page) in
    let b = frame_in_witness c.sizes (unplugged_now c w) frame there in
    let off = frame_in_from c.sizes (space_now c w).offline b.0 frame (k.offline b.0 ∙ or_left _ _ b.1) b.2 in
    none-some _ (sym (offline_not_out c w r k frame off) ∙ k.mapped page low on))
