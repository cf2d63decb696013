-- An action of the frame space by which no frame is let out or taken back and no block goes offline or online: a block is
-- isolated, or its isolation is taken back. No frame changes hands.
use Rattle.std.proofs.Common.{◌≡◌, ℕ, Bool, ◌&&◌, ◌||◌, List, refl, sym, ap, ◌∙◌, Option, Some, None}
use Rattle.evac_model.specs.declared.names.BlockNo.{BlockNo}
use Rattle.evac_model.specs.declared.names.FrameNo.{FrameNo}
use Rattle.evac_model.specs.declared.names.PageNo.{PageNo}
use Rattle.evac_model.specs.declared.space.SpaceAction.{SpaceAction}
use Rattle.evac_model.specs.declared.space.SpaceAction.TheVariants as space
use Rattle.evac_model.specs.Numbers.{is_in}
use Rattle.evac_model.specs.SpaceJournal.{SpaceState, out_for, is_frame_in, after_action, IsPossible, IsPossibleJournal}
use Rattle.evac_words.specs.Word.{frame_of}
use Rattle.core_state.specs.Words.{entry_word_of}
use Rattle.space.specs.Refusals.{first_unmovable}
use Rattle.space.proofs.Journals.{space_after-append}
use Rattle.space.proofs.NextOut.{movable_none}
use Rattle.space.proofs.SpaceLaws.{possible_goes_on}
use Rattle.machine.specs.Consistent.{IsSetting, IsConsistent}
use Rattle.machine.specs.Made.{noted, isolate_made}
use Rattle.machine.specs.MayMake.{MayIsolate, MayUndo}
use Rattle.machine.specs.World.{Setting, World, space_now, device_now, unplugged_now, is_held}

-- ---- an action is noted

-- each frame is out for what it was out for
abbrev LeavesOut : Setting → World → SpaceAction → Type 0
LeavesOut c w action = (frame : ℕ) → out_for (after_action c.sizes c.online (space_now c w) action) frame ≡ out_for (space_now c w) frame

-- the same blocks are offline
abbrev LeavesOffline : Setting → World → SpaceAction → Type 0
LeavesOffline c w action = (after_action c.sizes c.online (space_now c w) action).offline ≡ (space_now c w).offline

module _ (c : Setting) (w : World) (action : SpaceAction) where
  abbrev st : SpaceState
  st = space_now c w

  abbrev then : World
  then = (noted w action).world

  behind : space_now c then ≡ after_action c.sizes c.online st action
  behind = space_after-append c.sizes c.online c.space w.space action

  pub noted_out : LeavesOut c w action → (frame : ℕ) → out_for (space_now c then) frame ≡ out_for st frame
  noted_out out frame = ap (λ (x : SpaceState). out_for x frame) behind ∙ out frame

  pub noted_offline : LeavesOffline c w action → (space_now c then).offline ≡ st.offline
  noted_offline offline = ap (λ (x : SpaceState). x.offline) behind ∙ offline

  pub noted_held : LeavesOffline c w action → (block : ℕ) → is_held c then block ≡ is_held c w block
  noted_held offline block = ap (λ (l : List ℕ). is_in block l && is_in block (device_now c w).plugged) (noted_offline offline)

  module _ (k : IsConsistent c w) (may : IsPossible c.sizes c.online st action) (out : LeavesOut c w action) (offline : LeavesOffline c w action) where
    possible : IsPossibleJournal c.sizes c.online c.space then.space
    possible = (possible_goes_on c.sizes c.online c.space w.space action).1 (k.possible, may)

    frames_offline : (f : ℕ) → is_frame_in c.sizes (space_now c then).offline f ≡ is_frame_in c.sizes st.offline f
    frames_offline f = ap (λ (l : List ℕ). is_frame_in c.sizes l f) (noted_offline offline)

    consistent_then : IsConsistent c then
    consistent_then = record {
      sound = k.sound;
      seats = k.seats;
      quiet = k.quiet;
      keeper_rests = k.keeper_rests;
      unplugged_rests = k.unplugged_rests;
      possible = possible;
      answered = k.answered;
      free = λ f low. let q = k.free f low in (
        (λ has. let h = q.0 has in (noted_out out f ∙ h.0, frames_offline f ∙ h.1)),
        (λ h. q.1 (sym (noted_out out f) ∙ h.0, sym (frames_offline f) ∙ h.1)),
      );
      unplugged = k.unplugged;
      driver = λ block f held its. k.driver block f (sym (noted_held offline block) ∙ held) its;
      scanner = k.scanner;
      offline = λ block.
          ap (λ (l : List ℕ). is_in block l) (noted_offline offline)
          ∙ (k.offline block ∙ ap (λ (t : Bool). is_in block (unplugged_now c w) || t) (sym (noted_held offline block)));
      mapped = λ page low on. noted_out out (frame_of (entry_word_of w.snapshot.words page)) ∙ k.mapped page low on;
      in_hand = λ seat f owner has none. k.in_hand seat f owner has (sym (noted_out out f) ∙ none);
    }

pub noted_kept : (c : Setting) (w : World) (action : SpaceAction) → IsSetting c → IsConsistent c w → IsPossible c.sizes c.online (space_now c w) action → LeavesOut c w action → LeavesOffline c w action → IsConsistent c (noted w action).world
noted_kept c w action set k may out offline = consistent_then c w action k may out offline

-- ---- a block is isolated

module _ (c : Setting) (w : World) (block : BlockNo) where
  pub isolate_out : (x : Option (FrameNo × PageNo)) (frame : ℕ) → out_for (space_now c (isolate_made w block x).world) frame ≡ out_for (space_now c w) frame
  isolate_out None frame = noted_out c w (space.Isolate block) (λ f. refl) frame
  isolate_out (Some at) frame = refl

  pub isolate_offline : (x : Option (FrameNo × PageNo)) → (space_now c (isolate_made w block x).world).offline ≡ (space_now c w).offline
  isolate_offline None = noted_offline c w (space.Isolate block) refl
  isolate_offline (Some at) = refl

  pub isolate_held : (x : Option (FrameNo × PageNo)) (b : ℕ) → is_held c (isolate_made w block x).world b ≡ is_held c w b
  isolate_held None b = noted_held c w (space.Isolate block) refl b
  isolate_held (Some at) b = refl

pub isolate_kept : (c : Setting) (w : World) (block : BlockNo) (x : Option (FrameNo × PageNo)) → IsSetting c → IsConsistent c w → MayIsolate c 0 w block → first_unmovable c.sizes (space_now c w) block.0 ≡ x → IsConsistent c (isolate_made w block x).world
isolate_kept c w block None set k may none = noted_kept c w (space.Isolate block) set k (may.managed, may.there, movable_none c.sizes (space_now c w) block.0 none) (λ f. refl) refl
isolate_kept c w block (Some at) set k may some = k

-- ---- an isolation is taken back

module _ (c : Setting) (w : World) (block : BlockNo) where
  pub undo_out : (frame : ℕ) → out_for (space_now c (noted w (space.Undo block)).world) frame ≡ out_for (space_now c w) frame
  undo_out frame = noted_out c w (space.Undo block) (λ f. refl) frame

  pub undo_offline : (space_now c (noted w (space.Undo block)).world).offline ≡ (space_now c w).offline
  undo_offline = noted_offline c w (space.Undo block) refl

  pub undo_held : (b : ℕ) → is_held c (noted w (space.Undo block)).world b ≡ is_held c w b
  undo_held b = noted_held c w (space.Undo block) refl b

pub undo_kept : (c : Setting) (w : World) (block : BlockNo) → IsSetting c → IsConsistent c w → MayUndo c 0 w block → IsConsistent c (noted w (space.Undo block)).world
undo_kept c w block set k may = noted_kept c w (space.Undo block) set k (may.isolated, may.there) (λ f. refl) refl
