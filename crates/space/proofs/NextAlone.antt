-- No frame of a block is out before the first one that is found out, from the block's first frame on or behind a frame; and
-- where none is found, none is out there.
use Rattle.std.proofs.Common.{◌≡◌, ℕ, zero, suc, ◌+◌, ◌-◌, ◌<◌, ◌≤◌, max, true, List, get_or, refl, sym, ap, ◌∙◌, arith, inl, inr, Option, Some, None}
use Rattle.std.proofs.lemmas.Bool.{cases_eq}
use Rattle.std.proofs.lemmas.Option.{none-some, same_Some}
use Rattle.evac_model.specs.declared.names.FrameNo.{FrameNo}
use Rattle.evac_model.specs.declared.names.PageNo.{PageNo}
use Rattle.evac_model.specs.Geometry.{Sizes, first_frame}
use Rattle.evac_model.specs.SpaceJournal.{SpaceState, Out, out_for, is_frame_of}
use Rattle.page_blocks.specs.Marks.{with_frame, frames_out, first_page}
use Rattle.space.specs.Refusals.{next_out}
use Rattle.space.proofs.BlockFrames.{frame_from, frame_below}

module _ (out : List (Option Out)) where
  -- none is out from a frame on, up to the one that is found
  abbrev AreNoneBefore : (first : ℕ) → FrameNo × PageNo → Type 0
  AreNoneBefore first found = (frame : ℕ) → first ≤ frame → frame < (found.0).0 → get_or out frame None ≡ None

  none_here : (first : ℕ) (o : Option Out) (rest : List (ℕ × Out)) (found : FrameNo × PageNo) → get_or out first None ≡ o → (first_page rest ≡ Some found → AreNoneBefore (first + 1) found)
      → first_page (with_frame first o rest) ≡ Some found → AreNoneBefore first found
  none_here first None rest found is later e = λ frame from below. elim (cases_eq frame first) [
    | inl here ↦ ap (λ (k : ℕ). get_or out k None) here ∙ is
    | inr other ↦ later e frame (omega (arith, other)) below
  ]
  none_here first (Some o) rest found is later e =
      let this : FrameNo × PageNo = (record { 0 = first }, record { 0 = o.page }) in
      let here : first ≡ (found.0).0 = ap (λ (x : FrameNo × PageNo). (x.0).0) (same_Some this found e) in
      λ frame from below. absurd (omega arith)

  first_alone : (first n : ℕ) (found : FrameNo × PageNo) → first_page (frames_out out first n) ≡ Some found → AreNoneBefore first found
  first_alone first zero found e = absurd (none-some found e)
  first_alone first (suc n) found e = none_here first (get_or out first None) (frames_out out (first + 1) n) found refl (first_alone (first + 1) n found) e

  none_with : (first : ℕ) (o : Option Out) (rest : List (ℕ × Out)) → first_page (with_frame first o rest) ≡ None → (o ≡ None) × (first_page rest ≡ None)
  none_with first None rest e = (refl, e)
  none_with first (Some o) rest e = absurd (none-some _ (sym e))

  none_at : (first n frame : ℕ) → first_page (frames_out out first n) ≡ None → first ≤ frame → frame < first + n → get_or out frame None ≡ None
  none_at first zero frame e from below = absurd (omega arith)
  none_at first (suc n) frame e from below =
      let both = none_with first (get_or out first None) (frames_out out (first + 1) n) e in
      elim (cases_eq frame first) [
        | inl here ↦ ap (λ (k : ℕ). get_or out k None) here ∙ both.0
        | inr other ↦ none_at (first + 1) n frame both.1 (omega (arith, other)) (omega arith)
      ]

module _ (s : Sizes) (st : SpaceState) (b : ℕ) where
  pub none_behind : (after : FrameNo) → next_out s st b (Some after) ≡ None → (frame : ℕ) → is_frame_of s b frame ≡ true → after.0 < frame → out_for st frame ≡ None
  none_behind after e frame its behind =
      let first : ℕ = max (first_frame s b) (after.0 + 1) in
      let from = frame_from s b frame its in
      let below = frame_below s b frame its in
      none_at st.out first (first_frame s b + s.block - first) frame e (omega arith) (omega arith)

  pub none_before : (found : FrameNo × PageNo) → next_out s st b None ≡ Some found → (frame : ℕ) → is_frame_of s b frame ≡ true → frame < (found.0).0 → out_for st frame ≡ None
  none_before found e frame its before = first_alone st.out (first_frame s b) s.block found e frame (frame_from s b frame its) before

  pub none_between : (after : FrameNo) (found : FrameNo × PageNo) → next_out s st b (Some after) ≡ Some found → (frame : ℕ) → is_frame_of s b frame ≡ true → after.0 < frame → frame < (found.0).0 → out_for st frame ≡ None
  none_between after found e frame its behind before =
      let first : ℕ = max (first_frame s b) (after.0 + 1) in
      let from = frame_from s b frame its in
      first_alone st.out first (first_frame s b + s.block - first) found e frame (omega arith) before
