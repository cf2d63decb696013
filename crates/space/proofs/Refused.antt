-- Why an action is refused, and that it is possible where it isn't.
use Rattle.std.proofs.Common.{◌≡◌, ℕ, zero, suc, ◌+◌, ◌<◌, ◌≤◌, Bool, true, false, cond, List, [], ◌∷◌, get_or, refl, sym, ap, ◌∙◌, subst, arith, inl, inr, Option, Some, None, Ok}
use Rattle.std.specs.List.{filter}
use Rattle.std.proofs.lemmas.Bool.{cases_eq, false≢true}
use Rattle.evac_model.specs.declared.names.Kind.TheVariants.{Unmovable}
use Rattle.evac_model.specs.Geometry.{Sizes, first_frame}
use Rattle.evac_model.specs.SpaceJournal.{SpaceState, Out, IsEmptied, HasMovableAlone}
use Rattle.buddy.specs.FreeFrames.{FreeFrames}
use Rattle.page_blocks.specs.Marks.{Marks, with_frame, frames_out, block_frames_out, is_unmovable, isolation}
use Rattle.space.specs.JournaledSpace.{JournaledSpace, space_state}
use Rattle.space.specs.KeptSpace.{KeptSpace, AreOf}
use Rattle.space.specs.KeptJournal.{IsLeftBy}
use Rattle.space.specs.Refusals.{frames_out_of, emptiness}
use Rattle.space.proofs.BlockFrames.{frame_from, frame_below}
use Rattle.space.proofs.KeptSpaces.{emptied_from}

-- a block that isn't refused is empty
none_found : (frames : List (ℕ × Out)) → Ok tt ≡ emptiness frames → frames ≡ []
none_found [] e = refl
none_found (f ∷ rest) e = absurd (cc e)

pub emptied_ok : (v : JournaledSpace) (k : KeptSpace) (used owed room : ℕ) (b : ℕ) → IsLeftBy v k used owed room → Ok tt ≡ emptiness (frames_out_of k.sizes k.state b) → IsEmptied v.sizes (space_state v) b
emptied_ok v k used owed room b h e =
    let P : KeptSpace → Type 0 = λ x. IsEmptied x.sizes x.state b in
    subst P h.left (emptied_from k.sizes k.state b (none_found (frames_out_of k.sizes k.state b) e))

-- a block that may be isolated has movable pages alone
none_unmovable : (frames : List (ℕ × Out)) → Ok tt ≡ isolation frames → frames ≡ []
none_unmovable [] e = refl
none_unmovable (f ∷ rest) e = absurd (cc e)

rest_none : (frame : ℕ) (x : Option Out) (rest : List (ℕ × Out)) → filter is_unmovable (with_frame frame x rest) ≡ [] → filter is_unmovable rest ≡ []
rest_none frame None rest e = e
rest_none frame (Some o) rest e = go (is_unmovable (frame, o)) e
  where
    go : (t : Bool) → cond t ((frame, o) ∷ filter is_unmovable rest) (filter is_unmovable rest) ≡ [] → filter is_unmovable rest ≡ []
    go true e = absurd (cc e)
    go false e = e

first_movable : (frame : ℕ) (x : Option Out) (o : Out) (rest : List (ℕ × Out)) → x ≡ Some o → filter is_unmovable (with_frame frame x rest) ≡ [] → is_unmovable (frame, o) ≡ false
first_movable frame x o rest is e =
    go (is_unmovable (frame, o)) (ap (λ (y : Option Out). filter is_unmovable (with_frame frame y rest)) (sym is) ∙ e)
  where
    go : (t : Bool) → cond t ((frame, o) ∷ filter is_unmovable rest) (filter is_unmovable rest) ≡ [] → t ≡ false
    go true e = absurd (cc e)
    go false e = refl

movable_at : (out : List (Option Out)) (first n frame : ℕ) (o : Out) → filter is_unmovable (frames_out out first n) ≡ [] → first ≤ frame → frame < first + n → get_or out frame None ≡ Some o → is_unmovable (frame, o) ≡ false
movable_at out first zero frame o e from below is = absurd (omega arith)
movable_at out first (suc n) frame o e from below is = elim (cases_eq frame first) [
  | inl here ↦
      ap (λ (f : ℕ). is_unmovable (f, o)) here
      ∙ first_movable first (get_or out first None) o (frames_out out (first + 1) n) (ap (λ (f : ℕ). get_or out f None) (sym here) ∙ is) e
  | inr later ↦
      movable_at out (first + 1) n frame o (rest_none first (get_or out first None) (frames_out out (first + 1) n) e) (omega (arith, later)) (omega arith) is
]

pub movable_alone : (s : Sizes) (st : SpaceState) (b : ℕ) → filter is_unmovable (frames_out_of s st b) ≡ [] → HasMovableAlone s st b
movable_alone s st b e frame page there is =
    false≢true (sym (movable_at st.out (first_frame s b) s.block frame (record { page = page; kind = Unmovable }) e (frame_from s b frame there) (frame_below s b frame there) is))

pub movable_kept : (k : KeptSpace) (r : FreeFrames) (m : Marks) (held : List (List ℕ)) (bits : List Bool) (b : ℕ) → AreOf k r m held bits → Ok tt ≡ isolation (filter is_unmovable (block_frames_out m b)) → HasMovableAlone k.sizes k.state b
movable_kept k r m held bits b h e =
    movable_alone k.sizes k.state b (none_unmovable _ (e ∙ ap (λ (x : Marks). isolation (filter is_unmovable (block_frames_out x b))) h.marks))

pub movable_ok : (v : JournaledSpace) (k : KeptSpace) (used owed room : ℕ) (b : ℕ) → IsLeftBy v k used owed room → Ok tt ≡ isolation (filter is_unmovable (frames_out_of k.sizes k.state b)) → HasMovableAlone v.sizes (space_state v) b
movable_ok v k used owed room b h e =
    let P : KeptSpace → Type 0 = λ x. HasMovableAlone x.sizes x.state b in
    subst P h.left (movable_alone k.sizes k.state b (none_unmovable (filter is_unmovable (frames_out_of k.sizes k.state b)) e))
