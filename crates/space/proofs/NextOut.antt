-- The first frame of a block that is out, or the first one behind a frame: it is of the block and out, and where
-- there is none, none is out.
use Rattle.std.proofs.Common.{◌≡◌, ℕ, zero, suc, ◌+◌, ◌-◌, ◌<◌, ◌≤◌, max, Bool, true, false, cond, List, [], ◌∷◌, get_or, refl, sym, ap, ◌∙◌, subst, arith, Option, Some, None}
use Rattle.std.specs.List.{filter, Contains}
use Rattle.evac_model.specs.declared.names.FrameNo.{FrameNo}
use Rattle.evac_model.specs.declared.names.Kind.{Kind}
use Rattle.evac_model.specs.declared.names.PageNo.{PageNo}
use Rattle.evac_model.specs.Geometry.{Sizes, first_frame}
use Rattle.evac_model.specs.Numbers.{is_in}
use Rattle.evac_model.specs.SpaceJournal.{SpaceState, Out, out_for, is_frame_of, IsEmptied, HasMovableAlone, IsOutInIsolated}
use Rattle.page_blocks.specs.Marks.{with_frame, frames_out, is_unmovable, first_page}
use Rattle.page_blocks.proofs.Frames.{IsOutAmong, frames_out-are_out}
use Rattle.space.specs.Refusals.{frames_out_of, first_unmovable, next_out}
use Rattle.space.proofs.BlockFrames.{in_block, frame_in_from}
use Rattle.space.proofs.KeptSpaces.{no_first, emptied_from}
use Rattle.space.proofs.Refused.{movable_alone}

-- a frame among n from first on that is out for a page
record IsFoundOut (out : List (Option Out)) (first n : ℕ) (found : FrameNo × PageNo) : Type 0 where
  from : first ≤ (found.0).0
  below : (found.0).0 < first + n
  kind : Kind
  out_at : get_or out (found.0).0 None ≡ Some (record { page = (found.1).0; kind = kind })

-- the first of some frames is one of them
found_first : (out : List (Option Out)) (first n : ℕ) (found : FrameNo × PageNo) → first_page (frames_out out first n) ≡ Some found → IsFoundOut out first n found
found_first out first n found e = go (frames_out out first n) refl e
  where
    go : (frames : List (ℕ × Out)) → frames_out out first n ≡ frames → first_page frames ≡ Some found → IsFoundOut out first n found
    go [] is h = absurd (cc h)
    go (f ∷ rest) is h =
        let P : List (ℕ × Out) → Type 0 = λ xs. Contains xs f in
        let among : IsOutAmong out first n f = frames_out-are_out out first n f (subst P (sym is) (0, omega arith, refl)) in
        let frame : FrameNo = record { 0 = f.0 } in
        let page : PageNo = record { 0 = f.1.page } in
        let same : (frame, page) ≡ found = cc h in
        subst (IsFoundOut out first n) same (record { from = among.from; below = among.below; kind = f.1.kind; out_at = among.out_for })

next_in_block : (s : Sizes) (st : SpaceState) (block : ℕ) (first n : ℕ) (found : FrameNo × PageNo) → first_frame s block ≤ first → (first ≤ (found.0).0 → (found.0).0 < first + n → (found.0).0 < first_frame s block + s.block) → first_page (frames_out st.out first n) ≡ Some found → (is_frame_of s block (found.0).0 ≡ true) × (kind : Kind) × (out_for st (found.0).0 ≡ Some (record { page = (found.1).0; kind = kind }))
next_in_block s st block first n found from below e =
    let w : IsFoundOut st.out first n found = found_first st.out first n found e in
    (in_block s block (found.0).0 (omega (arith, from, w.from)) (below w.from w.below), w.kind, w.out_at)

-- the frame that is found is of the block, and out for the page that is found
pub next_is_out : (s : Sizes) (st : SpaceState) (block : ℕ) (after : Option FrameNo) (at : FrameNo × PageNo) → next_out s st block after ≡ Some at → (is_frame_of s block (at.0).0 ≡ true) × (kind : Kind) × (out_for st (at.0).0 ≡ Some (record { page = (at.1).0; kind = kind }))
next_is_out s st block None at e =
    next_in_block s st block (first_frame s block) s.block at (omega arith) (λ from below. below) e
next_is_out s st block (Some after) at e =
    let behind : ℕ = max (first_frame s block) (after.0 + 1) in
    next_in_block s st block behind (first_frame s block + s.block - behind) at (omega arith) (λ from below. omega (arith, from, below)) e

-- behind a frame, it is a later one
pub next_is_behind : (s : Sizes) (st : SpaceState) (block : ℕ) (after : FrameNo) (at : FrameNo × PageNo) → next_out s st block (Some after) ≡ Some at → after.0 < (at.0).0
next_is_behind s st block after at e =
    let behind : ℕ = max (first_frame s block) (after.0 + 1) in
    let w : IsFoundOut st.out behind (first_frame s block + s.block - behind) at = found_first st.out behind (first_frame s block + s.block - behind) at e in
    omega (arith, w.from)

-- so its page is out in an isolated block, if the block is isolated
pub next_isolated : (s : Sizes) (st : SpaceState) (b : ℕ) (after : Option FrameNo) (found : FrameNo × PageNo) → is_in b st.isolated ≡ true → next_out s st b after ≡ Some found → IsOutInIsolated s st (found.1).0
next_isolated s st b after found there e =
    let w = next_is_out s st b after found e in
    record { frame = (found.0).0; kind = w.1; isolated = frame_in_from s st.isolated b (found.0).0 there w.0; out = w.2 }

-- where none is found, no frame of the block is out, and the other way round
pub none_next : (s : Sizes) (st : SpaceState) (b : ℕ) → next_out s st b None ≡ None → IsEmptied s st b
none_next s st b e = emptied_from s st b (no_first (frames_out_of s st b) e)

none_out : (out : List (Option Out)) (first n : ℕ) → ((frame : ℕ) → first ≤ frame → frame < first + n → get_or out frame None ≡ None) → frames_out out first n ≡ []
none_out out first zero h = refl
none_out out first (suc n) h =
    ap (λ (o : Option Out). with_frame first o (frames_out out (first + 1) n)) (h first (omega arith) (omega arith))
    ∙ none_out out (first + 1) n (λ frame from below. h frame (omega (arith, from)) (omega (arith, below)))

pub emptied_none : (s : Sizes) (st : SpaceState) (b : ℕ) → IsEmptied s st b → frames_out_of s st b ≡ []
emptied_none s st b h =
    none_out st.out (first_frame s b) s.block (λ frame from below. h frame (in_block s b frame from below))

pub emptied_next : (s : Sizes) (st : SpaceState) (b : ℕ) → IsEmptied s st b → next_out s st b None ≡ None
emptied_next s st b h = ap first_page (emptied_none s st b h)

-- where no frame is out for an unmovable page, movable ones are alone
pub movable_none : (s : Sizes) (st : SpaceState) (b : ℕ) → first_unmovable s st b ≡ None → HasMovableAlone s st b
movable_none s st b e = movable_alone s st b (no_first (filter is_unmovable (frames_out_of s st b)) e)

-- the frame that refuses an isolation is of the block, too
first_inside : (first n : ℕ) (o : Out) (rest : List (ℕ × Out)) (found : FrameNo × PageNo) → first_page ((first, o) ∷ rest) ≡ Some found → (first ≤ (found.0).0) × ((found.0).0 < first + suc n)
first_inside first n o rest found e =
    let frame : FrameNo = record { 0 = first } in
    let page : PageNo = record { 0 = o.page } in
    let same : (frame, page) ≡ found = cc e in
    subst (λ (x : FrameNo × PageNo). (first ≤ (x.0).0) × ((x.0).0 < first + suc n)) same (omega arith, omega arith)

unmovable_inside : (out : List (Option Out)) (first n : ℕ) (found : FrameNo × PageNo) → first_page (filter is_unmovable (frames_out out first n)) ≡ Some found → (first ≤ (found.0).0) × ((found.0).0 < first + n)
unmovable_inside out first zero found e = absurd (cc e)
unmovable_inside out first (suc n) found e = at (get_or out first None) e (λ later. unmovable_inside out (first + 1) n found later)
  where
    rest : List (ℕ × Out)
    rest = filter is_unmovable (frames_out out (first + 1) n)

    behind : (first + 1 ≤ (found.0).0) × ((found.0).0 < first + 1 + n) → (first ≤ (found.0).0) × ((found.0).0 < first + suc n)
    behind h = (omega (arith, h.0), omega (arith, h.1))

    tested : (o : Out) (t : Bool) → first_page (cond t ((first, o) ∷ rest) rest) ≡ Some found → (first_page rest ≡ Some found → (first + 1 ≤ (found.0).0) × ((found.0).0 < first + 1 + n)) → (first ≤ (found.0).0) × ((found.0).0 < first + suc n)
    tested o true e later = first_inside first n o rest found e
    tested o false e later = behind (later e)

    at : (o : Option Out) → first_page (filter is_unmovable (with_frame first o (frames_out out (first + 1) n))) ≡ Some found → (first_page rest ≡ Some found → (first + 1 ≤ (found.0).0) × ((found.0).0 < first + 1 + n)) → (first ≤ (found.0).0) × ((found.0).0 < first + suc n)
    at None e later = behind (later e)
    at (Some o) e later = tested o (is_unmovable (first, o)) e later

pub unmovable_in_block : (s : Sizes) (st : SpaceState) (b : ℕ) (found : FrameNo × PageNo) → first_unmovable s st b ≡ Some found → is_frame_of s b (found.0).0 ≡ true
unmovable_in_block s st b found e =
    let w = unmovable_inside st.out (first_frame s b) s.block found e in in_block s b (found.0).0 w.0 w.1
