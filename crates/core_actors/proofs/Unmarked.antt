-- The frames that a view wrote and hasn't marked, behind stores in one frame and behind its mark.
use Rattle.std.proofs.Common.{◌≡◌, ℕ, eqb, eq-eqb, ne_eqb, cond, not, ◌+◌, ◌==◌, Bool, true, false, List, [], ◌∷◌, ◌++◌, filter, refl, sym, ap, ◌∙◌, arith, if◌then◌else◌}
use Rattle.std.specs.List.{count_by}
use Rattle.evac_model.specs.declared.names.FrameNo.{FrameNo}
use Rattle.core_state.specs.declared.view.View.{View}
use Rattle.core_state.specs.Steps.{with_unmarked}
use Rattle.core_actors.specs.Fits.{unmarked_by}

abbrev stored_in : FrameNo → List FrameNo → List FrameNo
stored_in frame l = if count_by (λ x. x.0 == frame.0) l == 0 then l ++ frame ∷ [] else l

stored_again : (frame : FrameNo) (none : Bool) → stored_in frame (if none then [] else frame ∷ []) ≡ frame ∷ []
stored_again frame true = refl
stored_again frame false =
    let e : eqb frame.0 frame.0 ≡ true = eq-eqb _ _ refl in
    ap (λ (b : Bool). if 0 + cond b 1 0 == 0 then frame ∷ frame ∷ [] else frame ∷ []) e

marked_in : (frame : FrameNo) (none : Bool) → filter (λ (x : FrameNo). not (x.0 == frame.0)) (if none then [] else frame ∷ []) ≡ []
marked_in frame true = refl
marked_in frame false =
    let e : eqb frame.0 frame.0 ≡ true = eq-eqb _ _ refl in
    ap (λ (b : Bool). cond (not b) (frame ∷ []) []) e

pub unmarked_now : (v : View) (frame : FrameNo) (n : ℕ) → v.unmarked ≡ unmarked_by n frame → with_unmarked v frame ≡ frame ∷ []
unmarked_now v frame n e = ap (λ (l : List FrameNo). stored_in frame l) e ∙ stored_again frame (n == 0)

pub marked_now : (v : View) (frame : FrameNo) (n : ℕ) → v.unmarked ≡ unmarked_by n frame → filter (λ (x : FrameNo). not (x.0 == frame.0)) v.unmarked ≡ []
marked_now v frame n e = ap (λ (l : List FrameNo). filter (λ (x : FrameNo). not (x.0 == frame.0)) l) e ∙ marked_in frame (n == 0)

pub more_unmarked : (n : ℕ) (frame : FrameNo) → frame ∷ [] ≡ unmarked_by (n + 1) frame
more_unmarked n frame = let e : eqb (n + 1) 0 ≡ false = ne_eqb (n + 1) 0 (λ z. omega arith) in sym (ap (λ (b : Bool). if b then [] else frame ∷ []) e)
