-- The frames that are out among some.
use Rattle.std.proofs.Common.{◌≡◌, ℕ, zero, suc, ◌+◌, ◌-◌, ◌<◌, ◌≤◌, Bool, false, cond, not, List, ◌∷◌, map, get_or, Option, None, Some, refl, sym, ap, subst, ◌∙◌, arith, inl, inr}
use Rattle.std.specs.List.{AllByRecursion, Contains, filter, range_with_len}
use Rattle.std.specs.List.Sorted.{IsStrictlyIncreasing}
use Rattle.std.specs.Option.{is_some}
use Rattle.std.proofs.lemmas.Bool.{cases_eq}
use Rattle.std.proofs.lemmas.List.FromFn.{length-range_with_len, get_or-range_with_len}
use Rattle.std.proofs.lemmas.List.Kept.{IsStrictlyIncreasing-filter}
use Rattle.evac_model.specs.Page.{is_movable}
use Rattle.evac_model.specs.SpaceJournal.{Out}
use Rattle.evac_model.proofs.Lists.{all_at, all_weaker}
use Rattle.page_blocks.specs.Marks.{with_frame, frames_out, is_unmovable}

-- those from a frame on are that frame, if it is out, and those behind it
pub frames_out_next : (out : List (Option Out)) (frame last : ℕ) → frame < last → frames_out out frame (last - frame) ≡ with_frame frame (get_or out frame None) (frames_out out (frame + 1) (last - (frame + 1)))
frames_out_next out frame last h =
    let more : last - frame ≡ suc (last - (frame + 1)) = omega arith in ap (frames_out out frame) more

-- a search goes past a frame that isn't out
pub frames_out_skip : (out : List (Option Out)) (frame last : ℕ) → frame < last → get_or out frame None ≡ None → frames_out out frame (last - frame) ≡ frames_out out (frame + 1) (last - (frame + 1))
frames_out_skip out frame last h e =
    frames_out_next out frame last h ∙ ap (λ (o : Option Out). with_frame frame o (frames_out out (frame + 1) (last - (frame + 1)))) e

-- a search for unmovable pages goes past one that isn't
pub unmovable_skip : (out : List (Option Out)) (frame last : ℕ) (o : Out) → frame < last → get_or out frame None ≡ Some o → not (is_movable o.kind) ≡ false → filter is_unmovable (frames_out out frame (last - frame)) ≡ filter is_unmovable (frames_out out (frame + 1) (last - (frame + 1)))
unmovable_skip out frame last o h e movable =
    let rest = frames_out out (frame + 1) (last - (frame + 1)) in
    ap (filter is_unmovable) (frames_out_next out frame last h ∙ ap (λ (x : Option Out). with_frame frame x rest) e)
    ∙ ap (λ (t : Bool). cond t ((frame, o) ∷ filter is_unmovable rest) (filter is_unmovable rest)) movable

-- the numbers of the frames out are those of a range that pass a test
map-with_frame : (frame : ℕ) (o : Option Out) (rest : List (ℕ × Out)) → map (λ (f : ℕ × Out). f.0) (with_frame frame o rest) ≡ cond (is_some o) (frame ∷ map (λ (f : ℕ × Out). f.0) rest) (map (λ (f : ℕ × Out). f.0) rest)
map-with_frame frame None rest = refl
map-with_frame frame (Some o) rest = refl

map-frames_out : (out : List (Option Out)) (first n : ℕ) → map (λ (f : ℕ × Out). f.0) (frames_out out first n) ≡ filter (λ (k : ℕ). is_some (get_or out k None)) (range_with_len first n)
map-frames_out out first zero = refl
map-frames_out out first (suc n) =
    map-with_frame first (get_or out first None) (frames_out out (first + 1) n)
    ∙ ap (λ (xs : List ℕ). cond (is_some (get_or out first None)) (first ∷ xs) xs) (map-frames_out out (first + 1) n)

IsStrictlyIncreasing-range : (first n : ℕ) → IsStrictlyIncreasing (range_with_len first n)
IsStrictlyIncreasing-range first n k h =
    let l : k + 1 < n = omega (arith, h, length-range_with_len first n) in
    omega (arith, get_or-range_with_len first n k 0 (omega (arith, l)), get_or-range_with_len first n (k + 1) 0 l)

pub frames_out-rising : (out : List (Option Out)) (first n : ℕ) → IsStrictlyIncreasing (map (λ (f : ℕ × Out). f.0) (frames_out out first n))
frames_out-rising out first n =
    let P : List ℕ → Type 0 = λ xs. IsStrictlyIncreasing xs in
    subst P (sym (map-frames_out out first n)) (IsStrictlyIncreasing-filter (λ (k : ℕ). is_some (get_or out k None)) (range_with_len first n) (IsStrictlyIncreasing-range first n))

-- a frame of n from first on, which is out for that
pub record IsOutAmong (out : List (Option Out)) (first n : ℕ) (f : ℕ × Out) : Type 0 where
  pub from : first ≤ f.0
  pub below : f.0 < first + n
  pub out_for : get_or out f.0 None ≡ Some f.1

all_with_frame : (P : ℕ × Out → Type 0) (frame : ℕ) (o : Option Out) (rest : List (ℕ × Out)) → ((x : Out) → o ≡ Some x → P (frame, x)) → AllByRecursion P rest → AllByRecursion P (with_frame frame o rest)
all_with_frame P frame None rest here all = all
all_with_frame P frame (Some o) rest here all = (here o refl, all)

all_frames_out : (out : List (Option Out)) (first n : ℕ) → AllByRecursion (IsOutAmong out first n) (frames_out out first n)
all_frames_out out first zero = tt
all_frames_out out first (suc n) =
    all_with_frame (IsOutAmong out first (suc n)) first (get_or out first None) (frames_out out (first + 1) n)
    (λ x e. record { from = omega arith; below = omega arith; out_for = e })
    (all_weaker (IsOutAmong out (first + 1) n) (IsOutAmong out first (suc n)) (λ f h. record { from = omega (arith, h.from); below = omega (arith, h.below); out_for = h.out_for }) (frames_out out (first + 1) n) (all_frames_out out (first + 1) n))

pub frames_out-are_out : (out : List (Option Out)) (first n : ℕ) (f : ℕ × Out) → Contains (frames_out out first n) f → IsOutAmong out first n f
frames_out-are_out out first n f c =
    subst (IsOutAmong out first n) c.2 (all_at (IsOutAmong out first n) (frames_out out first n) (all_frames_out out first n) c.0 f c.1)

-- a frame out among some is in the list
contains_with_frame : (frame : ℕ) (o : Option Out) (rest : List (ℕ × Out)) (f : ℕ × Out) → Contains rest f → Contains (with_frame frame o rest) f
contains_with_frame frame None rest f c = c
contains_with_frame frame (Some o) rest f c = (suc c.0, omega (arith, c.1), c.2)

contains_here : (frame : ℕ) (o : Option Out) (x : Out) (rest : List (ℕ × Out)) → o ≡ Some x → Contains (with_frame frame o rest) (frame, x)
contains_here frame o x rest e =
    let P : Option Out → Type 0 = λ y. Contains (with_frame frame y rest) (frame, x) in subst P (sym e) (0, omega arith, refl)

pub frames_out-has : (out : List (Option Out)) (first n frame : ℕ) (o : Out) → first ≤ frame → frame < first + n → get_or out frame None ≡ Some o → Contains (frames_out out first n) (frame, o)
frames_out-has out first zero frame o f l e = absurd (omega arith)
frames_out-has out first (suc n) frame o f l e =
    elim (cases_eq frame first) [
      | inl here ↦
          let P : ℕ → Type 0 = λ k. Contains (frames_out out first (suc n)) (k, o) in
          subst P (sym here) (contains_here first (get_or out first None) o (frames_out out (first + 1) n) (ap (λ (k : ℕ). get_or out k None) (sym here) ∙ e))
      | inr other ↦
          contains_with_frame first (get_or out first None) (frames_out out (first + 1) n) (frame, o) (frames_out-has out (first + 1) n frame o (omega (arith, other)) (omega arith) e)
    ]
