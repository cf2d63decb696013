-- The marks of blocks as the list of those that are isolated.
use Rattle.std.proofs.Common.{◌≡◌, ℕ, ◌+◌, ◌-◌, ◌*◌, ◌/◌, ◌<◌, ◌≤◌, Bool, true, false, not, ◌&&◌, ◌||◌, List, [], ◌∷◌, length, get_or, set, replicate, Option, refl, sym, ap, subst, ◌∙◌, arith, inl, inr}
use Rattle.std.specs.List.{list_any, range_with_len}
use Rattle.std.proofs.lemmas.Bool.{cases_lt, cases_eq, eq-eqb, ne_eqb}
use Rattle.std.proofs.Math.Dec.{eqb}
use Rattle.std.proofs.Math.Nat.{lt-div-mul-add, div-lt_iff_lt-mul, mul-le-mul_right}
use Rattle.std.proofs.lemmas.Nat.{div-add-mod'}
use Rattle.std.proofs.lemmas.List.{get_or-set_same, get_or-set_other}
use Rattle.evac_model.specs.Geometry.{Sizes, frame_count, first_frame}
use Rattle.evac_model.specs.Numbers.{is_in, IsRisingBelow}
use Rattle.evac_model.specs.SpaceJournal.{Out, is_frame_of, is_frame_in, with_block, without_block}
use Rattle.evac_model.proofs.Numbers.{numbers_agree, is_in-numbers_where, is_in-numbers_where_past, numbers_where-none}
use Rattle.evac_model.proofs.Ranges.{between_inside, between_below, between_above}
use Rattle.page_blocks.specs.Marks.{Marks, blocks_marked}
use Rattle.std.proofs.Math.Bool.{or-true, or-false, and-false, and-true}
use Rattle.evac_model.proofs.Filters.{filter-filter}
use Rattle.evac_model.proofs.Lists.{get_or-replicate_same}

-- a block marked is in the list with it
pub marked_with : (s : Sizes) (marks : List Bool) (b : ℕ) → b < length marks → blocks_marked (set marks b true) s.managed ≡ with_block s b (blocks_marked marks s.managed)
marked_with s marks b h =
    numbers_agree (λ (k : ℕ). get_or (set marks b true) k false) (λ (k : ℕ). is_in k (blocks_marked marks s.managed) || eqb k b) s.managed
    (λ k l. elim (cases_eq k b) [
      | inl e ↦
          ap (λ (i : ℕ). get_or (set marks b true) i false) e
          ∙ get_or-set_same marks b true false h
          ∙ sym (ap (λ (t : Bool). is_in k (blocks_marked marks s.managed) || t) (eq-eqb k b e) ∙ or-true (is_in k (blocks_marked marks s.managed)))
      | inr ne ↦
          get_or-set_other marks b k true false ne
          ∙ sym (is_in-numbers_where (λ (i : ℕ). get_or marks i false) s.managed k l)
          ∙ sym (ap (λ (t : Bool). is_in k (blocks_marked marks s.managed) || t) (ne_eqb k b ne) ∙ or-false (is_in k (blocks_marked marks s.managed)))
    ])

-- a block whose mark is cleared is not in the list
pub marked_without : (marks : List Bool) (managed b : ℕ) → b < length marks → blocks_marked (set marks b false) managed ≡ without_block b (blocks_marked marks managed)
marked_without marks managed b h =
    numbers_agree (λ (k : ℕ). get_or (set marks b false) k false) (λ (k : ℕ). get_or marks k false && not (eqb k b)) managed
    (λ k l. elim (cases_eq k b) [
      | inl e ↦
          ap (λ (i : ℕ). get_or (set marks b false) i false) e
          ∙ get_or-set_same marks b false false h
          ∙ sym (ap (λ (t : Bool). get_or marks k false && not t) (eq-eqb k b e) ∙ and-false (get_or marks k false))
      | inr ne ↦
          get_or-set_other marks b k false false ne
          ∙ sym (ap (λ (t : Bool). get_or marks k false && not t) (ne_eqb k b ne) ∙ and-true (get_or marks k false))
    ])
    ∙ sym (filter-filter (λ (k : ℕ). not (eqb k b)) (λ (k : ℕ). get_or marks k false) (range_with_len 0 managed))

pub marked_none : (marks : List Bool) (n managed : ℕ) → marks ≡ replicate n false → blocks_marked marks managed ≡ []
marked_none marks n managed e =
    numbers_where-none (λ (k : ℕ). get_or marks k false) managed (λ k. ap (λ (ms : List Bool). get_or ms k false) e ∙ get_or-replicate_same n k false)

-- what contracts see of the marks
abbrev pub value_of : Sizes → List Bool → List (Option Out) → Marks
value_of s marks out = record { sizes = s; isolated = blocks_marked marks s.managed; out = out }

pub isolated_with : (s : Sizes) (marks : List Bool) (out : List (Option Out)) (v : Marks) → value_of s marks out ≡ v → (b : ℕ) → b < length marks → value_of s (set marks b true) out ≡ record v { isolated = with_block v.sizes b v.isolated }
isolated_with s marks out v e b h =
    let P : Marks → Type 0 = λ x. value_of s (set marks b true) out ≡ record x { isolated = with_block x.sizes b x.isolated } in
    subst P e (ap (λ (bs : List ℕ). let m : Marks = record { sizes = s; isolated = bs; out = out } in m) (marked_with s marks b h))

pub isolated_without : (s : Sizes) (marks : List Bool) (out : List (Option Out)) (v : Marks) → value_of s marks out ≡ v → (b : ℕ) → b < length marks → value_of s (set marks b false) out ≡ record v { isolated = without_block b v.isolated }
isolated_without s marks out v e b h =
    let P : Marks → Type 0 = λ x. value_of s (set marks b false) out ≡ record x { isolated = without_block b x.isolated } in
    subst P e (ap (λ (bs : List ℕ). let m : Marks = record { sizes = s; isolated = bs; out = out } in m) (marked_without marks s.managed b h))

pub isolated_rising : (s : Sizes) (marks : List Bool) (out : List (Option Out)) (v : Marks) → value_of s marks out ≡ v → IsRisingBelow v.sizes.managed v.isolated
isolated_rising s marks out v e =
    let P : Marks → Type 0 = λ x. IsRisingBelow x.sizes.managed x.isolated in
    subst P e (numbers_agree (λ (k : ℕ). get_or marks k false) (λ (k : ℕ). is_in k (blocks_marked marks s.managed)) s.managed (λ k l. sym (is_in-numbers_where (λ (i : ℕ). get_or marks i false) s.managed k l)))

pub is_in-isolated : (s : Sizes) (marks : List Bool) (out : List (Option Out)) (v : Marks) → value_of s marks out ≡ v → (b : ℕ) → b < s.managed → is_in b v.isolated ≡ get_or marks b false
is_in-isolated s marks out v e b h =
    ap (λ (x : Marks). is_in b x.isolated) (sym e) ∙ is_in-numbers_where (λ (i : ℕ). get_or marks i false) s.managed b h

pub is_in-isolated_past : (s : Sizes) (marks : List Bool) (out : List (Option Out)) (v : Marks) → value_of s marks out ≡ v → (b : ℕ) → s.managed ≤ b → is_in b v.isolated ≡ false
is_in-isolated_past s marks out v e b h =
    ap (λ (x : Marks). is_in b x.isolated) (sym e) ∙ is_in-numbers_where_past (λ (i : ℕ). get_or marks i false) s.managed b h

-- a test that one number alone passes finds that number
any_one : (test : ℕ → Bool) (j : ℕ) → ((k : ℕ) → test k ≡ eqb j k) → (xs : List ℕ) → list_any test xs ≡ is_in j xs
any_one test j h [] = refl
any_one test j h (x ∷ xs) = rw (h x, any_one test j h xs) refl

any_none : (test : ℕ → Bool) → ((k : ℕ) → test k ≡ false) → (xs : List ℕ) → list_any test xs ≡ false
any_none test h [] = refl
any_none test h (x ∷ xs) = rw (h x, any_none test h xs) refl

-- a frame lies from its quotient's first frame on and below the next one's
quotient_lower : (frame size : ℕ) → frame / size * size ≤ frame
quotient_lower frame size = omega (arith, div-add-mod' frame size)

-- a frame behind the boot blocks is of one block: that of its quotient
frame_of_one : (s : Sizes) (frame : ℕ) → 0 < s.block → s.boot ≤ frame / s.block → (k : ℕ) → is_frame_of s k frame ≡ eqb (frame / s.block - s.boot) k
frame_of_one s frame some boot k =
    let lower : frame / s.block * s.block ≤ frame = quotient_lower frame s.block in
    let upper : frame < frame / s.block * s.block + s.block = lt-div-mul-add {a = frame} {b = s.block} some in
    elim (cases_lt k (frame / s.block - s.boot)) [
      | inl l ↦
          let below : (s.boot + k + 1) * s.block ≤ frame / s.block * s.block = mul-le-mul_right s.block (omega (arith, l)) in
          between_above (first_frame s k) (first_frame s k + s.block) frame (omega (arith, below, lower))
          ∙ sym (ne_eqb (frame / s.block - s.boot) k (λ e. omega (arith, e, l)))
      | inr g ↦ elim (cases_eq (frame / s.block - s.boot) k) [
        | inl e ↦
            let here : first_frame s k ≡ frame / s.block * s.block = ap (λ (x : ℕ). x * s.block) (let sum : s.boot + k ≡ frame / s.block = omega (arith, e) in sum) in
            between_inside (first_frame s k) (first_frame s k + s.block) frame (omega (arith, here, lower)) (omega (arith, here, upper))
            ∙ sym (eq-eqb (frame / s.block - s.boot) k e)
        | inr ne ↦
            let above : (frame / s.block + 1) * s.block ≤ first_frame s k = mul-le-mul_right s.block (omega (arith, g, ne)) in
            between_below (first_frame s k) (first_frame s k + s.block) frame (omega (arith, above, upper))
            ∙ sym (ne_eqb (frame / s.block - s.boot) k ne)
      ]
    ]

-- a frame of a boot block is of no managed one
frame_of_none : (s : Sizes) (frame : ℕ) → 0 < s.block → frame / s.block < s.boot → (k : ℕ) → is_frame_of s k frame ≡ false
frame_of_none s frame some boot k =
    let upper : frame < frame / s.block * s.block + s.block = lt-div-mul-add {a = frame} {b = s.block} some in
    let above : (frame / s.block + 1) * s.block ≤ first_frame s k = mul-le-mul_right s.block (omega (arith, boot)) in
    between_below (first_frame s k) (first_frame s k + s.block) frame (omega (arith, above, upper))

-- the block of a frame is a managed one, or a boot block
pub block_below : (s : Sizes) (frame : ℕ) → 0 < s.block → frame < frame_count s → frame / s.block < s.boot + s.managed
block_below s frame some h = (div-lt_iff_lt-mul {k = s.block} {x = frame} {y = s.boot + s.managed} some).1 h

-- whether a frame is of an isolated block, by the mark of its block
pub frame_isolated : (s : Sizes) (marks : List Bool) (out : List (Option Out)) (v : Marks) → value_of s marks out ≡ v → 0 < s.block → (frame : ℕ) → frame < frame_count s → s.boot ≤ frame / s.block → is_frame_in v.sizes v.isolated frame ≡ get_or marks (frame / s.block - s.boot) false
frame_isolated s marks out v e some frame h boot =
    let below : frame / s.block < s.boot + s.managed = block_below s frame some h in
    ap (λ (x : Marks). is_frame_in x.sizes x.isolated frame) (sym e)
    ∙ any_one (λ (b : ℕ). is_frame_of s b frame) (frame / s.block - s.boot) (frame_of_one s frame some boot) (blocks_marked marks s.managed)
    ∙ is_in-numbers_where (λ (i : ℕ). get_or marks i false) s.managed (frame / s.block - s.boot) (omega (arith, below, boot))

pub boot_frame_isolated : (s : Sizes) (marks : List Bool) (out : List (Option Out)) (v : Marks) → value_of s marks out ≡ v → 0 < s.block → (frame : ℕ) → frame / s.block < s.boot → is_frame_in v.sizes v.isolated frame ≡ false
boot_frame_isolated s marks out v e some frame boot =
    ap (λ (x : Marks). is_frame_in x.sizes x.isolated frame) (sym e)
    ∙ any_none (λ (b : ℕ). is_frame_of s b frame) (frame_of_none s frame some boot) (blocks_marked marks s.managed)

-- the frames of a managed block are frames of the machine
pub block_within : (s : Sizes) (b : ℕ) → b < s.managed → first_frame s b + s.block ≤ frame_count s
block_within s b h = omega (arith, mul-le-mul_right {m = s.boot + b + 1} {n = s.boot + s.managed} s.block (omega (arith, h)))
