-- The frames of managed blocks, and lists of blocks.
use Rattle.std.proofs.Common.{◌≡◌, ℕ, ◌+◌, ◌*◌, ◌<◌, ◌≤◌, Bool, true, false, ◌||◌, ◌&&◌, not, List, [], ◌∷◌, refl, sym, ap, ◌∙◌, subst, arith, inl, inr}
use Rattle.std.specs.List.{list_any, range_with_len}
use Rattle.std.proofs.Math.Dec.{eqb}
use Rattle.std.proofs.lemmas.Bool.{eqb-true, eq-eqb, ne_eqb, cases_lt, cases_Bool, or_left, or_right, or_cases, false≢true, and_parts, and_from, not-true, not_from_false}
use Rattle.evac_model.specs.Geometry.{Sizes, first_frame}
use Rattle.evac_model.specs.Numbers.{numbers_where, is_in, IsRisingBelow}
use Rattle.evac_model.specs.SpaceJournal.{is_frame_of, is_frame_in, with_block, without_block}
use Rattle.evac_model.proofs.Numbers.{is_in-numbers_where, is_in-numbers_where_past, numbers_rising}
use Rattle.evac_model.proofs.Ranges.{between_inside, between_below, between_above}
use Rattle.std.proofs.Math.Bool.{or-false}
use Rattle.std.proofs.Math.Nat.{mul-le-mul_right}
use Rattle.evac_model.proofs.Unions.{rising_past}
use Rattle.evac_model.proofs.Filters.{filter-filter}

-- a frame of a block is from the block's first frame on and before the next block's
pub frame_from : (s : Sizes) (b f : ℕ) → is_frame_of s b f ≡ true → first_frame s b ≤ f
frame_from s b f h = elim (cases_lt f (first_frame s b)) [
  | inl l ↦ absurd (false≢true (sym (between_below (first_frame s b) (first_frame s b + s.block) f l) ∙ h))
  | inr g ↦ g
]

pub frame_below : (s : Sizes) (b f : ℕ) → is_frame_of s b f ≡ true → f < first_frame s b + s.block
frame_below s b f h = elim (cases_lt f (first_frame s b + s.block)) [
  | inl l ↦ l
  | inr g ↦ absurd (false≢true (sym (between_above (first_frame s b) (first_frame s b + s.block) f g) ∙ h))
]

pub in_block : (s : Sizes) (b f : ℕ) → first_frame s b ≤ f → f < first_frame s b + s.block → is_frame_of s b f ≡ true
in_block s b f from below = between_inside (first_frame s b) (first_frame s b + s.block) f from below

-- so it is of no other block
below_other : (s : Sizes) (a b f : ℕ) → a < b → is_frame_of s a f ≡ true → is_frame_of s b f ≡ true → ⊥
below_other s a b f l ha hb =
    let next : (s.boot + a + 1) * s.block ≤ (s.boot + b) * s.block = mul-le-mul_right s.block (omega arith) in
    omega (arith, frame_below s a f ha, frame_from s b f hb, next)

pub same_block : (s : Sizes) (a b f : ℕ) → is_frame_of s a f ≡ true → is_frame_of s b f ≡ true → a ≡ b
same_block s a b f ha hb = elim (cases_lt a b) [
  | inl l ↦ absurd (below_other s a b f l ha hb)
  | inr g ↦ elim (cases_lt b a) [
    | inl l ↦ absurd (below_other s b a f l hb ha)
    | inr h ↦ omega arith
  ]
]

-- two tests that agree on a list's numbers
any_agree : (p q : ℕ → Bool) (xs : List ℕ) → ((b : ℕ) → p b ≡ q b) → list_any p xs ≡ list_any q xs
any_agree p q [] h = refl
any_agree p q (x ∷ xs) h = rw (h x, any_agree p q xs h) refl

-- a frame of some block of a list is of one that stands in it
pub frame_in_witness : (s : Sizes) (blocks : List ℕ) (f : ℕ) → is_frame_in s blocks f ≡ true → (b : ℕ) × (is_in b blocks ≡ true) × (is_frame_of s b f ≡ true)
frame_in_witness s [] f h = absurd (false≢true h)
frame_in_witness s (x ∷ xs) f h = elim (or_cases (is_frame_of s x f) (is_frame_in s xs f) h) [
  | inl here ↦ (x, or_left _ _ (eq-eqb x x refl), here)
  | inr there ↦
      let w : (b : ℕ) × (is_in b xs ≡ true) × (is_frame_of s b f ≡ true) = frame_in_witness s xs f there in
      (w.0, or_right _ _ w.1, w.2)
]

pub frame_in_from : (s : Sizes) (blocks : List ℕ) (b f : ℕ) → is_in b blocks ≡ true → is_frame_of s b f ≡ true → is_frame_in s blocks f ≡ true
frame_in_from s [] b f there h = absurd (false≢true there)
frame_in_from s (x ∷ xs) b f there h = elim (or_cases (eqb b x) (is_in b xs) there) [
  | inl here ↦ or_left _ _ (ap (λ (z : ℕ). is_frame_of s z f) (sym (eqb-true b x here)) ∙ h)
  | inr later ↦ or_right _ _ (frame_in_from s xs b f later h)
]

-- two tests that are each true where the other is
pub both_true : (x y : Bool) → (x ≡ true → y ≡ true) → (y ≡ true → x ≡ true) → x ≡ y
both_true true true to from = refl
both_true true false to from = absurd (false≢true (to refl))
both_true false true to from = absurd (false≢true (from refl))
both_true false false to from = refl

-- the blocks that stand in a list with one more, and in one without one

pub is_in_bound : (n : ℕ) (xs : List ℕ) (b : ℕ) → IsRisingBelow n xs → is_in b xs ≡ true → b < n
is_in_bound n xs b rising h = elim (cases_lt b n) [
  | inl l ↦ l
  | inr g ↦ absurd (false≢true (sym (rising_past n xs rising b g) ∙ h))
]

pub is_in-with_block : (s : Sizes) (b : ℕ) (xs : List ℕ) (k : ℕ) → IsRisingBelow s.managed xs → b < s.managed → is_in k (with_block s b xs) ≡ (is_in k xs || eqb k b)
is_in-with_block s b xs k rising l = elim (cases_lt k s.managed) [
  | inl here ↦ is_in-numbers_where (λ (j : ℕ). is_in j xs || eqb j b) s.managed k here
  | inr past ↦
      is_in-numbers_where_past (λ (j : ℕ). is_in j xs || eqb j b) s.managed k past
      ∙ sym (ap (λ (t : Bool). is_in k xs || t) (ne_eqb k b (λ e. omega (arith, e))) ∙ or-false (is_in k xs) ∙ ap (is_in k) rising ∙ is_in-numbers_where_past (λ (j : ℕ). is_in j xs) s.managed k past)
]

pub without-numbers : (n b : ℕ) (xs : List ℕ) → IsRisingBelow n xs → without_block b xs ≡ numbers_where (λ k. is_in k xs && not (eqb k b)) n
without-numbers n b xs rising =
    ap (without_block b) rising ∙ filter-filter (λ (k : ℕ). not (eqb k b)) (λ (k : ℕ). is_in k xs) (range_with_len 0 n)

pub is_in-without_block : (n b : ℕ) (xs : List ℕ) (k : ℕ) → IsRisingBelow n xs → is_in k (without_block b xs) ≡ (is_in k xs && not (eqb k b))
is_in-without_block n b xs k rising = elim (cases_lt k n) [
  | inl here ↦ ap (is_in k) (without-numbers n b xs rising) ∙ is_in-numbers_where (λ (j : ℕ). is_in j xs && not (eqb j b)) n k here
  | inr past ↦
      ap (is_in k) (without-numbers n b xs rising)
      ∙ is_in-numbers_where_past (λ (j : ℕ). is_in j xs && not (eqb j b)) n k past
      ∙ sym (ap (λ (t : Bool). t && not (eqb k b)) (ap (is_in k) rising ∙ is_in-numbers_where_past (λ (j : ℕ). is_in j xs) n k past))
]

pub rising-with_block : (s : Sizes) (b : ℕ) (xs : List ℕ) → IsRisingBelow s.managed (with_block s b xs)
rising-with_block s b xs = numbers_rising (λ (k : ℕ). is_in k xs || eqb k b) s.managed

pub rising-without_block : (n b : ℕ) (xs : List ℕ) → IsRisingBelow n xs → IsRisingBelow n (without_block b xs)
rising-without_block n b xs rising =
    subst (IsRisingBelow n) (sym (without-numbers n b xs rising)) (numbers_rising (λ (k : ℕ). is_in k xs && not (eqb k b)) n)

-- the frames of those blocks
pub frame_in-with_block : (s : Sizes) (b : ℕ) (xs : List ℕ) (f : ℕ) → IsRisingBelow s.managed xs → b < s.managed → is_frame_in s (with_block s b xs) f ≡ (is_frame_in s xs f || is_frame_of s b f)
frame_in-with_block s b xs f rising l =
    both_true (is_frame_in s (with_block s b xs) f) (is_frame_in s xs f || is_frame_of s b f)
    (λ h.
    let w : (k : ℕ) × (is_in k (with_block s b xs) ≡ true) × (is_frame_of s k f ≡ true) = frame_in_witness s (with_block s b xs) f h in
    elim (or_cases (is_in w.0 xs) (eqb w.0 b) (sym (is_in-with_block s b xs w.0 rising l) ∙ w.1)) [
      | inl old ↦ or_left _ _ (frame_in_from s xs w.0 f old w.2)
      | inr new ↦ or_right _ _ (ap (λ (z : ℕ). is_frame_of s z f) (sym (eqb-true w.0 b new)) ∙ w.2)
    ])
    (λ h. elim (or_cases (is_frame_in s xs f) (is_frame_of s b f) h) [
      | inl old ↦
          let w : (k : ℕ) × (is_in k xs ≡ true) × (is_frame_of s k f ≡ true) = frame_in_witness s xs f old in
          frame_in_from s (with_block s b xs) w.0 f (is_in-with_block s b xs w.0 rising l ∙ or_left _ _ w.1) w.2
      | inr new ↦ frame_in_from s (with_block s b xs) b f (is_in-with_block s b xs b rising l ∙ or_right _ _ (eq-eqb b b refl)) new
    ])

pub frame_in-without_block : (s : Sizes) (n b : ℕ) (xs : List ℕ) (f : ℕ) → IsRisingBelow n xs → is_frame_in s (without_block b xs) f ≡ (is_frame_in s xs f && not (is_frame_of s b f))
frame_in-without_block s n b xs f rising =
    both_true (is_frame_in s (without_block b xs) f) (is_frame_in s xs f && not (is_frame_of s b f))
    (λ h.
    let w : (k : ℕ) × (is_in k (without_block b xs) ≡ true) × (is_frame_of s k f ≡ true) = frame_in_witness s (without_block b xs) f h in
    let parts : (is_in w.0 xs ≡ true) × (not (eqb w.0 b) ≡ true) = and_parts _ _ (sym (is_in-without_block n b xs w.0 rising) ∙ w.1) in
    let other : is_frame_of s b f ≡ false = elim (cases_Bool (is_frame_of s b f)) [
      | inl is ↦ absurd (false≢true (sym (not-true (eqb w.0 b) parts.1) ∙ eq-eqb w.0 b (same_block s w.0 b f w.2 is)))
      | inr isnt ↦ isnt
    ] in
    and_from _ _ (frame_in_from s xs w.0 f parts.0 w.2) (not_from_false _ other))
    (λ h.
    let parts : (is_frame_in s xs f ≡ true) × (not (is_frame_of s b f) ≡ true) = and_parts _ _ h in
    let w : (k : ℕ) × (is_in k xs ≡ true) × (is_frame_of s k f ≡ true) = frame_in_witness s xs f parts.0 in
    let other : eqb w.0 b ≡ false = ne_eqb w.0 b (λ e. false≢true (sym (not-true (is_frame_of s b f) parts.1) ∙ ap (λ (z : ℕ). is_frame_of s z f) (sym e) ∙ w.2)) in
    frame_in_from s (without_block b xs) w.0 f (is_in-without_block n b xs w.0 rising ∙ and_from _ _ w.1 (not_from_false _ other)) w.2)
