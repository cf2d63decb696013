-- The frames of blocks: of a range of blocks, and of a list of blocks without those of another.
use Rattle.std.proofs.Common.{◌≡◌, ℕ, zero, suc, ◌+◌, ◌-◌, ◌*◌, ◌<◌, ◌≤◌, ◌⊎◌, Bool, true, false, not, ◌&&◌, ◌||◌, ◌==◌, List, sym, ap, ◌∙◌, arith, inl, inr}
use Rattle.std.specs.List.{range_with_len}
use Rattle.std.proofs.Math.Bool.{or-false}
use Rattle.std.proofs.lemmas.Bool.{cases_lt, cases_Bool, or_left, and_parts, and_from, not-true, not_from_false, both_ways}
use Rattle.evac_model.specs.Geometry.{Sizes, first_frame, frame_count}
use Rattle.evac_model.specs.Numbers.{is_in, is_between}
use Rattle.evac_model.specs.SpaceJournal.{is_frame_of, is_frame_in}
use Rattle.evac_model.proofs.Ranges.{between_inside, between_below, between_above, between_bounds}
use Rattle.space.proofs.BlockFrames.{same_block, frame_in_witness, frame_in_from, both_true}
use Rattle.evac_model.proofs.Members.{is_in-range_with_len}

-- ---- a range of blocks

-- two ranges, the one behind the other
between_joined : (a b c f : ℕ) → a ≤ b → b ≤ c → (is_between a b f || is_between b c f) ≡ is_between a c f
between_joined a b c f low high = elim (cases_lt f b) [
  | inl l ↦ elim (cases_lt f a) [
    | inl below ↦ lower below l
    | inr from ↦ or_left _ _ (between_inside a b f from l) ∙ sym (between_inside a c f from (omega arith))
  ]
  | inr g ↦ ap (λ (t : Bool). t || is_between b c f) (between_above a b f g) ∙ elim (cases_lt f c) [
    | inl l ↦ between_inside b c f g l ∙ sym (between_inside a c f (omega arith) l)
    | inr past ↦ between_above b c f past ∙ sym (between_above a c f past)
  ]
]
  where
    lower : f < a → f < b → (is_between a b f || is_between b c f) ≡ is_between a c f
    lower below l = ap (λ (t : Bool). t || is_between b c f) (between_below a b f below) ∙ (between_below b c f l ∙ sym (between_below a c f below))

-- the blocks of a range
pub range_bounds : (first n b : ℕ) → is_in b (range_with_len first n) ≡ true → (first ≤ b) × (b < first + n)
range_bounds first n b h = between_bounds first (first + n) b (sym (is_in-range_with_len b first n) ∙ h)

-- a block alone
pub is_in-one : (block b : ℕ) → is_in b (range_with_len block 1) ≡ (b == block)
is_in-one block b = or-false (b == block)

pub frame_in-one : (s : Sizes) (block f : ℕ) → is_frame_in s (range_with_len block 1) f ≡ is_frame_of s block f
frame_in-one s block f = or-false (is_frame_of s block f)

module _ (s : Sizes) where
  -- the first frame behind n blocks
  pub behind_blocks : (first n : ℕ) → first_frame s (first + n) ≡ first_frame s first + n * s.block
  behind_blocks first n = omega arith

  -- the blocks of a range lie one behind another
  pub frame_in-range : (first n f : ℕ) → is_frame_in s (range_with_len first n) f ≡ is_between (first_frame s first) (first_frame s (first + n)) f
  frame_in-range first zero f =
      let same : first_frame s (first + 0) ≡ first_frame s first = ap (λ (b : ℕ). first_frame s b) (omega arith) in
      elim (cases_lt f (first_frame s first)) [
        | inl l ↦ sym (between_below (first_frame s first) (first_frame s (first + 0)) f l)
        | inr g ↦ sym (between_above (first_frame s first) (first_frame s (first + 0)) f (omega arith))
      ]
  frame_in-range first (suc n) f =
      let next : first_frame s (first + 1) ≡ first_frame s first + s.block = omega arith in
      let last : first_frame s (first + 1 + n) ≡ first_frame s (first + suc n) = ap (λ (b : ℕ). first_frame s b) (omega arith) in
      let long : first_frame s (first + 1 + n) ≡ first_frame s (first + 1) + n * s.block = behind_blocks (first + 1) n in
      ap (λ (t : Bool). is_frame_of s first f || t) (frame_in-range (first + 1) n f)
      ∙ ap (λ (k : ℕ). is_frame_of s first f || is_between k (first_frame s (first + 1 + n)) f) next
      ∙ between_joined (first_frame s first) (first_frame s first + s.block) (first_frame s (first + 1 + n)) f (omega arith) (omega arith)
      ∙ ap (λ (k : ℕ). is_between (first_frame s first) k f) last

  module _ (first n f : ℕ) where
    -- a frame of the range, and one that isn't
    pub frame_within : is_frame_in s (range_with_len first n) f ≡ true → (first_frame s first ≤ f) × (f < first_frame s first + n * s.block)
    frame_within h =
        let q = between_bounds (first_frame s first) (first_frame s (first + n)) f (sym (frame_in-range first n f) ∙ h) in
        let long = behind_blocks first n in
        (q.0, omega (arith, q.1, long))

    pub frame_from_range : first_frame s first ≤ f → f < first_frame s first + n * s.block → is_frame_in s (range_with_len first n) f ≡ true
    frame_from_range from below =
        let long = behind_blocks first n in
        frame_in-range first n f ∙ between_inside (first_frame s first) (first_frame s (first + n)) f from (omega (arith, below, long))

    pub frame_outside : is_frame_in s (range_with_len first n) f ≡ false → (f < first_frame s first) ⊎ (first_frame s first + n * s.block ≤ f)
    frame_outside h =
        let long = behind_blocks first n in
        elim (cases_lt f (first_frame s first)) [
          | inl l ↦ inl l
          | inr from ↦ elim (cases_lt f (first_frame s (first + n))) [
            | inl below ↦ absurd (both_ways _ h (frame_in-range first n f ∙ between_inside (first_frame s first) (first_frame s (first + n)) f from below))
            | inr g ↦ inr (omega arith)
          ]
        ]

  -- managed blocks have frames of the machine
  pub blocks_below : (first n : ℕ) → first + n ≤ s.managed → first_frame s first + n * s.block ≤ frame_count s
  blocks_below first n inside =
      let long = behind_blocks first n in
      let more : frame_count s ≡ first_frame s (first + n) + (s.managed - (first + n)) * s.block = count_behind (s.managed - (first + n)) (omega arith) in
      omega arith
    where
      count_behind : (k : ℕ) → s.managed ≡ first + n + k → frame_count s ≡ first_frame s (first + n) + k * s.block
      count_behind k e = ap (λ (b : ℕ). first_frame s b) e ∙ behind_blocks (first + n) k

  -- ---- lists of blocks

  module _ (xs ys zs : List ℕ) (f : ℕ) where
    -- each block of the one list that isn't of the other
    pub frame_in-without : ((b : ℕ) → is_in b zs ≡ (is_in b xs && not (is_in b ys))) → is_frame_in s zs f ≡ (is_frame_in s xs f && not (is_frame_in s ys f))
    frame_in-without h = both_true _ _
        (λ t.
        let w = frame_in_witness s zs f t in
        let parts = and_parts _ _ (sym (h w.0) ∙ w.1) in
        and_from _ _ (frame_in_from s xs w.0 f parts.0 w.2) (elim (cases_Bool (is_frame_in s ys f)) [
          | inl gone ↦ absurd (
              let v = frame_in_witness s ys f gone in
              both_ways _ (not-true _ parts.1) (ap (λ (b : ℕ). is_in b ys) (same_block s w.0 v.0 f w.2 v.2) ∙ v.1))
          | inr there ↦ not_from_false _ there
        ]))
        (λ t.
        let parts = and_parts _ _ t in
        let w = frame_in_witness s xs f parts.0 in
        frame_in_from s zs w.0 f (h w.0 ∙ and_from _ _ w.1 (elim (cases_Bool (is_in w.0 ys)) [
          | inl gone ↦ absurd (both_ways _ (not-true _ parts.1) (frame_in_from s ys w.0 f gone w.2))
          | inr there ↦ not_from_false _ there
        ])) w.2)
