-- Places of blocks and runs.
use Rattle.std.proofs.Common.{◌≡◌, ℕ, suc, ◌+◌, ◌-◌, ◌*◌, ◌/◌, ◌%◌, ◌^◌, ◌<◌, ◌≤◌, true, eqb, leb, ltb, ◌&&◌, sym, ap, ◌∙◌, arith, inl, inr}
use Rattle.std.proofs.Math.Nat.{lt_of_mul-lt-mul_right, mul-mod_left, mul-le-mul_right, pow-suc, mul_assoc}
use Rattle.std.proofs.lemmas.Nat.{pow-add, div-add-mod', pow_pos, shr-shr, div-mul-add, mod_below}
use Rattle.std.proofs.lemmas.Bool.{and_parts, leb-true, eqb-true, ltb-true, cases_lt}
use Rattle.evac_model.specs.Geometry.{Sizes, frame_count}
use Rattle.evac_model.specs.FreeRuns.{is_run}
use Rattle.buddy.proofs.Powers.{pow_le, le_from_pow, multiple_sub}

-- a multiple below another leaves room between them
pub multiple_room : (m a n : ℕ) → 0 < m → a % m ≡ 0 → n % m ≡ 0 → a < n → a + m ≤ n
multiple_room m a n some ea en l =
    let wa : a / m * m ≡ a = omega (arith, div-add-mod' a m, ea) in
    let wn : n / m * m ≡ n = omega (arith, div-add-mod' n m, en) in
    let below : a / m < n / m = lt_of_mul-lt-mul_right m (omega (arith, wa, wn, l)) in
    let more : (a / m + 1) * m ≤ n / m * m = mul-le-mul_right m (omega (arith, below)) in
    omega (arith, more, wa, wn)

-- two powers of two round one number
pub pow_between : (j k n : ℕ) → n ≡ 2 ^ k → 2 ^ j ≤ n → n < 2 * 2 ^ j → j ≡ k
pow_between j k n e l h =
    let low = le_from_pow j k (omega (arith, e, l)) in
    elim (cases_lt j k) [
      | inl less ↦ absurd (omega (arith, pow_le (suc j) k (omega (arith, less)), double j, e, h))
      | inr g ↦ omega (arith, low, g)
    ]
  where
    double : (j : ℕ) → 2 ^ suc j ≡ 2 ^ j * 2
    double j = pow-suc 2 j

-- frames of one run lie in one block
pub one_block : (j t a k : ℕ) → j ≤ t → a % 2 ^ j ≡ 0 → a ≤ k → k < a + 2 ^ j → k / 2 ^ t ≡ a / 2 ^ t
one_block j t a k h m l r =
    let wa : a / 2 ^ j * 2 ^ j ≡ a = omega (arith, div-add-mod' a (2 ^ j), m) in
    let same : k / 2 ^ j ≡ a / 2 ^ j = ap (λ (n : ℕ). n / 2 ^ j) (the_place wa) ∙ div-mul-add (a / 2 ^ j) (2 ^ j) (k - a) (omega (arith, r, pow_pos j)) in
    split k ∙ ap (λ (n : ℕ). n / 2 ^ (t - j)) same ∙ sym (split a)
  where
    split : (n : ℕ) → n / 2 ^ t ≡ n / 2 ^ j / 2 ^ (t - j)
    split n = ap (λ (e : ℕ). n / 2 ^ e) (omega (arith, h)) ∙ sym (shr-shr n j (t - j))

    the_place : a / 2 ^ j * 2 ^ j ≡ a → k ≡ a / 2 ^ j * 2 ^ j + (k - a)
    the_place wa = omega (arith, wa, l)

-- what a run has
pub record RunFacts (s : Sizes) (order first : ℕ) : Type 0 where
  pub multiple : first % 2 ^ order ≡ 0
  pub small : 2 ^ order ≤ s.block
  pub inside : first < frame_count s

pub run_facts : (s : Sizes) (order first : ℕ) → is_run s order first ≡ true → RunFacts s order first
run_facts s order first e =
    let both = and_parts (eqb (first % 2 ^ order) 0 && leb (2 ^ order) s.block) (ltb first (frame_count s)) e in
    let front = and_parts (eqb (first % 2 ^ order) 0) (leb (2 ^ order) s.block) both.0 in
    record { multiple = eqb-true (first % 2 ^ order) 0 front.0; small = leb-true (2 ^ order) s.block front.1; inside = ltb-true first (frame_count s) both.1 }

-- the order of a run is that of a block at most
pub run_order : (s : Sizes) (order first top : ℕ) → RunFacts s order first → s.block ≡ 2 ^ top → order ≤ top
run_order s order first top f e = le_from_pow order top (omega (arith, f.small, e))

-- blocks' frames are multiples of each run's
pub blocks_multiple : (s : Sizes) (order top n : ℕ) → s.block ≡ 2 ^ top → order ≤ top → n * s.block % 2 ^ order ≡ 0
blocks_multiple s order top n e h =
    ap (λ (m : ℕ). m % 2 ^ order) (ap (λ (b : ℕ). n * b) (e ∙ ap (λ (k : ℕ). 2 ^ k) (omega (arith, h)) ∙ pow-add 2 (top - order) order) ∙ sym (mul_assoc n (2 ^ (top - order)) (2 ^ order))) ∙ mul-mod_left (n * 2 ^ (top - order)) (2 ^ order)

-- a run of boot blocks ends in them, and one behind them ends in the managed ones
pub run_in_boot : (s : Sizes) (order first top : ℕ) → RunFacts s order first → s.block ≡ 2 ^ top → first < s.boot * s.block → first + 2 ^ order ≤ s.boot * s.block
run_in_boot s order first top f e l =
    multiple_room (2 ^ order) first (s.boot * s.block) (pow_pos order) f.multiple (blocks_multiple s order top s.boot e (run_order s order first top f e)) l

pub frames_split : (s : Sizes) → frame_count s ≡ s.boot * s.block + s.managed * s.block
frames_split s = omega arith

pub run_in_managed : (s : Sizes) (order first top : ℕ) → RunFacts s order first → s.block ≡ 2 ^ top → s.boot * s.block ≤ first → first - s.boot * s.block + 2 ^ order ≤ s.managed * s.block
run_in_managed s order first top f e h =
    let small = run_order s order first top f e in
    multiple_room (2 ^ order) (first - s.boot * s.block) (s.managed * s.block) (pow_pos order)
    (multiple_sub (2 ^ order) first (s.boot * s.block) f.multiple (blocks_multiple s order top s.boot e small) h)
    (blocks_multiple s order top s.managed e small)
    (omega (arith, f.inside, frames_split s, h))

pub managed_multiple : (s : Sizes) (order first top : ℕ) → RunFacts s order first → s.block ≡ 2 ^ top → s.boot * s.block ≤ first → (first - s.boot * s.block) % 2 ^ order ≡ 0
managed_multiple s order first top f e h =
    multiple_sub (2 ^ order) first (s.boot * s.block) f.multiple (blocks_multiple s order top s.boot e (run_order s order first top f e)) h

-- the block of a place, counted from the first of its frames
pub in_block : (block b k : ℕ) → 0 < block → b * block ≤ k → k < b * block + block → k / block ≡ b
in_block block b k some l h =
    ap (λ (n : ℕ). n / block) (the_place l) ∙ div-mul-add b block (k - b * block) (omega (arith, h, l))
  where
    the_place : b * block ≤ k → k ≡ b * block + (k - b * block)
    the_place l = omega (arith, l)

pub block_holds : (block k : ℕ) → 0 < block → (k / block * block ≤ k) × (k < k / block * block + block)
block_holds block k some = (omega (arith, div-add-mod' k block), omega (arith, div-add-mod' k block, mod_below k block some))

-- a managed block's frames are within those of all
pub block_within : (n b block : ℕ) → b < n → b * block + block ≤ n * block
block_within n b block h = omega (arith, mul-le-mul_right block (more h))
  where
    more : b < n → b + 1 ≤ n
    more h = omega (arith, h)

-- a power of two below 2^17 is 2^16 at most
pub power_small : (n k : ℕ) → n < 131072 → 2 ^ k ≤ n → k ≤ 16
power_small n k h l =
    elim (cases_lt 16 k) [ inl big ↦ absurd (omega (arith, pow_le 17 k (omega (arith, big)), l, h)) | inr g ↦ g ]
