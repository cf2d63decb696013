-- Powers of two, and their multiples.
use Rattle.std.proofs.Common.{◌≡◌, ◌≢◌, ℕ, suc, ◌+◌, ◌-◌, ◌*◌, ◌/◌, ◌%◌, ◌^◌, ◌<◌, ◌≤◌, sym, ap, ◌∙◌, zero-add, arith, inl, inr}
use Rattle.std.proofs.Math.Nat.{pow-suc, lt_of_mul-lt-mul_right, mul-mod_left, mul-le-mul_right, pow-le-pow_right, add-mod, mod-mod, zero-mod}
use Rattle.std.proofs.lemmas.Nat.{pow-add, div-add-mod', pow_below}
use Rattle.std.proofs.lemmas.Bool.{cases_lt}

pub pow_double : (k : ℕ) → 2 ^ suc k ≡ 2 ^ k + 2 ^ k
pow_double k = omega (arith, pow-suc 2 k)

pub pow_le : (i j : ℕ) → i ≤ j → 2 ^ i ≤ 2 ^ j
pow_le i j h = pow-le-pow_right {n = 2} (omega arith) h

-- powers rise with their exponents
pub le_from_pow : (i j : ℕ) → 2 ^ i ≤ 2 ^ j → i ≤ j
le_from_pow i j h = elim (cases_lt j i) [ inl l ↦ absurd (omega (arith, pow_below j i l, h)) | inr g ↦ g ]

-- a multiple of 2^j below 2^k has 2^j places below 2^k
pub multiple_below : (j k a : ℕ) → j ≤ k → a % 2 ^ j ≡ 0 → a < 2 ^ k → a + 2 ^ j ≤ 2 ^ k
multiple_below j k a h m l =
    let split : 2 ^ k ≡ 2 ^ (k - j) * 2 ^ j = ap (λ (n : ℕ). 2 ^ n) (omega arith) ∙ pow-add 2 (k - j) j in
    let whole : a / 2 ^ j * 2 ^ j ≡ a = omega (arith, div-add-mod' a (2 ^ j), m) in
    let below : a / 2 ^ j < 2 ^ (k - j) = lt_of_mul-lt-mul_right (2 ^ j) (omega (arith, split, whole, l)) in
    let more : (a / 2 ^ j + 1) * 2 ^ j ≤ 2 ^ (k - j) * 2 ^ j = mul-le-mul_right (2 ^ j) (omega (arith, below)) in
    omega (arith, more, split, whole)

-- a power of two is a multiple of a smaller one
pub pow_multiple : (j k : ℕ) → j ≤ k → 2 ^ k % 2 ^ j ≡ 0
pow_multiple j k h =
    ap (λ (n : ℕ). n % 2 ^ j) (ap (λ (n : ℕ). 2 ^ n) (omega arith) ∙ pow-add 2 (k - j) j) ∙ mul-mod_left (2 ^ (k - j)) (2 ^ j)

-- the difference of two multiples is one
pub multiple_sub : (m a b : ℕ) → a % m ≡ 0 → b % m ≡ 0 → b ≤ a → (a - b) % m ≡ 0
multiple_sub m a b ea eb h =
    let whole : (b + (a - b)) % m ≡ 0 = ap (λ (n : ℕ). n % m) (omega arith) ∙ ea in
    sym (mod-mod (a - b) m) ∙ sym (ap (λ (n : ℕ). (n + (a - b) % m) % m) eb ∙ ap (λ (n : ℕ). n % m) (zero-add ((a - b) % m))) ∙ sym (add-mod b (a - b) m) ∙ whole

-- where a run of 2^j places from a multiple of 2^j on lies in 2^k places, it is of order k at most
pub order_inside : (j k a : ℕ) → a + 2 ^ j ≤ 2 ^ k → j ≤ k
order_inside j k a h = le_from_pow j k (omega arith)

-- a run in the lower half, and one in the upper half
pub in_low : (j k a : ℕ) → j ≢ k → a % 2 ^ j ≡ 0 → a + 2 ^ j ≤ 2 ^ k → a < 2 ^ (k - 1) → a + 2 ^ j ≤ 2 ^ (k - 1)
in_low j k a ne m h l = multiple_below j (k - 1) a (omega (arith, order_inside j k a h, ne)) m l

pub high_multiple : (j k a : ℕ) → j ≢ k → a % 2 ^ j ≡ 0 → a + 2 ^ j ≤ 2 ^ k → 2 ^ (k - 1) ≤ a → (a - 2 ^ (k - 1)) % 2 ^ j ≡ 0
high_multiple j k a ne m h l =
    multiple_sub (2 ^ j) a (2 ^ (k - 1)) m (pow_multiple j (k - 1) (omega (arith, order_inside j k a h, ne))) l

pub in_high : (j k a : ℕ) → j ≢ k → a + 2 ^ j ≤ 2 ^ k → 2 ^ (k - 1) ≤ a → a - 2 ^ (k - 1) + 2 ^ j ≤ 2 ^ (k - 1)
in_high j k a ne h l =
    let some : 0 < k = omega (arith, order_inside j k a h, ne) in
    omega (arith, pow_double (k - 1), ap (λ (n : ℕ). 2 ^ n) (the_order some))
  where
    the_order : 0 < k → suc (k - 1) ≡ k
    the_order some = omega arith

-- the sum of two multiples is one
pub multiple_add : (m a b : ℕ) → a % m ≡ 0 → b % m ≡ 0 → (a + b) % m ≡ 0
multiple_add m a b ea eb =
    add-mod a b m ∙ ap (λ (n : ℕ). (n + b % m) % m) ea ∙ ap (λ (n : ℕ). (0 + n) % m) eb ∙ zero-mod m
