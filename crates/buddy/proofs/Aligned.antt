-- Multiples of powers of two, and the runs that start at them.
use Rattle.std.proofs.Common.{◌≡◌, ℕ, ◌+◌, ◌*◌, ◌-◌, ◌/◌, ◌%◌, ◌^◌, ◌<◌, ◌≤◌, ap, ◌∙◌, arith, inl, inr}
use Rattle.std.proofs.lemmas.Bool.{cases_lt}
use Rattle.std.proofs.Math.Nat.{mul-mod_left, mul-add-mod_self_right, lt_of_mul-lt-mul_right, mul-le-mul_right}
use Rattle.std.proofs.lemmas.Nat.{pow_pos, pow-add, mod_below, div-add-mod'}

-- a number with no remainder is the quotient's multiple
multiple : (m n : ℕ) → n % m ≡ 0 → n ≡ n / m * m
multiple m n h = omega (arith, div-add-mod' n m)

-- of two multiples that are apart, the higher is a whole step higher
pub next_multiple : (m a b : ℕ) → a % m ≡ 0 → b % m ≡ 0 → a < b → a + m ≤ b
next_multiple m a b ha hb l =
    let ea = multiple m a ha in
    let eb = multiple m b hb in
    let below : a / m * m < b / m * m = omega (arith, ea, eb) in
    let quotients : a / m < b / m = lt_of_mul-lt-mul_right m below in
    let steps : (a / m + 1) * m ≤ b / m * m = mul-le-mul_right m (omega arith) in
    omega (arith, ea, eb, steps)

pub aligned_add : (m a b : ℕ) → a % m ≡ 0 → (a + b) % m ≡ b % m
aligned_add m a b h = ap (λ (x : ℕ). (x + b) % m) (multiple m a h) ∙ mul-add-mod_self_right (a / m) m b

-- a multiple of a higher power is one of a lower power
pub aligned_less : (j k n : ℕ) → j ≤ k → n % 2 ^ k ≡ 0 → n % 2 ^ j ≡ 0
aligned_less j k n l h =
    let power : 2 ^ k ≡ 2 ^ (k - j) * 2 ^ j = ap (λ (x : ℕ). 2 ^ x) (let e : k ≡ (k - j) + j = omega arith in e) ∙ pow-add 2 (k - j) j in
    let e : n ≡ n / 2 ^ k * 2 ^ (k - j) * 2 ^ j = multiple (2 ^ k) n h ∙ ap (λ (x : ℕ). n / 2 ^ k * x) power ∙ omega arith in
    ap (λ (x : ℕ). x % 2 ^ j) e ∙ mul-mod_left (n / 2 ^ k * 2 ^ (k - j)) (2 ^ j)

-- the multiple of 2^k at or below n
pub floor_aligned : (k n : ℕ) → (n - n % 2 ^ k) % 2 ^ k ≡ 0
floor_aligned k n =
    let e : n - n % 2 ^ k ≡ n / 2 ^ k * 2 ^ k = omega (arith, div-add-mod' n (2 ^ k)) in
    ap (λ (x : ℕ). x % 2 ^ k) e ∙ mul-mod_left (n / 2 ^ k) (2 ^ k)

pub floor_within : (k n : ℕ) → (n - n % 2 ^ k ≤ n) × (n < n - n % 2 ^ k + 2 ^ k)
floor_within k n = omega (arith, mod_below n (2 ^ k) (pow_pos k), div-add-mod' n (2 ^ k))

-- of two runs with a number in common, the shorter lies in the longer
pub run_inside : (j k m n x : ℕ) → j ≤ k → m % 2 ^ j ≡ 0 → n % 2 ^ k ≡ 0 → m ≤ x → x < m + 2 ^ j → n ≤ x → x < n + 2 ^ k → (n ≤ m) × (m + 2 ^ j ≤ n + 2 ^ k)
run_inside j k m n x l hm hn m_le m_lt n_le n_lt =
    let n_at : n % 2 ^ j ≡ 0 = aligned_less j k n l hn in
    let end_at : (n + 2 ^ k) % 2 ^ k ≡ 0 = aligned_add (2 ^ k) n (2 ^ k) hn ∙ (ap (λ (x : ℕ). x % 2 ^ k) (let e : 2 ^ k ≡ 1 * 2 ^ k = omega arith in e) ∙ mul-mod_left 1 (2 ^ k)) in
    let end_at_j : (n + 2 ^ k) % 2 ^ j ≡ 0 = aligned_less j k (n + 2 ^ k) l end_at in
    let m_end : m + 2 ^ j ≤ n + 2 ^ k = next_multiple (2 ^ j) m (n + 2 ^ k) hm end_at_j (omega arith) in
    let start : n ≤ m = elim (cases_lt m n) [
      | inl lower ↦ absurd (omega (arith, next_multiple (2 ^ j) m n hm n_at lower))
      | inr e ↦ e
    ] in
    (start, m_end)

-- two numbers in one run of an order have the same multiple below
pub floor_same : (k n x : ℕ) → n % 2 ^ k ≡ 0 → n ≤ x → x < n + 2 ^ k → x - x % 2 ^ k ≡ n
floor_same k n x h l u =
    let w = floor_within k x in
    let there = run_inside k k (x - x % 2 ^ k) n x (omega arith) (floor_aligned k x) h w.0 w.1 l u in
    omega (arith, there)
