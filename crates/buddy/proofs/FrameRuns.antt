-- Runs over any test of which frames are free: where they lie, and how two of them meet. Blocks have
-- 2^top frames.
use Rattle.std.proofs.Common.{◌≡◌, ℕ, zero, suc, ◌+◌, ◌-◌, ◌%◌, ◌^◌, ◌<◌, ◌≤◌, Bool, true, false, sym, ap, ◌∙◌, subst, arith, inl, inr, ◌⊎◌}
use Rattle.std.proofs.lemmas.Bool.{cases_lt, cases_order}
use Rattle.std.proofs.lemmas.Nat.{pow_pos, pow_below}
use Rattle.std.proofs.Math.Nat.{mod-le}
use Rattle.buddy.proofs.Aligned.{next_multiple, aligned_add, aligned_less, floor_aligned, floor_within, run_inside, floor_same}

-- a run of order k from n on, whose frames all pass the test
pub record IsRunOf (top : ℕ) (test : ℕ → Bool) (k n : ℕ) : Type 0 where
  pub order : k ≤ top
  pub aligned : n % 2 ^ k ≡ 0
  pub free : (x : ℕ) → n ≤ x → x < n + 2 ^ k → test x ≡ true

-- one that lies in no longer one
pub record IsFreeRunOf (top : ℕ) (test : ℕ → Bool) (k n : ℕ) : Type 0 where
  pub all : IsRunOf top test k n
  pub longest : ¬ IsRunOf top test (k + 1) (n - n % 2 ^ (k + 1))

-- a part of a run is a run
pub run_part : (top : ℕ) (test : ℕ → Bool) (j k m n x : ℕ) → IsRunOf top test k n → j ≤ k → m % 2 ^ j ≡ 0 → m ≤ x → x < m + 2 ^ j → n ≤ x → x < n + 2 ^ k → IsRunOf top test j m
run_part top test j k m n x r l a m_le m_lt n_le n_lt =
    let inside = run_inside j k m n x l a r.aligned m_le m_lt n_le n_lt in
    record { order = omega (arith, r.order); aligned = a; free = λ y f u. r.free y (omega (arith, inside)) (omega (arith, inside)) }

-- a free run and a longer run have no frame in common
pub never_shorter : (top : ℕ) (test : ℕ → Bool) (j k m n x : ℕ) → IsFreeRunOf top test j m → IsRunOf top test k n → j < k → m ≤ x → x < m + 2 ^ j → n ≤ x → x < n + 2 ^ k → ⊥
never_shorter top test j k m n x f r l m_le m_lt n_le n_lt =
    let w = floor_within (j + 1) m in
    let at = floor_aligned (j + 1) m in
    let inside = run_inside j (j + 1) m (m - m % 2 ^ (j + 1)) m (omega arith) f.all.aligned at (omega arith) (omega (arith, pow_pos j)) w.0 w.1 in
    f.longest (run_part top test (j + 1) k (m - m % 2 ^ (j + 1)) n x r (omega arith) at (omega (arith, inside)) (omega (arith, inside)) n_le n_lt)

-- two free runs with a frame in common are the same
pub one_run : (top : ℕ) (test : ℕ → Bool) (j k m n x : ℕ) → IsFreeRunOf top test j m → IsFreeRunOf top test k n → m ≤ x → x < m + 2 ^ j → n ≤ x → x < n + 2 ^ k → (j ≡ k) × (m ≡ n)
one_run top test j k m n x f g m_le m_lt n_le n_lt =
    elim (cases_order j k) [
      | inl same ↦
          let n_lt' : x < n + 2 ^ j = subst (λ (i : ℕ). x < n + 2 ^ i) (sym same) n_lt in
          let at : n % 2 ^ j ≡ 0 = aligned_less j k n (omega (arith, same)) g.all.aligned in
          (same, sym (floor_same j m x f.all.aligned m_le m_lt) ∙ floor_same j n x at n_le n_lt')
      | inr other ↦ elim other [
        | inl l ↦ absurd (never_shorter top test j k m n x f g.all l m_le m_lt n_le n_lt)
        | inr l ↦ absurd (never_shorter top test k j n m x g f.all l n_le n_lt m_le m_lt)
      ]
    ]

-- a run that holds a free run is that free run
pub maximal : (top : ℕ) (test : ℕ → Bool) (k n j m : ℕ) → IsFreeRunOf top test k n → IsRunOf top test j m → m ≤ n → n + 2 ^ k ≤ m + 2 ^ j → (j ≡ k) × (m ≡ n)
maximal top test k n j m f r l u =
    let some : 0 < 2 ^ k = pow_pos k in
    elim (cases_order j k) [
      | inl same ↦ let e : 2 ^ j ≡ 2 ^ k = ap (λ (i : ℕ). 2 ^ i) same in (same, omega (arith, e, l, u))
      | inr other ↦ elim other [
        | inl less ↦ let shorter : 2 ^ j < 2 ^ k = pow_below j k less in absurd (omega (arith, shorter, l, u))
        | inr more ↦ absurd (never_shorter top test k j n m n f r more (omega arith) (omega (arith, some)) l (omega (arith, some, u)))
      ]
    ]

-- a free run that holds a run
pub record Grown (top : ℕ) (test : ℕ → Bool) (k n : ℕ) : Type 0 where
  pub order : ℕ
  pub first : ℕ
  pub run : IsFreeRunOf top test order first
  pub no_shorter : k ≤ order
  pub start : first ≤ n
  pub end : n + 2 ^ k ≤ first + 2 ^ order

-- every run lies in a free run, where one can tell which are runs
pub grow : (top : ℕ) (test : ℕ → Bool) → ((k n : ℕ) → IsRunOf top test k n ⊎ ¬ IsRunOf top test k n) → (d k n : ℕ) → k + d ≡ top → IsRunOf top test k n → Grown top test k n
grow top test tells zero k n e r =
    record { order = k; first = n; run = record { all = r; longest = λ longer. omega (arith, longer.order, e) }; no_shorter = omega arith; start = omega arith; end = omega arith }
grow top test tells (suc d) k n e r =
    elim (tells (k + 1) (n - n % 2 ^ (k + 1))) [
      | inl longer ↦
          let w = floor_within (k + 1) n in
          let inside = run_inside k (k + 1) n (n - n % 2 ^ (k + 1)) n (omega arith) r.aligned longer.aligned (omega arith) (omega (arith, pow_pos k)) w.0 w.1 in
          let g : Grown top test (k + 1) (n - n % 2 ^ (k + 1)) = grow top test tells d (k + 1) (n - n % 2 ^ (k + 1)) (omega (arith, e)) longer in
          record { order = g.order; first = g.first; run = g.run; no_shorter = omega (arith, g.no_shorter); start = omega (arith, g.start, inside); end = omega (arith, g.end, inside) }
      | inr none ↦
          record { order = k; first = n; run = record { all = r; longest = none }; no_shorter = omega arith; start = omega arith; end = omega arith }
    ]

-- a test of the frames of a part: that of the frames from `base` on, a whole number of blocks, and false from
-- `count` on
pub record IsWindow (top : ℕ) (test part : ℕ → Bool) (base count : ℕ) : Type 0 where
  pub base_at : base % 2 ^ top ≡ 0
  pub count_at : count % 2 ^ top ≡ 0
  pub same : (x : ℕ) → x < count → part x ≡ test (base + x)
  pub past : (x : ℕ) → count ≤ x → part x ≡ false

within_window : (top : ℕ) (test part : ℕ → Bool) (base count x : ℕ) → IsWindow top test part base count → part x ≡ true → x < count
within_window top test part base count x w e =
    elim (cases_lt x count) [ inl l ↦ l | inr p ↦ let c : true ≡ false = sym e ∙ w.past x p in absurd (cc) ]

-- the runs in a window are those of the whole that begin in it
pub from_window : (top : ℕ) (test part : ℕ → Bool) (base count k x : ℕ) → IsWindow top test part base count → IsRunOf top part k x → (x < count) × IsRunOf top test k (base + x)
from_window top test part base count k x w r =
    let some : 0 < 2 ^ k = pow_pos k in (
      within_window top test part base count x w (r.free x (omega arith) (omega (arith, some))),
      record {
        order = r.order;
        aligned = aligned_add (2 ^ k) base x (aligned_less k top base r.order w.base_at) ∙ r.aligned;
        free = λ y f l.
            let e : base + (y - base) ≡ y = omega arith in
            let there : part (y - base) ≡ true = r.free (y - base) (omega arith) (omega arith) in
            ap test (sym e) ∙ sym (w.same (y - base) (within_window top test part base count (y - base) w there)) ∙ there;
      },
    )

pub into_window : (top : ℕ) (test part : ℕ → Bool) (base count k x : ℕ) → IsWindow top test part base count → x < count → IsRunOf top test k (base + x) → IsRunOf top part k x
into_window top test part base count k x w l r =
    let at : x % 2 ^ k ≡ 0 = sym (aligned_add (2 ^ k) base x (aligned_less k top base r.order w.base_at)) ∙ r.aligned in
    let inside : x + 2 ^ k ≤ count = next_multiple (2 ^ k) x count at (aligned_less k top count r.order w.count_at) l in
    record {
      order = r.order;
      aligned = at;
      free = λ y f u. w.same y (omega arith) ∙ r.free (base + y) (omega arith) (omega arith);
    }

window_floor : (top k base x : ℕ) → base % 2 ^ top ≡ 0 → k ≤ top → (base + x) - (base + x) % 2 ^ k ≡ base + (x - x % 2 ^ k)
window_floor top k base x at l =
    let same : (base + x) % 2 ^ k ≡ x % 2 ^ k = aligned_add (2 ^ k) base x (aligned_less k top base l at) in
    let below = floor_within k x in
    omega (arith, same, mod-le x (2 ^ k))

-- the same for free runs
pub free_from_window : (top : ℕ) (test part : ℕ → Bool) (base count k x : ℕ) → IsWindow top test part base count → IsFreeRunOf top part k x → (x < count) × IsFreeRunOf top test k (base + x)
free_from_window top test part base count k x w f =
    let r = from_window top test part base count k x w f.all in (
      r.0,
      record {
        all = r.1;
        longest = λ longer.
            let there : IsRunOf top test (k + 1) (base + (x - x % 2 ^ (k + 1))) = subst (λ (y : ℕ). IsRunOf top test (k + 1) y) (window_floor top (k + 1) base x w.base_at longer.order) longer in
            f.longest (into_window top test part base count (k + 1) (x - x % 2 ^ (k + 1)) w (omega (arith, r.0)) there);
      },
    )

pub free_into_window : (top : ℕ) (test part : ℕ → Bool) (base count k x : ℕ) → IsWindow top test part base count → x < count → IsFreeRunOf top test k (base + x) → IsFreeRunOf top part k x
free_into_window top test part base count k x w l f =
    record {
      all = into_window top test part base count k x w l f.all;
      longest = λ longer.
          let there : IsRunOf top test (k + 1) (base + (x - x % 2 ^ (k + 1))) = (from_window top test part base count (k + 1) (x - x % 2 ^ (k + 1)) w longer).1 in
          f.longest (subst (λ (y : ℕ). IsRunOf top test (k + 1) y) (sym (window_floor top (k + 1) base x w.base_at longer.order)) there);
    }
