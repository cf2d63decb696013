-- What the lowest free run of a part is, in terms of the runs that the frames make.
use Rattle.std.proofs.Common.{◌≡◌, ℕ, zero, suc, ◌+◌, ◌-◌, ◌%◌, ◌^◌, ◌<◌, ◌≤◌, Bool, true, false, cond, ◌&&◌, List, take, drop, Option, None, Some, refl, sym, ap, ◌∙◌, subst, arith, inl, inr}
use Rattle.std.specs.Prelude.{map, ◌==◌}
use Rattle.std.specs.List.{range_with_len, list_all}
use Rattle.std.specs.Option.{option_or, option_map}
use Rattle.std.proofs.Math.Nat.{mod_self}
use Rattle.std.proofs.Math.Dec.{leb}
use Rattle.std.proofs.lemmas.Bool.{and_parts, and_from, cases_lt, leb-true, le-leb, eqb-true, eqb-false}
use Rattle.std.proofs.lemmas.List.{drop-map}
use Rattle.std.proofs.lemmas.List.FromFn.{take-map-range_with_len}
use Rattle.std.proofs.lemmas.List.Folds.{list_all-map}
use Rattle.std.proofs.lemmas.Nat.{pow_pos}
use Rattle.buddy.specs.Parts.{is_whole, lowest_run}
use Rattle.buddy.proofs.Aligned.{aligned_add, aligned_less, floor_same}
use Rattle.buddy.proofs.FrameRuns.{IsRunOf, IsFreeRunOf, run_part, one_run}
use Rattle.buddy.proofs.Least.{IsLeast, least_or, least_add}
use Rattle.evac_model.proofs.Ranges.{range-list_all, list_all-range}
use Rattle.buddy.proofs.Powers.{pow_double}

-- the frames of a part from a on
abbrev pub frames_from : (ℕ → Bool) → (a order : ℕ) → List Bool
frames_from test a order = map test (range_with_len a (2 ^ order))

drop_range : (a m n k : ℕ) → k ≡ m + n → drop m (range_with_len a k) ≡ range_with_len (a + m) n
drop_range a zero n k e =
    let same : k ≡ n = omega (arith, e) in
    let at : a ≡ a + 0 = omega arith in
    ap (λ (x : ℕ). range_with_len a x) same ∙ ap (λ (x : ℕ). range_with_len x n) at
drop_range a (suc m) n zero e = absurd (omega (arith, e))
drop_range a (suc m) n (suc k) e =
    let at : a + 1 + m ≡ a + suc m = omega arith in
    drop_range (a + 1) m n k (omega (arith, e)) ∙ ap (λ (x : ℕ). range_with_len x n) at

pub lower_half : (test : ℕ → Bool) (a k : ℕ) → take (2 ^ k) (frames_from test a (suc k)) ≡ frames_from test a k
lower_half test a k = take-map-range_with_len test a (2 ^ suc k) (2 ^ k) (omega (arith, pow_double k))

pub upper_half : (test : ℕ → Bool) (a k : ℕ) → drop (2 ^ k) (frames_from test a (suc k)) ≡ frames_from test (a + 2 ^ k) k
upper_half test a k =
    drop-map test (2 ^ k) (range_with_len a (2 ^ suc k)) ∙ ap (λ (xs : List ℕ). map test xs) (drop_range a (2 ^ k) (2 ^ k) (2 ^ suc k) (pow_double k))

-- a part is a free run as a whole just if its frames are a run
whole_run : (top : ℕ) (test : ℕ → Bool) (order a : ℕ) → a % 2 ^ order ≡ 0 → is_whole top order (frames_from test a order) ≡ true → IsRunOf top test order a
whole_run top test order a at e =
    let parts = and_parts (leb order top) (list_all (λ (b : Bool). b) (frames_from test a order)) e in
    let all : list_all test (range_with_len a (2 ^ order)) ≡ true = sym (list_all-map (λ (b : Bool). b) test (range_with_len a (2 ^ order))) ∙ parts.1 in
    record { order = leb-true order top parts.0; aligned = at; free = range-list_all test a (2 ^ order) all }

run_whole : (top : ℕ) (test : ℕ → Bool) (order a : ℕ) → IsRunOf top test order a → is_whole top order (frames_from test a order) ≡ true
run_whole top test order a r =
    and_from (leb order top) (list_all (λ (b : Bool). b) (frames_from test a order)) (le-leb order top r.order)
    (list_all-map (λ (b : Bool). b) test (range_with_len a (2 ^ order)) ∙ list_all-range test a (2 ^ order) r.free)

-- no run of the next order round a part
abbrev pub IsAlone : (top : ℕ) (test : ℕ → Bool) (order a : ℕ) → Type 0
IsAlone top test order a = ¬ IsRunOf top test (order + 1) (a - a % 2 ^ (order + 1))

-- the place of a free run in a part from a on
abbrev pub IsPlace : (top : ℕ) (test : ℕ → Bool) (order a wanted : ℕ) → (place : ℕ) → Type 0
IsPlace top test order a wanted place = (place < 2 ^ order) × IsFreeRunOf top test wanted (a + place)

-- the halves of a part that is no run are alone
half_alone : (top : ℕ) (test : ℕ → Bool) (k a x : ℕ) → a % 2 ^ suc k ≡ 0 → ¬ IsRunOf top test (suc k) a → a ≤ x → x < a + 2 ^ suc k → IsAlone top test k x
half_alone top test k a x at none f l longer =
    let e : k + 1 ≡ suc k = omega arith in
    let there : IsRunOf top test (suc k) (x - x % 2 ^ suc k) = subst (λ (i : ℕ). IsRunOf top test i (x - x % 2 ^ i)) e longer in
    none (subst (λ (y : ℕ). IsRunOf top test (suc k) y) (floor_same (suc k) a x at f l) there)

-- a part that is a free run as a whole has no other
whole_least : (top : ℕ) (test : ℕ → Bool) (order a wanted : ℕ) → IsRunOf top test order a → IsAlone top test order a → (t : Bool) → (wanted == order) ≡ t → IsLeast (IsPlace top test order a wanted) (cond t (Some 0) None)
whole_least top test order a wanted r alone true e =
    let same : wanted ≡ order = eqb-true wanted order e in
    let here : a + 0 ≡ a = omega arith in
    let f : IsFreeRunOf top test order a = record { all = r; longest = alone } in
    ((pow_pos order, subst (λ (y : ℕ). IsFreeRunOf top test wanted y) (sym here) (subst (λ (i : ℕ). IsFreeRunOf top test i a) (sym same) f)), λ x p. omega arith)
whole_least top test order a wanted r alone false e = λ x p.
    let f : IsFreeRunOf top test order a = record { all = r; longest = alone } in
    let same = one_run top test wanted order (a + x) a (a + x) p.1 f (omega arith) (omega (arith, pow_pos wanted)) (omega arith) (omega (arith, p.0)) in
    eqb-false wanted order e same.0

leaf_least : (top : ℕ) (test : ℕ → Bool) (a wanted : ℕ) → a % 2 ^ 0 ≡ 0 → IsAlone top test 0 a → (t : Bool) → is_whole top 0 (frames_from test a 0) ≡ t → IsLeast (IsPlace top test 0 a wanted) (cond (t && (wanted == 0)) (Some 0) None)
leaf_least top test a wanted at alone true e = whole_least top test 0 a wanted (whole_run top test 0 a at e) alone (wanted == 0) refl
leaf_least top test a wanted at alone false e = λ x p.
    let part : IsRunOf top test 0 a = run_part top test 0 wanted a (a + x) a p.1.all (omega arith) at (omega arith) (omega arith) (omega (arith, p.0)) (omega (arith, p.0, pow_pos wanted)) in
    let c : false ≡ true = sym e ∙ run_whole top test 0 a part in cc

-- the halves' places are the part's
join_least : (top : ℕ) (test : ℕ → Bool) (k a wanted : ℕ) (low high : Option ℕ) → IsLeast (IsPlace top test k a wanted) low → IsLeast (IsPlace top test k (a + 2 ^ k) wanted) high → IsLeast (IsPlace top test (suc k) a wanted) (option_or low (option_map (λ place. 2 ^ k + place) high))
join_least top test k a wanted low high l u =
    let P : ℕ → Type 0 = IsPlace top test k a wanted in
    let Q : ℕ → Type 0 = λ x. (2 ^ k ≤ x) × IsPlace top test (suc k) a wanted x in
    let R : ℕ → Type 0 = IsPlace top test (suc k) a wanted in
    least_or P Q R low (option_map (λ place. 2 ^ k + place) high)
    (λ x y p q. omega (arith, p.0, q.0))
    (λ x p. (omega (arith, p.0, pow_double k), p.1))
    (λ x q. q.1)
    (λ x r. elim (cases_lt x (2 ^ k)) [ inl lower ↦ inl (lower, r.1) | inr higher ↦ inr (higher, r) ])
    l
    (least_add (2 ^ k) (IsPlace top test k (a + 2 ^ k) wanted) Q high
    (λ x p. let e : a + 2 ^ k + x ≡ a + (2 ^ k + x) = omega arith in
    (omega arith, (omega (arith, p.0, pow_double k), subst (λ (y : ℕ). IsFreeRunOf top test wanted y) e p.1)))
    (λ x q. let e : a + x ≡ a + 2 ^ k + (x - 2 ^ k) = omega (arith, q.0) in
    (x - 2 ^ k, omega (arith, q.0), (omega (arith, q.0, q.1.0, pow_double k), subst (λ (y : ℕ). IsFreeRunOf top test wanted y) e q.1.1)))
    u)

node_least : (top : ℕ) (test : ℕ → Bool) (k a wanted : ℕ) (low high : Option ℕ) → a % 2 ^ suc k ≡ 0 → IsAlone top test (suc k) a → (¬ IsRunOf top test (suc k) a → IsLeast (IsPlace top test k a wanted) low) → (¬ IsRunOf top test (suc k) a → IsLeast (IsPlace top test k (a + 2 ^ k) wanted) high) → (t : Bool) → is_whole top (suc k) (frames_from test a (suc k)) ≡ t → IsLeast (IsPlace top test (suc k) a wanted) (cond t (cond (wanted == suc k) (Some 0) None) (option_or low (option_map (λ place. 2 ^ k + place) high)))
node_least top test k a wanted low high at alone l u true e = whole_least top test (suc k) a wanted (whole_run top test (suc k) a at e) alone (wanted == suc k) refl
node_least top test k a wanted low high at alone l u false e =
    let none : ¬ IsRunOf top test (suc k) a = λ r. let c : false ≡ true = sym e ∙ run_whole top test (suc k) a r in cc in
    join_least top test k a wanted low high (l none) (u none)

-- the lowest free run that a part has is the lowest that its frames make
pub lowest_least : (top : ℕ) (test : ℕ → Bool) (order a wanted : ℕ) → a % 2 ^ order ≡ 0 → IsAlone top test order a → IsLeast (IsPlace top test order a wanted) (lowest_run top order (frames_from test a order) wanted)
lowest_least top test zero a wanted at alone = leaf_least top test a wanted at alone (is_whole top 0 (frames_from test a 0)) refl
lowest_least top test (suc k) a wanted at alone =
    let low_at : a % 2 ^ k ≡ 0 = aligned_less k (suc k) a (omega arith) at in
    let high_at : (a + 2 ^ k) % 2 ^ k ≡ 0 = aligned_add (2 ^ k) a (2 ^ k) low_at ∙ mod_self (2 ^ k) in
    let some : 0 < 2 ^ k = pow_pos k in
    let two : 2 ^ suc k ≡ 2 ^ k + 2 ^ k = pow_double k in
    node_least top test k a wanted
    (lowest_run top k (take (2 ^ k) (frames_from test a (suc k))) wanted)
    (lowest_run top k (drop (2 ^ k) (frames_from test a (suc k))) wanted)
    at alone
    (λ none. subst (λ (bs : List Bool). IsLeast (IsPlace top test k a wanted) (lowest_run top k bs wanted)) (sym (lower_half test a k))
    (lowest_least top test k a wanted low_at (half_alone top test k a a at none (omega arith) (omega (arith, some, two)))))
    (λ none. subst (λ (bs : List Bool). IsLeast (IsPlace top test k (a + 2 ^ k) wanted) (lowest_run top k bs wanted)) (sym (upper_half test a k))
    (lowest_least top test k (a + 2 ^ k) wanted high_at (half_alone top test k a (a + 2 ^ k) at none (omega arith) (omega (arith, some, two)))))
    (is_whole top (suc k) (frames_from test a (suc k))) refl
