-- The free runs of a machine as the runs that its free frames make.
use Rattle.std.proofs.Common.{◌≡◌, ℕ, ◌+◌, ◌*◌, ◌-◌, ◌%◌, ◌^◌, ◌<◌, ◌≤◌, Bool, true, ◌&&◌, ◌||◌, not, List, sym, ap, ◌∙◌, subst, arith, inl, inr, ◌⊎◌}
use Rattle.std.specs.Prelude.{◌==◌, nat_le, nat_lt, filter}
use Rattle.std.specs.List.{range_with_len, list_all, slice_get}
use Rattle.std.proofs.Math.Nat.{mul-mod_left}
use Rattle.std.proofs.lemmas.Bool.{and_parts, and_from, cases_lt, cases_Bool, leb-true, le-leb, ltb-true, lt-ltb, le-ltb, eqb-true, eq-eqb, not-true, not_from_false, or_right, false_from_ne_true, both_ways}
use Rattle.std.proofs.lemmas.Nat.{pow_pos, pow_below}
use Rattle.std.proofs.Math.Nat.{pow-le-pow_right}
use Rattle.std.proofs.Common.{lit<}
use Rattle.evac_model.specs.declared.names.Kind.{Kind}
use Rattle.evac_model.specs.Geometry.{Sizes, frame_count}
use Rattle.evac_model.specs.Numbers.{is_in}
use Rattle.evac_model.specs.Page.{is_movable}
use Rattle.evac_model.specs.FreeRuns.{fits, is_run, is_all_free, is_free_run, free_runs}
use Rattle.buddy.specs.Laws.{IsRunFor}
use Rattle.buddy.proofs.Aligned.{next_multiple, aligned_less}
use Rattle.buddy.proofs.FrameRuns.{IsRunOf, IsFreeRunOf, IsWindow}
use Rattle.buddy.proofs.Least.{IsLeast, least_like, first_of_range}
use Rattle.evac_model.proofs.Filters.{filter-filter}
use Rattle.evac_model.proofs.Ranges.{range-list_all, list_all-range}

-- whether a frame is one of the machine's and free
abbrev pub free_in : Sizes → List ℕ → ℕ → Bool
free_in s free x = nat_lt x (frame_count s) && is_in x free

pub count_aligned : (s : Sizes) (top k : ℕ) → s.block ≡ 2 ^ top → k ≤ top → frame_count s % 2 ^ k ≡ 0
count_aligned s top k e l =
    aligned_less k top (frame_count s) l (ap (λ (b : ℕ). (s.boot + s.managed) * b % 2 ^ top) e ∙ mul-mod_left (s.boot + s.managed) (2 ^ top))

pub blocks_aligned : (s : Sizes) (top n : ℕ) → s.block ≡ 2 ^ top → n * s.block % 2 ^ top ≡ 0
blocks_aligned s top n e = ap (λ (b : ℕ). n * b % 2 ^ top) e ∙ mul-mod_left n (2 ^ top)

-- an all-free run of the machine is a run of its free frames
pub run_from_spec : (s : Sizes) (free : List ℕ) (top k n : ℕ) → s.block ≡ 2 ^ top → is_all_free s free k n ≡ true → IsRunOf top (free_in s free) k n
run_from_spec s free top k n e t =
    let p = and_parts (is_run s k n) (list_all (λ frame. is_in frame free) (range_with_len n (2 ^ k))) t in
    let q = and_parts (n % 2 ^ k == 0 && nat_le (2 ^ k) s.block) (nat_lt n (frame_count s)) p.0 in
    let r = and_parts (n % 2 ^ k == 0) (nat_le (2 ^ k) s.block) q.0 in
    let at : n % 2 ^ k ≡ 0 = eqb-true (n % 2 ^ k) 0 r.0 in
    let small : 2 ^ k ≤ s.block = leb-true (2 ^ k) s.block r.1 in
    let order : k ≤ top = elim (cases_lt top k) [ inl l ↦ absurd (omega (arith, pow_below top k l, e, small)) | inr g ↦ g ] in
    let below : n < frame_count s = ltb-true n (frame_count s) q.1 in
    let inside : n + 2 ^ k ≤ frame_count s = next_multiple (2 ^ k) n (frame_count s) at (count_aligned s top k e order) below in
    record {
      order = order;
      aligned = at;
      free = λ x f l.
          let lower : x < frame_count s = omega (arith, l, inside) in
          and_from (nat_lt x (frame_count s)) (is_in x free) (lt-ltb x (frame_count s) lower) (range-list_all (λ frame. is_in frame free) n (2 ^ k) p.1 x f l);
    }

pub run_into_spec : (s : Sizes) (free : List ℕ) (top k n : ℕ) → s.block ≡ 2 ^ top → IsRunOf top (free_in s free) k n → is_all_free s free k n ≡ true
run_into_spec s free top k n e r =
    let tells : (x : ℕ) → n ≤ x → x < n + 2 ^ k → (nat_lt x (frame_count s) ≡ true) × (is_in x free ≡ true) = λ x f l. and_parts (nat_lt x (frame_count s)) (is_in x free) (r.free x f l) in
    let small : 2 ^ k ≤ s.block = omega (arith, e, pow-le-pow_right {n = 2} (lit< tt) {i = k} {j = top} r.order) in
    and_from (is_run s k n) (list_all (λ frame. is_in frame free) (range_with_len n (2 ^ k)))
    (and_from (n % 2 ^ k == 0 && nat_le (2 ^ k) s.block) (nat_lt n (frame_count s))
    (and_from (n % 2 ^ k == 0) (nat_le (2 ^ k) s.block) (eq-eqb (n % 2 ^ k) 0 r.aligned) (le-leb (2 ^ k) s.block small))
    ((tells n (omega arith) (omega (arith, pow_pos k))).0))
    (list_all-range (λ frame. is_in frame free) n (2 ^ k) (λ x f l. (tells x f l).1))

-- the same for free runs
pub free_from_spec : (s : Sizes) (free : List ℕ) (top k n : ℕ) → s.block ≡ 2 ^ top → is_free_run s free k n ≡ true → IsFreeRunOf top (free_in s free) k n
free_from_spec s free top k n e t =
    let p = and_parts (is_all_free s free k n) (not (is_all_free s free (k + 1) (n - n % 2 ^ (k + 1)))) t in
    record {
      all = run_from_spec s free top k n e p.0;
      longest = λ longer. both_ways (is_all_free s free (k + 1) (n - n % 2 ^ (k + 1))) (not-true (is_all_free s free (k + 1) (n - n % 2 ^ (k + 1))) p.1) (run_into_spec s free top (k + 1) (n - n % 2 ^ (k + 1)) e longer);
    }

pub free_into_spec : (s : Sizes) (free : List ℕ) (top k n : ℕ) → s.block ≡ 2 ^ top → IsFreeRunOf top (free_in s free) k n → is_free_run s free k n ≡ true
free_into_spec s free top k n e f =
    and_from (is_all_free s free k n) (not (is_all_free s free (k + 1) (n - n % 2 ^ (k + 1)))) (run_into_spec s free top k n e f.all)
    (not_from_false (is_all_free s free (k + 1) (n - n % 2 ^ (k + 1)))
    (false_from_ne_true (is_all_free s free (k + 1) (n - n % 2 ^ (k + 1))) (λ t. f.longest (run_from_spec s free top (k + 1) (n - n % 2 ^ (k + 1)) e t))))

-- a machine tells which runs are all free
pub run_or_not : (s : Sizes) (free : List ℕ) (top : ℕ) → s.block ≡ 2 ^ top → (k n : ℕ) → IsRunOf top (free_in s free) k n ⊎ ¬ IsRunOf top (free_in s free) k n
run_or_not s free top e k n =
    elim (cases_Bool (is_all_free s free k n)) [
      | inl t ↦ inl (run_from_spec s free top k n e t)
      | inr f ↦ inr (λ r. both_ways (is_all_free s free k n) f (run_into_spec s free top k n e r))
    ]

-- a run of free frames begins below the machine's end
pub run_below : (s : Sizes) (free : List ℕ) (top k n : ℕ) → IsRunOf top (free_in s free) k n → n < frame_count s
run_below s free top k n r =
    let here : free_in s free n ≡ true = r.free n (omega arith) (omega (arith, pow_pos k)) in
    ltb-true n (frame_count s) ((and_parts (nat_lt n (frame_count s)) (is_in n free) here).0)

-- the frames of a part as a window of the machine's
pub part_window : (s : Sizes) (free : List ℕ) (top base count : ℕ) → base % 2 ^ top ≡ 0 → count % 2 ^ top ≡ 0 → base + count ≤ frame_count s → IsWindow top (free_in s free) (λ k. nat_lt k count && is_in (base + k) free) base count
part_window s free top base count base_at count_at inside =
    record {
      base_at = base_at;
      count_at = count_at;
      same = λ x l.
          let there : base + x < frame_count s = omega (arith, l, inside) in
          ap (λ (t : Bool). t && is_in (base + x) free) (lt-ltb x count l ∙ sym (lt-ltb (base + x) (frame_count s) there));
      past = λ x l. ap (λ (t : Bool). t && is_in (base + x) free) (le-ltb x count l);
    }

-- blocks fit as a whole: boot blocks do, and managed blocks all or none
pub fits_boot : (s : Sizes) (online kind : Kind) (x : ℕ) → x < s.boot * s.block → fits s online kind x ≡ true
fits_boot s online kind x l = or_right (is_movable kind || not (is_movable online)) (nat_lt x (s.boot * s.block)) (lt-ltb x (s.boot * s.block) l)

pub fits_managed : (s : Sizes) (online kind : Kind) (x : ℕ) → s.boot * s.block ≤ x → fits s online kind x ≡ fits s online kind (s.boot * s.block)
fits_managed s online kind x l =
    ap (λ (t : Bool). is_movable kind || not (is_movable online) || t)
    (le-ltb x (s.boot * s.block) l ∙ sym (le-ltb (s.boot * s.block) (s.boot * s.block) (omega arith)))

free_below : (s : Sizes) (free : List ℕ) (k n : ℕ) → is_free_run s free k n ≡ true → n < frame_count s
free_below s free k n t =
    let p = and_parts (is_all_free s free k n) (not (is_all_free s free (k + 1) (n - n % 2 ^ (k + 1)))) t in
    let q = and_parts (is_run s k n) (list_all (λ frame. is_in frame free) (range_with_len n (2 ^ k))) p.0 in
    let r = and_parts (n % 2 ^ k == 0 && nat_le (2 ^ k) s.block) (nat_lt n (frame_count s)) q.0 in
    ltb-true n (frame_count s) r.1

-- the first of them
pub first_fitting : (s : Sizes) (online kind : Kind) (free : List ℕ) (k : ℕ) → IsLeast (IsRunFor s online kind free k) (slice_get (filter (fits s online kind) (free_runs s free k)) 0)
first_fitting s online kind free k =
    let q : ℕ → Bool = λ x. is_free_run s free k x && fits s online kind x in
    let e : filter (fits s online kind) (free_runs s free k) ≡ filter q (range_with_len 0 (frame_count s)) = filter-filter (fits s online kind) (is_free_run s free k) (range_with_len 0 (frame_count s)) in
    subst (λ (xs : List ℕ). IsLeast (IsRunFor s online kind free k) (slice_get xs 0)) (sym e)
    (least_like (λ x. (0 ≤ x) × (x < 0 + frame_count s) × (q x ≡ true)) (IsRunFor s online kind free k) (slice_get (filter q (range_with_len 0 (frame_count s))) 0)
    (λ x p. and_parts (is_free_run s free k x) (fits s online kind x) p.2)
    (λ x p. (omega arith, let l : x < frame_count s = free_below s free k x p.0 in omega (arith, l), and_from (is_free_run s free k x) (fits s online kind x) p.0 p.1))
    (first_of_range q 0 (frame_count s)))
