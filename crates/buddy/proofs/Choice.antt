-- The chosen run is the lowest that two parts have.
use Rattle.std.proofs.Common.{◌≡◌, ℕ, ◌+◌, ◌*◌, ◌-◌, ◌%◌, ◌^◌, ◌<◌, ◌≤◌, Bool, true, cond, ◌&&◌, List, Option, None, sym, ◌∙◌, subst, arith, inl, inr}
use Rattle.std.specs.Prelude.{nat_lt, filter, flat_map}
use Rattle.std.specs.List.{range_with_len, slice_get}
use Rattle.std.specs.Option.{option_map}
use Rattle.std.proofs.Math.Nat.{zero-mod}
use Rattle.std.proofs.lemmas.Bool.{cases_lt}
use Rattle.evac_model.specs.declared.names.Kind.{Kind}
use Rattle.evac_model.specs.Geometry.{Sizes, frame_count}
use Rattle.evac_model.specs.Numbers.{is_in}
use Rattle.evac_model.specs.FreeRuns.{fits, free_runs, chosen_run}
use Rattle.buddy.specs.Parts.{lowest_run}
use Rattle.buddy.specs.Choice.{part_free, lowest_choice, first_choice}
use Rattle.buddy.specs.Laws.{IsRunFor}
use Rattle.buddy.proofs.FrameRuns.{IsFreeRunOf, IsWindow, free_from_window, free_into_window}
use Rattle.buddy.proofs.LowestPlaces.{IsPlace, lowest_least}
use Rattle.buddy.proofs.MachineRuns.{free_in, run_below, free_from_spec, free_into_spec, part_window, fits_boot, fits_managed, first_fitting, blocks_aligned}
use Rattle.buddy.proofs.Least.{IsLeast, least_same, least_like, least_or, least_add, least_if, first-flat_map, first_choice_agree}
use Rattle.buddy.proofs.Places.{frames_split}

-- the lowest free run of a part
pub part_least : (s : Sizes) (free : List ℕ) (top base count order wanted : ℕ) → base % 2 ^ top ≡ 0 → count % 2 ^ top ≡ 0 → base + count ≤ frame_count s → top ≤ order → count ≤ 2 ^ order → IsLeast (λ x. (x < count) × IsFreeRunOf top (free_in s free) wanted (base + x)) (lowest_run top order (part_free free base count order) wanted)
part_least s free top base count order wanted base_at count_at inside l small =
    let test : ℕ → Bool = free_in s free in
    let part : ℕ → Bool = λ k. nat_lt k count && is_in (base + k) free in
    let w : IsWindow top test part base count = part_window s free top base count base_at count_at inside in
    least_like (IsPlace top part order 0 wanted) (λ x. (x < count) × IsFreeRunOf top test wanted (base + x)) (lowest_run top order (part_free free base count order) wanted)
    (λ x p. let e : 0 + x ≡ x = omega arith in free_from_window top test part base count wanted x w (subst (λ (y : ℕ). IsFreeRunOf top part wanted y) e p.1))
    (λ x p. let e : x ≡ 0 + x = omega arith in (omega (arith, p.0, small), subst (λ (y : ℕ). IsFreeRunOf top part wanted y) e (free_into_window top test part base count wanted x w p.0 p.1)))
    (lowest_least top part order 0 wanted (zero-mod (2 ^ order)) (λ longer. omega (arith, longer.order, l)))

-- the lowest of an order, in both parts
pub choice_least : (s : Sizes) (online kind : Kind) (free : List ℕ) (top ob om wanted : ℕ) → s.block ≡ 2 ^ top → top ≤ ob → s.boot * s.block ≤ 2 ^ ob → top ≤ om → s.managed * s.block ≤ 2 ^ om → IsLeast (IsRunFor s online kind free wanted) (lowest_choice s online kind top ob om (part_free free 0 (s.boot * s.block) ob) (part_free free (s.boot * s.block) (s.managed * s.block) om) wanted)
choice_least s online kind free top ob om wanted e lb sb lm sm =
    let test : ℕ → Bool = free_in s free in
    let all : frame_count s ≡ s.boot * s.block + s.managed * s.block = frames_split s in
    let boot : Option ℕ = lowest_run top ob (part_free free 0 (s.boot * s.block) ob) wanted in
    let managed : Option ℕ = lowest_run top om (part_free free (s.boot * s.block) (s.managed * s.block) om) wanted in
    let P : ℕ → Type 0 = λ x. (x < s.boot * s.block) × IsFreeRunOf top test wanted (0 + x) in
    let M : ℕ → Type 0 = λ x. (x < s.managed * s.block) × IsFreeRunOf top test wanted (s.boot * s.block + x) in
    let X : ℕ → Type 0 = λ x. (s.boot * s.block ≤ x) × IsFreeRunOf top test wanted x in
    let R : ℕ → Type 0 = IsRunFor s online kind free wanted in
    let Q : ℕ → Type 0 = λ x. (s.boot * s.block ≤ x) × R x in
    least_or P Q R boot (cond (fits s online kind (s.boot * s.block)) (option_map (λ k. s.boot * s.block + k) managed) None)
    (λ x y p q. omega (arith, p.0, q.0))
    (λ x p. let z : 0 + x ≡ x = omega arith in
    (free_into_spec s free top wanted x e (subst (λ (y : ℕ). IsFreeRunOf top test wanted y) z p.1), fits_boot s online kind x p.0))
    (λ x q. q.1)
    (λ x r. elim (cases_lt x (s.boot * s.block)) [
      | inl l ↦ let z : x ≡ 0 + x = omega arith in inl (l, subst (λ (y : ℕ). IsFreeRunOf top test wanted y) z (free_from_spec s free top wanted x e r.0))
      | inr g ↦ inr (g, r)
    ])
    (part_least s free top 0 (s.boot * s.block) ob wanted (zero-mod (2 ^ top)) (blocks_aligned s top s.boot e) (omega (arith, all)) lb sb)
    (least_like (λ n. (fits s online kind (s.boot * s.block) ≡ true) × X n) Q (cond (fits s online kind (s.boot * s.block)) (option_map (λ k. s.boot * s.block + k) managed) None)
    (λ x p. (p.1.0, (free_into_spec s free top wanted x e p.1.1, fits_managed s online kind x p.1.0 ∙ p.0)))
    (λ x q. (sym (fits_managed s online kind x q.0) ∙ q.1.1, (q.0, free_from_spec s free top wanted x e q.1.0)))
    (least_if (fits s online kind (s.boot * s.block)) X (option_map (λ k. s.boot * s.block + k) managed)
    (least_add (s.boot * s.block) M X managed
    (λ x p. (omega arith, p.1))
    (λ x q.
    let z : x ≡ s.boot * s.block + (x - s.boot * s.block) = omega (arith, q.0) in
    let l : x < frame_count s = run_below s free top wanted x q.1.all in
    (x - s.boot * s.block, z, (omega (arith, l, all, q.0), subst (λ (y : ℕ). IsFreeRunOf top test wanted y) z q.1)))
    (part_least s free top (s.boot * s.block) (s.managed * s.block) om wanted (blocks_aligned s top s.boot e) (blocks_aligned s top s.managed e) (omega (arith, all)) lm sm))))

-- the first run over any orders
pub first_run : (s : Sizes) (online kind : Kind) (free : List ℕ) (top ob om : ℕ) → s.block ≡ 2 ^ top → top ≤ ob → s.boot * s.block ≤ 2 ^ ob → top ≤ om → s.managed * s.block ≤ 2 ^ om → (orders : List ℕ) → slice_get (filter (fits s online kind) (flat_map (free_runs s free) orders)) 0 ≡ first_choice (lowest_choice s online kind top ob om (part_free free 0 (s.boot * s.block) ob) (part_free free (s.boot * s.block) (s.managed * s.block) om)) orders
first_run s online kind free top ob om e lb sb lm sm orders =
    first-flat_map (fits s online kind) (free_runs s free) orders
    ∙ first_choice_agree (λ k. slice_get (filter (fits s online kind) (free_runs s free k)) 0)
    (lowest_choice s online kind top ob om (part_free free 0 (s.boot * s.block) ob) (part_free free (s.boot * s.block) (s.managed * s.block) om))
    (λ k. least_same (IsRunFor s online kind free k) (slice_get (filter (fits s online kind) (free_runs s free k)) 0)
    (lowest_choice s online kind top ob om (part_free free 0 (s.boot * s.block) ob) (part_free free (s.boot * s.block) (s.managed * s.block) om) k)
    (first_fitting s online kind free k)
    (choice_least s online kind free top ob om k e lb sb lm sm))
    orders

-- the chosen run
pub lowest_chosen : (s : Sizes) (online kind : Kind) (free : List ℕ) (order top ob om : ℕ) → s.block ≡ 2 ^ top → top ≤ ob → s.boot * s.block ≤ 2 ^ ob → top ≤ om → s.managed * s.block ≤ 2 ^ om → chosen_run s online free order kind ≡ first_choice (lowest_choice s online kind top ob om (part_free free 0 (s.boot * s.block) ob) (part_free free (s.boot * s.block) (s.managed * s.block) om)) (range_with_len order 10)
lowest_chosen s online kind free order top ob om e lb sb lm sm = first_run s online kind free top ob om e lb sb lm sm (range_with_len order 10)
