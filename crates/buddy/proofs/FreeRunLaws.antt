-- What free runs are, and which of them is chosen.
use Rattle.std.proofs.Common.{◌≡◌, ℕ, zero, suc, ◌+◌, ◌*◌, ◌-◌, ◌%◌, ◌^◌, ◌<◌, ◌≤◌, true, false, List, Option, None, Some, refl, sym, ap, ◌∙◌, subst, arith, inl, inr, ◌↔◌}
use Rattle.std.specs.Prelude.{nat_lt, filter}
use Rattle.std.specs.List.{range_with_len, slice_get}
use Rattle.std.specs.Option.{option_or}
use Rattle.std.proofs.Math.Nat.{mod-one}
use Rattle.std.proofs.lemmas.Bool.{cases_lt, cases_eq, cases_order, false_from_ne_true, both_ways, and_from, lt-ltb}
use Rattle.std.proofs.lemmas.Nat.{pow_pos}
use Rattle.evac_model.specs.declared.names.Kind.{Kind}
use Rattle.evac_model.specs.Geometry.{Sizes, IsWithinLimits, frame_count}
use Rattle.evac_model.specs.Numbers.{is_in}
use Rattle.evac_model.specs.FreeRuns.{fits, is_all_free, is_free_run, free_runs, chosen_run}
use Rattle.buddy.specs.Choice.{first_choice}
use Rattle.buddy.specs.Laws.{IsRunFor, IsBest, IsInRun, IsInside, IsInFreeRun}
use Rattle.buddy.proofs.Aligned.{next_multiple, aligned_less}
use Rattle.buddy.proofs.FrameRuns.{IsRunOf, IsFreeRunOf, run_part, one_run, maximal, Grown, grow}
use Rattle.buddy.proofs.MachineRuns.{free_in, run_from_spec, run_into_spec, free_from_spec, free_into_spec, run_or_not, fits_boot, fits_managed, first_fitting, blocks_aligned}
use Rattle.buddy.proofs.Least.{IsLeast, least_same, first-flat_map}

-- a run that holds a free run is that free run
pub free_maximal : (s : Sizes) (free : List ℕ) (k n j m : ℕ) → IsWithinLimits s → is_free_run s free k n ≡ true → is_all_free s free j m ≡ true → IsInside k n j m → (j ≡ k) × (m ≡ n)
free_maximal s free k n j m w f r i =
    maximal w.block.0 (free_in s free) k n j m (free_from_spec s free w.block.0 k n w.block.2 f) (run_from_spec s free w.block.0 j m w.block.2 r) i.0 i.1

-- two free runs with a frame in common are the same
pub free_one : (s : Sizes) (free : List ℕ) (k n j m frame : ℕ) → IsWithinLimits s → is_free_run s free k n ≡ true → is_free_run s free j m ≡ true → IsInRun k n frame → IsInRun j m frame → (k ≡ j) × (n ≡ m)
free_one s free k n j m frame w f g i l =
    one_run w.block.0 (free_in s free) k j n m frame (free_from_spec s free w.block.0 k n w.block.2 f) (free_from_spec s free w.block.0 j m w.block.2 g) i.0 i.1 l.0 l.1

-- a run of free frames lies in a free run
grown : (s : Sizes) (free : List ℕ) (k n : ℕ) (w : IsWithinLimits s) → IsRunOf w.block.0 (free_in s free) k n → Grown w.block.0 (free_in s free) k n
grown s free k n w r =
    grow w.block.0 (free_in s free) (run_or_not s free w.block.0 w.block.2) (w.block.0 - k) k n (omega (arith, r.order)) r

-- a free frame is one of a free run's
pub frame_in_run : (s : Sizes) (free : List ℕ) (frame : ℕ) → IsWithinLimits s → frame < frame_count s → is_in frame free ≡ true → IsInFreeRun s free frame
frame_in_run s free frame w l e =
    let top : ℕ = w.block.0 in
    let r : IsRunOf top (free_in s free) 0 frame = record {
      order = omega arith;
      aligned = mod-one frame;
      free = λ x f u.
          let same : frame ≡ x = omega arith in
          ap (free_in s free) (sym same) ∙ and_from (nat_lt frame (frame_count s)) (is_in frame free) (lt-ltb frame (frame_count s) l) e;
    } in
    let g : Grown top (free_in s free) 0 frame = grown s free 0 frame w r in
    record {
      order = g.order;
      first = g.first;
      order_most = omega (arith, g.run.all.order, w.block.1);
      run = free_into_spec s free top g.order g.first w.block.2 g.run;
      holds = (g.start, omega (arith, g.end));
    }

-- the frames of a run are of one block, so they take the same kinds
run_fits : (s : Sizes) (online kind : Kind) (free : List ℕ) (top k n x : ℕ) → s.block ≡ 2 ^ top → IsRunOf top (free_in s free) k n → n ≤ x → x < n + 2 ^ k → fits s online kind n ≡ fits s online kind x
run_fits s online kind free top k n x e r f l =
    elim (cases_lt x (s.boot * s.block)) [
      | inl boot ↦ fits_boot s online kind n (omega (arith, boot, f)) ∙ sym (fits_boot s online kind x boot)
      | inr managed ↦ elim (cases_lt n (s.boot * s.block)) [
        | inl lower ↦
            let at : s.boot * s.block % 2 ^ k ≡ 0 = aligned_less k top (s.boot * s.block) r.order (blocks_aligned s top s.boot e) in
            absurd (omega (arith, next_multiple (2 ^ k) n (s.boot * s.block) r.aligned at lower, managed, l))
        | inr higher ↦ fits_managed s online kind n higher ∙ sym (fits_managed s online kind x managed)
      ]
    ]

-- the first free run of each order for a kind
abbrev first_for : (s : Sizes) (online kind : Kind) (free : List ℕ) (k : ℕ) → Option ℕ
first_for s online kind free k = slice_get (filter (fits s online kind) (free_runs s free k)) 0

chosen_first : (s : Sizes) (online kind : Kind) (free : List ℕ) (order : ℕ) → chosen_run s online free order kind ≡ first_choice (first_for s online kind free) (range_with_len order 10)
chosen_first s online kind free order = first-flat_map (fits s online kind) (free_runs s free) (range_with_len order 10)

-- no run is there, or the first order that has one
none_first : (f : ℕ → Option ℕ) (a n : ℕ) → ((k : ℕ) → a ≤ k → f k ≡ None) → first_choice f (range_with_len a n) ≡ None
none_first f a zero h = refl
none_first f a (suc n) h =
    ap (λ (o : Option ℕ). option_or o (first_choice f (range_with_len (a + 1) n))) (h a (omega arith)) ∙ none_first f (a + 1) n (λ k l. h k (omega arith))

option_or_none : (o p : Option ℕ) → option_or o p ≡ None → (o ≡ None) × (p ≡ None)
option_or_none None p e = (refl, e)
option_or_none (Some x) p e = absurd (cc)

first_none : (f : ℕ → Option ℕ) (a n : ℕ) → first_choice f (range_with_len a n) ≡ None → (k : ℕ) → a ≤ k → k < a + n → f k ≡ None
first_none f a zero e k l u = absurd (omega arith)
first_none f a (suc n) e k l u =
    let p = option_or_none (f a) (first_choice f (range_with_len (a + 1) n)) e in
    elim (cases_eq k a) [
      | inl same ↦ ap f same ∙ p.0
      | inr other ↦ first_none f (a + 1) n p.1 k (omega (arith, other)) (omega arith)
    ]

-- the order at which the choice ends
record Found (f : ℕ → Option ℕ) (a n m : ℕ) : Type 0 where
  pub order : ℕ
  pub from : a ≤ order
  pub there : f order ≡ Some m
  pub before : (k : ℕ) → a ≤ k → k < order → f k ≡ None

first_some : (f : ℕ → Option ℕ) (a n m : ℕ) → first_choice f (range_with_len a n) ≡ Some m → Found f a n m
first_some f a zero m e = absurd (cc)
first_some f a (suc n) m e =
    elim (f a) as (λ (o : Option ℕ). f a ≡ o → option_or o (first_choice f (range_with_len (a + 1) n)) ≡ Some m → Found f a (suc n) m) [
      | None ↦ λ none rest.
          let g : Found f (a + 1) n m = first_some f (a + 1) n m rest in
          record {
            order = g.order;
            from = omega (arith, g.from);
            there = g.there;
            before = λ k l u. elim (cases_eq k a) [ inl same ↦ ap f same ∙ none | inr other ↦ g.before k (omega (arith, other)) u ];
          }
      | Some x ↦ λ some rest. record { order = a; from = omega arith; there = some ∙ rest; before = λ k l u. absurd (omega arith) }
    ] refl e

-- what the first of an order tells of all runs of that order
none_for : (s : Sizes) (online kind : Kind) (free : List ℕ) (k n : ℕ) → first_for s online kind free k ≡ None → IsRunFor s online kind free k n → ⊥
none_for s online kind free k n e r =
    let least : IsLeast (IsRunFor s online kind free k) None = subst (λ (o : Option ℕ). IsLeast (IsRunFor s online kind free k) o) e (first_fitting s online kind free k) in
    least n r

for_none : (s : Sizes) (online kind : Kind) (free : List ℕ) (k : ℕ) → ((n : ℕ) → ¬ IsRunFor s online kind free k n) → first_for s online kind free k ≡ None
for_none s online kind free k none =
    least_same (IsRunFor s online kind free k) (first_for s online kind free k) None (first_fitting s online kind free k) none

-- no choice means that no run is all free in a block that takes the kind
pub no_choice : (s : Sizes) (online kind : Kind) (free : List ℕ) (order : ℕ) → IsWithinLimits s → (chosen_run s online free order kind ≡ None) ↔ ((first : ℕ) → fits s online kind first ≡ true → is_all_free s free order first ≡ false)
no_choice s online kind free order w = (
  λ none first fit. false_from_ne_true (is_all_free s free order first) (λ t.
      let r : IsRunOf w.block.0 (free_in s free) order first = run_from_spec s free w.block.0 order first w.block.2 t in
      let g : Grown w.block.0 (free_in s free) order first = grown s free order first w r in
      let some : 0 < 2 ^ order = pow_pos order in
      let taken : fits s online kind g.first ≡ true = run_fits s online kind free w.block.0 g.order g.first first w.block.2 g.run.all g.start (omega (arith, g.end, some)) ∙ fit in
      let gone : first_for s online kind free g.order ≡ None = first_none (first_for s online kind free) order 10 (sym (chosen_first s online kind free order) ∙ none) g.order g.no_shorter (omega (arith, g.run.all.order, w.block.1)) in
      none_for s online kind free g.order g.first gone (free_into_spec s free w.block.0 g.order g.first w.block.2 g.run, taken)),
  λ none. chosen_first s online kind free order ∙ none_first (first_for s online kind free) order 10 (λ k l.
      for_none s online kind free k (λ n r.
      let f : IsFreeRunOf w.block.0 (free_in s free) k n = free_from_spec s free w.block.0 k n w.block.2 r.0 in
      let at : n % 2 ^ order ≡ 0 = aligned_less order k n l f.all.aligned in
      let part : IsRunOf w.block.0 (free_in s free) order n = run_part w.block.0 (free_in s free) order k n n n f.all l at (omega arith) (omega (arith, pow_pos order)) (omega arith) (omega (arith, pow_pos k)) in
      both_ways (is_all_free s free order n) (none n r.1) (run_into_spec s free w.block.0 order n w.block.2 part))),
)

-- the choice is the best
pub best_choice : (s : Sizes) (online kind : Kind) (free : List ℕ) (order n : ℕ) → IsWithinLimits s → chosen_run s online free order kind ≡ Some n → IsBest s online kind free order n
best_choice s online kind free order n w e =
    let found : Found (first_for s online kind free) order 10 n = first_some (first_for s online kind free) order 10 n (sym (chosen_first s online kind free order) ∙ e) in
    let least : IsLeast (IsRunFor s online kind free found.order) (Some n) = subst (λ (o : Option ℕ). IsLeast (IsRunFor s online kind free found.order) o) found.there (first_fitting s online kind free found.order) in
    record {
      size = found.order;
      at_least = found.from;
      run = least.0;
      best = λ j m l r. elim (cases_order found.order j) [
        | inl same ↦ inr (same, least.1 m (subst (λ (k : ℕ). IsRunFor s online kind free k m) (sym same) r))
        | inr other ↦ elim other [
          | inl less ↦ inl less
          | inr more ↦ absurd (none_for s online kind free j m (found.before j l more) r)
        ]
      ];
    }
