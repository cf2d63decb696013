-- What the trees and the flags are seen as, list by list.
use Rattle.std.proofs.Common.{◌≡◌, ℕ, zero, suc, ◌+◌, ◌-◌, ◌*◌, ◌/◌, ◌^◌, ◌<◌, ◌≤◌, Bool, true, false, cond, leb, ◌&&◌, List, ◌∷◌, length, refl, sym, ap, ◌∙◌, subst, arith, inl, inr}
use Rattle.std.specs.List.{filter, range_with_len, list_any}
use Rattle.std.proofs.lemmas.Bool.{cases_lt, cases_eq, cases_Bool, and_left, and_right, and_from, or_right, le-leb, lt-leb, both_ways, false_from_ne_true}
use Rattle.std.proofs.lemmas.List.{get_or_past}
use Rattle.evac_model.specs.declared.names.Kind.{Kind}
use Rattle.evac_model.specs.Geometry.{Sizes, frame_count}
use Rattle.evac_model.specs.Numbers.{numbers_where, is_in}
use Rattle.evac_model.specs.SpaceJournal.{is_frame_of, is_frame_in}
use Rattle.evac_model.proofs.Numbers.{is_in-numbers_where, is_in-numbers_where_past, numbers_rising}
use Rattle.evac_model.proofs.Ranges.{between_inside, between_below}
use Rattle.buddy.specs.FreeFrames.{FreeFrames, AreApart}
use Rattle.buddy.specs.Parts.{Part}
use Rattle.buddy.specs.RunsInside.{flag, is_free, is_put_aside, frames_of, IsKept}
use Rattle.buddy.proofs.Places.{in_block, block_holds, RunFacts, run_order, one_block, run_in_boot, managed_multiple}
use Rattle.buddy.proofs.FrameFlags.{between_facts, frames_of_block}
use Rattle.evac_model.proofs.Bounds.{block_some}

-- a test of one of the numbers that pass, and of none of them
any_from : (p q : ℕ → Bool) (a n b : ℕ) → a ≤ b → b < a + n → q b ≡ true → p b ≡ true → list_any p (filter q (range_with_len a n)) ≡ true
any_from p q a zero b l h qb pb = absurd (omega arith)
any_from p q a (suc n) b l h qb pb =
    elim (cases_eq b a) [
      | inl e ↦
          let here : q a ≡ true = ap q (sym e) ∙ qb in
          let good : p a ≡ true = ap p (sym e) ∙ pb in
          rw here (rw good refl)
      | inr ne ↦ kept (q a) (any_from p q (a + 1) n b (omega (arith, l, ne)) (omega (arith, h)) qb pb)
    ]
  where
    kept : (t : Bool) → list_any p (filter q (range_with_len (a + 1) n)) ≡ true → list_any p (cond t (a ∷ filter q (range_with_len (a + 1) n)) (filter q (range_with_len (a + 1) n))) ≡ true
    kept true h = or_right (p a) (list_any p (filter q (range_with_len (a + 1) n))) h
    kept false h = h

none_from : (p q : ℕ → Bool) (a n : ℕ) → ((b : ℕ) → a ≤ b → b < a + n → q b ≡ true → p b ≡ false) → list_any p (filter q (range_with_len a n)) ≡ false
none_from p q a zero none = refl
none_from p q a (suc n) none =
    let rest = none_from p q (a + 1) n (λ b l h. none b (omega (arith, l)) (omega (arith, h))) in
    elim (cases_Bool (q a)) [
      | inl y ↦
          let here : p a ≡ false = none a (omega arith) (omega arith) y in
          rw y (rw here rest)
      | inr n0 ↦ rw n0 rest
    ]

-- a frame is of a withdrawn block
pub frame_in : (s : Sizes) (withdrawn : List Bool) (k : ℕ) → 0 < s.block → length withdrawn ≡ s.managed → is_frame_in s (numbers_where (flag withdrawn) s.managed) k ≡ is_put_aside s withdrawn k
frame_in s withdrawn k some len =
    elim (cases_lt k (s.boot * s.block)) [
      | inl low ↦
          none_from (λ b. is_frame_of s b k) (flag withdrawn) 0 s.managed (λ b l h y. frames_of_block s b k ∙ between_below (s.boot * s.block + b * s.block) (s.boot * s.block + b * s.block + s.block) k (omega (arith, low)))
          ∙ sym (and_left (leb (s.boot * s.block) k) (flag withdrawn ((k - s.boot * s.block) / s.block)) (lt-leb (s.boot * s.block) k low))
      | inr high ↦ elim (cases_Bool (flag withdrawn ((k - s.boot * s.block) / s.block))) [
        | inl y ↦
            any_from (λ b. is_frame_of s b k) (flag withdrawn) 0 s.managed ((k - s.boot * s.block) / s.block) (omega arith) (omega (arith, within y)) y (here high)
            ∙ sym (and_from (leb (s.boot * s.block) k) (flag withdrawn ((k - s.boot * s.block) / s.block)) (le-leb (s.boot * s.block) k high) y)
        | inr n ↦
            none_from (λ b. is_frame_of s b k) (flag withdrawn) 0 s.managed (λ b l h y. false_from_ne_true (is_frame_of s b k) (λ z. both_ways (flag withdrawn ((k - s.boot * s.block) / s.block)) n (ap (flag withdrawn) (block_is b high z) ∙ y)))
            ∙ sym (and_right (leb (s.boot * s.block) k) (flag withdrawn ((k - s.boot * s.block) / s.block)) n)
      ]
    ]
  where
    within : flag withdrawn ((k - s.boot * s.block) / s.block) ≡ true → (k - s.boot * s.block) / s.block < s.managed
    within y = elim (cases_lt ((k - s.boot * s.block) / s.block) s.managed) [ inl l ↦ l | inr g ↦ absurd (both_ways (flag withdrawn ((k - s.boot * s.block) / s.block)) (get_or_past withdrawn ((k - s.boot * s.block) / s.block) false (omega (arith, len, g))) y) ]

    here : s.boot * s.block ≤ k → is_frame_of s ((k - s.boot * s.block) / s.block) k ≡ true
    here high =
        let b = (k - s.boot * s.block) / s.block in
        let holds = block_holds s.block (k - s.boot * s.block) some in
        frames_of_block s ((k - s.boot * s.block) / s.block) k
        ∙ between_inside (s.boot * s.block + (k - s.boot * s.block) / s.block * s.block) (s.boot * s.block + (k - s.boot * s.block) / s.block * s.block + s.block) k (omega (arith, holds.0, high)) (omega (arith, holds.1, high))

    block_is : (b : ℕ) → s.boot * s.block ≤ k → is_frame_of s b k ≡ true → (k - s.boot * s.block) / s.block ≡ b
    block_is b high z =
        let f = between_facts (s.boot * s.block + b * s.block) (s.boot * s.block + b * s.block + s.block) k (sym (frames_of_block s b k) ∙ z) in
        in_block s.block b (k - s.boot * s.block) some (omega (arith, f.from, high)) (omega (arith, f.below, high))

-- the frames of a run are of one block
pub put_aside-run : (s : Sizes) (withdrawn : List Bool) (order first top k : ℕ) → RunFacts s order first → s.block ≡ 2 ^ top → first ≤ k → k < first + 2 ^ order → is_put_aside s withdrawn k ≡ is_put_aside s withdrawn first
put_aside-run s withdrawn order first top k f e l h =
    elim (cases_lt first (s.boot * s.block)) [
      | inl low ↦
          and_left (leb (s.boot * s.block) k) (flag withdrawn ((k - s.boot * s.block) / s.block)) (lt-leb (s.boot * s.block) k (omega (arith, h, run_in_boot s order first top f e low)))
          ∙ sym (and_left (leb (s.boot * s.block) first) (flag withdrawn ((first - s.boot * s.block) / s.block)) (lt-leb (s.boot * s.block) first low))
      | inr high ↦
          let same : (k - s.boot * s.block) / s.block ≡ (first - s.boot * s.block) / s.block =
          ap (λ (n : ℕ). (k - s.boot * s.block) / n) e
          ∙ one_block order top (first - s.boot * s.block) (k - s.boot * s.block) (run_order s order first top f e) (managed_multiple s order first top f e high) (omega (arith, l)) (omega (arith, h, high))
          ∙ ap (λ (n : ℕ). (first - s.boot * s.block) / n) (sym e) in
          ap (λ (t : Bool). t && flag withdrawn ((k - s.boot * s.block) / s.block)) (le-leb (s.boot * s.block) k (omega (arith, l, high)))
          ∙ ap (flag withdrawn) same
          ∙ sym (ap (λ (t : Bool). t && flag withdrawn ((first - s.boot * s.block) / s.block)) (le-leb (s.boot * s.block) first high))
    ]

-- a number is one of those kept exactly where it is below the bound and passes
pub kept_in : (p : ℕ → Bool) (n k : ℕ) → is_in k (numbers_where p n) ≡ true → (k < n) × (p k ≡ true)
kept_in p n k e =
    elim (cases_lt k n) [
      | inl l ↦ (l, sym (is_in-numbers_where p n k l) ∙ e)
      | inr g ↦ absurd (both_ways (is_in k (numbers_where p n)) (is_in-numbers_where_past p n k g) e)
    ]

-- what is kept says that the frames are apart
apart_inside : (s : Sizes) (online : Kind) (boot managed : Part) (aside withdrawn : List Bool) → IsKept s boot managed aside withdrawn → AreApart (frames_of s online boot managed aside withdrawn)
apart_inside s online boot managed aside withdrawn h = record {
  within = h.within;
  free = numbers_rising (is_free s boot.free managed.free) (frame_count s);
  aside = numbers_rising (flag aside) (frame_count s);
  withdrawn = numbers_rising (flag withdrawn) s.managed;
  none_free = λ k e. frame_in s withdrawn k (block_some s h.within) h.withdrawn_length ∙ h.none_free k (kept_in (is_free s boot.free managed.free) (frame_count s) k e).1;
  all_withdrawn = λ k e. frame_in s withdrawn k (block_some s h.within) h.withdrawn_length ∙ h.all_withdrawn k (kept_in (flag aside) (frame_count s) k e).1;
}

pub are_apart : (s : Sizes) (online : Kind) (boot managed : Part) (aside withdrawn : List Bool) (old : FreeFrames) → IsKept s boot managed aside withdrawn → frames_of s online boot managed aside withdrawn ≡ old → AreApart old
are_apart s online boot managed aside withdrawn old h view = subst AreApart view (apart_inside s online boot managed aside withdrawn h)
