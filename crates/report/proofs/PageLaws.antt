-- The final pages are the plain state, by rising number.
use Rattle.std.proofs.Common.{append-nil, ◌≡◌, ℕ, zero, suc, ◌<◌, ◌≤◌, nat_lt, true, false, cond, nat_eq, List, [], ◌∷◌, ◌++◌, length, map, slice_index, None, Some, refl, sym, ap, subst, ◌∙◌, arith}
use Rattle.std.specs.Ordering.{nat_cmp}
use Rattle.std.specs.FinMap.{find, get-from_entries, same_map, nat_cmp-IsAntisymmetric}
use Rattle.std.specs.FinMap.Entries.{find-append}
use Rattle.std.specs.Cmp.{nat_cmp_total, unsigned_tied}
use Rattle.std.specs.List.Sorted.{IsStrictlyIncreasing}
use Rattle.std.proofs.lemmas.List.{map-append}
use Rattle.std.proofs.lemmas.Grind.{common_steps}
use Rattle.std.proofs.lemmas.Bool.Decides.{nat_tests}
use Rattle.evac_model.specs.Page.{PlainPage, Page}
use Rattle.evac_model.specs.State.{PlainState, page_at}
use Rattle.report.specs.declared.report.FinalPage.{FinalPage}
use Rattle.report.specs.FinalPages.{final_page, pages_below, plain_page, pages_state}

-- a final page with its number
abbrev pub numbered : List FinalPage → List (ℕ × PlainPage)
numbered pages = map (λ p. (p.page.0, plain_page p)) pages

-- one more page, where its number is new
find-more : (xs : List FinalPage) (n q : ℕ) (m : Page) → find nat_cmp n (numbered xs) ≡ None → find nat_cmp q (numbered (xs ++ final_page n m)) ≡ cond (nat_eq q n) m (find nat_cmp q (numbered xs))
find-more xs n q None new =
    ap (λ ys. find nat_cmp q (numbered ys)) (append-nil xs)
    ∙ elim (nat_eq q n) as (λ b. nat_eq q n ≡ b → find nat_cmp q (numbered xs) ≡ cond b None (find nat_cmp q (numbered xs))) [
      | true ↦ λ t. let same : q ≡ n = grind (arith, nat_tests) in ap (λ k. find nat_cmp k (numbered xs)) same ∙ new
      | false ↦ λ t. refl
    ] refl
find-more xs n q (Some m) new =
    ap (find nat_cmp q) (map-append (λ (p : FinalPage). (p.page.0, plain_page p)) xs (final_page n (Some m)))
    ∙ (find-append nat_cmp nat_cmp_total (numbered xs) n m q new ∙ ap (λ b. cond b (Some m) (find nat_cmp q (numbered xs))) (unsigned_tied q n))

-- what stands at a number below n is the page there
find-below : (state : PlainState) (n q : ℕ) → find nat_cmp q (numbered (pages_below state n)) ≡ cond (nat_lt q n) (page_at state q) None
find-below state zero q = let t : nat_lt q 0 ≡ false = grind (arith, nat_tests) in ap (λ b. cond b (page_at state q) None) (sym t)
find-below state (suc n) q =
    let past : nat_lt n n ≡ false = grind (arith, nat_tests) in
    let new : find nat_cmp n (numbered (pages_below state n)) ≡ None = find-below state n n ∙ ap (λ b. cond b (page_at state n) None) past in
    find-more (pages_below state n) n q (page_at state n) new
    ∙ elim (nat_eq q n) as (λ b. nat_eq q n ≡ b → cond b (page_at state n) (find nat_cmp q (numbered (pages_below state n))) ≡ cond (nat_lt q (suc n)) (page_at state q) None) [
      | true ↦ λ t.
          let same : n ≡ q = grind (arith, nat_tests) in
          let below : nat_lt q (suc n) ≡ true = grind (arith, nat_tests) in
          ap (page_at state) same ∙ ap (λ b. cond b (page_at state q) None) (sym below)
      | false ↦ λ t.
          let below : nat_lt q n ≡ nat_lt q (suc n) = grind (arith, nat_tests) in
          find-below state n q ∙ ap (λ b. cond b (page_at state q) None) below
    ] refl

-- where no page has a number from n on, the final pages are the state
pub pages_state-pages_below : (state : PlainState) (n : ℕ) → ((q : ℕ) → n ≤ q → page_at state q ≡ None) → pages_state (pages_below state n) ≡ state
pages_state-pages_below state n none =
    same_map nat_cmp_total nat_cmp-IsAntisymmetric _ _ (λ q.
    get-from_entries nat_cmp_total (numbered (pages_below state n)) q ∙ (find-below state n q
    ∙ elim (nat_lt q n) as (λ b. nat_lt q n ≡ b → cond b (page_at state q) None ≡ page_at state q) [
      | true ↦ λ t. refl
      | false ↦ λ t. sym (none q (grind (arith, nat_tests)))
    ] refl))

-- the numbers of final pages
abbrev pub numbers : List FinalPage → List ℕ
numbers pages = map (λ p. p.page.0) pages

-- a number above all others may come last
rising-push : (ns : List ℕ) (n : ℕ) → IsStrictlyIncreasing ns → ((k : ℕ) → k < length ns → slice_index ns k < n) → IsStrictlyIncreasing (ns ++ n ∷ [])
rising-push ns n h below k b = grind (arith, common_steps, h k, below k)

below-push : (ns : List ℕ) (n : ℕ) → ((k : ℕ) → k < length ns → slice_index ns k < n) → (k : ℕ) → k < length (ns ++ n ∷ []) → slice_index (ns ++ n ∷ []) k < suc n
below-push ns n below k b = grind (arith, common_steps, below k)

rising-more : (xs : List FinalPage) (n : ℕ) (m : Page) → IsStrictlyIncreasing (numbers xs) → ((k : ℕ) → k < length (numbers xs) → slice_index (numbers xs) k < n) → IsStrictlyIncreasing (numbers (xs ++ final_page n m)) × ((k : ℕ) → k < length (numbers (xs ++ final_page n m)) → slice_index (numbers (xs ++ final_page n m)) k < suc n)
rising-more xs n None h below =
    subst (λ ys. IsStrictlyIncreasing (numbers ys) × ((k : ℕ) → k < length (numbers ys) → slice_index (numbers ys) k < suc n)) (sym (append-nil xs)) (h, λ k b. omega (arith, below k b))
rising-more xs n (Some m) h below =
    subst (λ ns. IsStrictlyIncreasing ns × ((k : ℕ) → k < length ns → slice_index ns k < suc n)) (sym (map-append (λ (p : FinalPage). p.page.0) xs (final_page n (Some m))))
    (rising-push (numbers xs) n h below, below-push (numbers xs) n below)

-- the final pages rise
pub rising-below : (state : PlainState) (n : ℕ) → IsStrictlyIncreasing (numbers (pages_below state n)) × ((k : ℕ) → k < length (numbers (pages_below state n)) → slice_index (numbers (pages_below state n)) k < n)
rising-below state zero = (λ k b. absurd (omega arith), λ k b. absurd (omega arith))
rising-below state (suc n) = let h = rising-below state n in rising-more (pages_below state n) n (page_at state n) h.0 h.1
