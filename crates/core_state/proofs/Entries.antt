-- The entry with a ticket, and the page after the first tickets, where one view is replaced.
use Rattle.std.proofs.Common.{◌≡◌, ℕ, eqb, cond, Bool, ne_eqb, zero, suc, ◌+◌, ◌<◌, ◌≤◌, ◌≢◌, List, [], ◌∷◌, ◌++◌, set, sym, refl, ap, ◌∙◌, arith, Option, Some, None}
use Rattle.std.specs.List.{count_by}
use Rattle.std.proofs.lemmas.List.Sums.{sum_by-cons}
use Rattle.std.proofs.lemmas.Option.{same_Some, none-some}
use Rattle.std.proofs.lemmas.Grind.{common_steps}
use Rattle.evac_model.specs.declared.entry.Entry.{Entry}
use Rattle.core_state.specs.declared.opening.Opening.{Opening}
use Rattle.core_state.specs.declared.view.View.{View}
use Rattle.core_state.specs.Views.{Has}
use Rattle.core_state.specs.Parts.{latest_in, latest, uses, uses_of}
use Rattle.core_state.specs.Pages.{or_else, entry_in, entry_with, answer_at, page_after_entry, page_after}

pub entry_with-kept : (t : ℕ) (views : List View) (i : ℕ) (v w : View) → Has views i v → w.entries ≡ v.entries → entry_with t (set views i w) ≡ entry_with t views
entry_with-kept t [] i v w at e = refl
entry_with-kept t (y ∷ ys) zero v w at e = ap (λ (es : List Entry). or_else (entry_in t es) (entry_with t ys)) (e ∙ ap (λ (z : View). z.entries) (sym (same_Some y v at)))
entry_with-kept t (y ∷ ys) (suc i) v w at e = ap (λ m. or_else (entry_in t y.entries) m) (entry_with-kept t ys i v w at e)

pub entry_in-none : (t : ℕ) (es : List Entry) → count_by (λ e. eqb e.ticket t) es ≡ 0 → entry_in t es ≡ None
entry_in-none t [] z = refl
entry_in-none t (e ∷ es) z = grind (arith, common_steps, sum_by-cons (λ (x : Entry). cond (eqb x.ticket t) 1 0) e es, entry_in-none t es)

pub entry_with-none : (t : ℕ) (views : List View) → uses t views ≡ 0 → entry_with t views ≡ None
entry_with-none t [] z = refl
entry_with-none t (v ∷ vs) z = let s = sum_by-cons (λ (x : View). uses_of t x) v vs in
    ap (λ m. or_else m (entry_with t vs)) (entry_in-none t v.entries (omega arith)) ∙ entry_with-none t vs (omega arith)

-- the page after k tickets looks at those alone
pub page_after-kept : (o : Opening) (views other : List View) (page k : ℕ) → ((j : ℕ) → j < k → entry_with (o.first + j) views ≡ entry_with (o.first + j) other) → page_after o views page k ≡ page_after o other page k
page_after-kept o views other page zero same = refl
page_after-kept o views other page (suc k) same =
    ap (λ m. page_after_entry o.cells page m (entry_with (o.first + k) views)) (page_after-kept o views other page k (λ j lt. same j (omega arith)))
    ∙ ap (λ m. page_after_entry o.cells page (page_after o other page k) m) (same k (omega arith))

-- entries of other pages change nothing
pub page_after-quiet : (o : Opening) (views : List View) (page k j : ℕ) → ((u : ℕ) (e : Entry) → k ≤ u → u < k + j → entry_with (o.first + u) views ≡ Some e → e.page.0 ≢ page) → page_after o views page (k + j) ≡ page_after o views page k
page_after-quiet o views page k zero none = let q : k + zero ≡ k = omega arith in ap (λ n. page_after o views page n) q
page_after-quiet o views page k (suc j) none = let q : k + suc j ≡ suc (k + j) = omega arith in
    ap (λ n. page_after o views page n) q ∙ step (entry_with (o.first + (k + j)) views) refl ∙ page_after-quiet o views page k j (λ u e low high. none u e low (omega arith)) where
      step : (m : Option Entry) → entry_with (o.first + (k + j)) views ≡ m → page_after o views page (suc (k + j)) ≡ page_after o views page (k + j)
      step None is = ap (λ m. page_after_entry o.cells page (page_after o views page (k + j)) m) is
      step (Some e) is = ap (λ m. page_after_entry o.cells page (page_after o views page (k + j)) m) is ∙ ap (λ (b : Bool). cond b (answer_at o.cells (page_after o views page (k + j)) e.call e.reply).1 (page_after o views page (k + j))) (ne_eqb e.page.0 page (none (k + j) e (omega arith) (omega arith) is))

-- one entry more, in the view of one seat
pub entry_in-push_other : (t : ℕ) (es : List Entry) (e : Entry) → e.ticket ≢ t → entry_in t (es ++ e ∷ []) ≡ entry_in t es
entry_in-push_other t [] e ne = ap (λ (b : Bool). cond b (Some e) None) (ne_eqb e.ticket t ne)
entry_in-push_other t (x ∷ xs) e ne = ap (λ m. cond (eqb x.ticket t) (Some x) m) (entry_in-push_other t xs e ne)

pub entry_in-push_same : (t : ℕ) (es : List Entry) (e : Entry) → e.ticket ≡ t → entry_in t es ≡ None → entry_in t (es ++ e ∷ []) ≡ Some e
entry_in-push_same t [] e q none = grind (arith, common_steps)
entry_in-push_same t (x ∷ xs) e q none = grind (arith, common_steps, entry_in-push_same t xs e q)

pub entry_with-added_other : (t : ℕ) (views : List View) (i : ℕ) (v w : View) (e : Entry) → Has views i v → w.entries ≡ v.entries ++ e ∷ [] → e.ticket ≢ t → entry_with t (set views i w) ≡ entry_with t views
entry_with-added_other t [] i v w e at q ne = refl
entry_with-added_other t (y ∷ ys) zero v w e at q ne = ap (λ m. or_else m (entry_with t ys))
    (ap (λ (es : List Entry). entry_in t es) q ∙ entry_in-push_other t v.entries e ne ∙ ap (λ (z : View). entry_in t z.entries) (sym (same_Some y v at)))
entry_with-added_other t (y ∷ ys) (suc i) v w e at q ne = ap (λ m. or_else (entry_in t y.entries) m) (entry_with-added_other t ys i v w e at q ne)

or_else-none : (a b : Option Entry) → or_else a b ≡ None → (a ≡ None) × (b ≡ None)
or_else-none a b q = (grind (arith, common_steps), grind (arith, common_steps))

pub entry_with-added_same : (t : ℕ) (views : List View) (i : ℕ) (v w : View) (e : Entry) → Has views i v → w.entries ≡ v.entries ++ e ∷ [] → e.ticket ≡ t → entry_with t views ≡ None → entry_with t (set views i w) ≡ Some e
entry_with-added_same t [] i v w e at q s none = absurd (none-some v at)
entry_with-added_same t (y ∷ ys) zero v w e at q s none = let p = or_else-none _ _ none in ap (λ m. or_else m (entry_with t ys))
    (ap (λ (es : List Entry). entry_in t es) q ∙ entry_in-push_same t v.entries e s (ap (λ (z : View). entry_in t z.entries) (sym (same_Some y v at)) ∙ p.0))
entry_with-added_same t (y ∷ ys) (suc i) v w e at q s none = let p = or_else-none _ _ none in
    ap (λ m. or_else m (entry_with t (set ys i w))) p.0 ∙ entry_with-added_same t ys i v w e at q s p.1

-- an entry that is found has its ticket, and its page's latest_in is above it
pub entry_in-found : (t : ℕ) (es : List Entry) (e : Entry) → entry_in t es ≡ Some e → (e.ticket ≡ t) × (t < latest_in e.page.0 es)
entry_in-found t [] e q = absurd (none-some e q)
entry_in-found t (x ∷ xs) e q = (grind (arith, common_steps, entry_in-found t xs e), grind (arith, common_steps, entry_in-found t xs e))

pub entry_with-found : (t : ℕ) (views : List View) (e : Entry) → entry_with t views ≡ Some e → (e.ticket ≡ t) × (t < latest e.page.0 views)
entry_with-found t [] e q = absurd (none-some e q)
entry_with-found t (y ∷ ys) e q = here (entry_in t y.entries) refl q (entry_with-found t ys e) where
  here : (m : Option Entry) → entry_in t y.entries ≡ m → or_else m (entry_with t ys) ≡ Some e
      → (entry_with t ys ≡ Some e → (e.ticket ≡ t) × (t < latest e.page.0 ys)) → (e.ticket ≡ t) × (t < latest e.page.0 (y ∷ ys))
  here None is found later = let r = later found in (r.0, let l = r.1 in omega arith)
  here (Some x) is found later = let r = entry_in-found t y.entries e (is ∙ found) in (r.0, let l = r.1 in omega arith)
