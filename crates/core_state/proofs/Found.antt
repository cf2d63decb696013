-- The entry with a ticket is one that some view has, and the only one.
use Rattle.std.proofs.Common.{◌≡◌, ℕ, eqb, cond, Bool, eq-eqb, ne_eqb, zero, suc, ◌<◌, ◌≤◌, List, [], ◌∷◌, sym, refl, ap, ◌∙◌, ⊎_elim, arith, Option, Some, None}
use Rattle.std.specs.List.{count_by, slice_get}
use Rattle.std.proofs.lemmas.List.Sums.{sum_by-cons}
use Rattle.std.proofs.lemmas.Option.{same_Some, none-some}
use Rattle.std.proofs.lemmas.Grind.{common_steps}
use mathlib.Core.Logic.{dite}
use native.Mathlib.Decide.{ℕ_discrete, dec_le}
use Rattle.evac_model.specs.declared.entry.Entry.{Entry}
use Rattle.core_state.specs.declared.opening.Opening.{Opening}
use Rattle.core_state.specs.declared.view.View.{View}
use Rattle.core_state.specs.Words.{next_ticket_of}
use Rattle.core_state.specs.Views.{Has}
use Rattle.core_state.specs.Parts.{is_at, latest_in, latest, uses, uses_of, Tickets}
use Rattle.core_state.specs.Pages.{or_else, entry_in, entry_with}
use Rattle.core_state.specs.NoticedWords.{HasEntry}
use Rattle.core_state.proofs.Lists.{member_le_sum_by}
use Rattle.core_state.proofs.TicketSteps.{used-drawn}
use Rattle.core_state.proofs.NoticedKept.{latest-reached}

-- ---- the entry that is found is there

pub entry_in-at : (t : ℕ) (es : List Entry) (e : Entry) → entry_in t es ≡ Some e → (k : ℕ) × (slice_get es k ≡ Some e)
entry_in-at t [] e q = absurd (none-some e q)
entry_in-at t (x ∷ xs) e q = dite (ℕ_discrete x.ticket t)
    (λ s. (0, sym (ap (λ (b : Bool). cond b (Some x) (entry_in t xs)) (eq-eqb x.ticket t s)) ∙ q))
    (λ ne. let r = entry_in-at t xs e (sym (ap (λ (b : Bool). cond b (Some x) (entry_in t xs)) (ne_eqb x.ticket t ne)) ∙ q) in (suc r.0, r.1))

pub entry_with-has : (t : ℕ) (views : List View) (e : Entry) → entry_with t views ≡ Some e → HasEntry views e
entry_with-has t [] e q = absurd (none-some e q)
entry_with-has t (y ∷ ys) e q = here (entry_in t y.entries) refl q (entry_with-has t ys e) where
  here : (m : Option Entry) → entry_in t y.entries ≡ m → or_else m (entry_with t ys) ≡ Some e → (entry_with t ys ≡ Some e → HasEntry ys e) → HasEntry (y ∷ ys) e
  here None is found later = let p = later found in record { seat = suc p.seat; view = p.view; place = p.place; has = p.has; at = p.at }
  here (Some x) is found later = let r = entry_in-at t y.entries e (is ∙ found) in record { seat = 0; view = y; place = r.0; has = refl; at = r.1 }

-- ---- an entry that is there is the one that is found, where its ticket is used once

-- an entry counts once in its list
counts : (t : ℕ) (es : List Entry) (k : ℕ) (e : Entry) → slice_get es k ≡ Some e → e.ticket ≡ t → 1 ≤ count_by (λ x. eqb x.ticket t) es
counts t es k e at s = let m = member_le_sum_by (λ (y : Entry). is_at t (Some y.ticket)) es k e at in
    let d : is_at t (Some e.ticket) ≡ 1 = ap (λ (b : Bool). cond b 1 0) (eq-eqb e.ticket t s) in omega arith

entry_in-of : (t : ℕ) (es : List Entry) (k : ℕ) (e : Entry) → slice_get es k ≡ Some e → e.ticket ≡ t → count_by (λ x. eqb x.ticket t) es ≤ 1 → entry_in t es ≡ Some e
entry_in-of t [] k e at s few = absurd (none-some e at)
entry_in-of t (x ∷ xs) zero e at s few = let q = same_Some x e at in grind (arith, common_steps)
entry_in-of t (x ∷ xs) (suc k) e at s few = grind (arith, common_steps, sum_by-cons (λ (y : Entry). is_at t (Some y.ticket)) x xs, counts t xs k e at s, entry_in-of t xs k e at s)

entry_in-counts : (t : ℕ) (es : List Entry) (e : Entry) → entry_in t es ≡ Some e → 1 ≤ count_by (λ x. eqb x.ticket t) es
entry_in-counts t [] e q = absurd (none-some e q)
entry_in-counts t (x ∷ xs) e q = grind (arith, common_steps, sum_by-cons (λ (y : Entry). is_at t (Some y.ticket)) x xs, entry_in-counts t xs e)

pub entry_at-found : (t : ℕ) (views : List View) (i : ℕ) (v : View) (k : ℕ) (e : Entry) → Has views i v → slice_get v.entries k ≡ Some e → e.ticket ≡ t → uses t views ≤ 1 → entry_with t views ≡ Some e
entry_at-found t [] i v k e has at s few = absurd (none-some v has)
entry_at-found t (y ∷ ys) zero v k e has at s few = let c = sum_by-cons (λ x. uses_of t x) y ys in
    ap (λ m. or_else m (entry_with t ys)) (entry_in-of t y.entries k e (ap (λ (z : View). slice_get z.entries k) (same_Some y v has) ∙ at) s (omega arith))
entry_at-found t (y ∷ ys) (suc i) v k e has at s few = let c = sum_by-cons (λ x. uses_of t x) y ys in
    let m = member_le_sum_by (λ x. uses_of t x) ys i v has in let n = counts t v.entries k e at s in
    here (entry_in t y.entries) refl (entry_at-found t ys i v k e has at s (omega arith)) (omega arith) where
      here : (m : Option Entry) → entry_in t y.entries ≡ m → entry_with t ys ≡ Some e → count_by (λ x. eqb x.ticket t) y.entries ≡ 0 → or_else (entry_in t y.entries) (entry_with t ys) ≡ Some e
      here None is found none = ap (λ m. or_else m (entry_with t ys)) is ∙ found
      here (Some x) is found none = absurd (let a = entry_in-counts t y.entries x is in omega arith)

pub has_entry-found : (views : List View) (e : Entry) → HasEntry views e → uses e.ticket views ≤ 1 → entry_with e.ticket views ≡ Some e
has_entry-found views e h few = entry_at-found e.ticket views h.seat h.view h.place e h.has h.at refl few

pub has_entry-uses : (views : List View) (e : Entry) → HasEntry views e → 1 ≤ uses e.ticket views
has_entry-uses views e h = let m = member_le_sum_by (λ x. uses_of e.ticket x) views h.seat h.view h.has in let c = counts e.ticket h.view.entries h.place e h.at refl in omega arith

-- no ticket is used twice
pub uses_few : (o : Opening) (words : List ℕ) (views : List View) (t : ℕ) → Tickets o words views → uses t views ≤ 1
uses_few o words views t s = dite (dec_le o.first t)
    (λ low. dite (dec_le (next_ticket_of words) t)
    (λ high. let a = s.none_from t high in omega arith)
    (λ below. let a = s.each_once t low (omega arith) in omega arith))
    (λ before. let a = s.none_before t (omega arith) in omega arith)

-- the ticket of an entry was drawn
pub has_entry-drawn : (o : Opening) (words : List ℕ) (views : List View) (e : Entry) → Tickets o words views → HasEntry views e → (o.first ≤ e.ticket) × (e.ticket < next_ticket_of words)
has_entry-drawn o words views e s h = used-drawn o words views e.ticket s (has_entry-uses views e h)

-- ---- the latest ticket of a page

-- an entry's ticket is below the latest of its page
below_latest : (views : List View) (i : ℕ) (v : View) (k : ℕ) (e : Entry) → Has views i v → slice_get v.entries k ≡ Some e → e.ticket < latest e.page.0 views
below_latest [] i v k e has at = absurd (none-some v has)
below_latest (y ∷ ys) zero v k e has at = let a = in_list y.entries k (ap (λ (z : View). slice_get z.entries k) (same_Some y v has) ∙ at) in omega arith where
  in_list : (es : List Entry) (k : ℕ) → slice_get es k ≡ Some e → e.ticket < latest_in e.page.0 es
  in_list [] k at = absurd (none-some e at)
  in_list (x ∷ xs) zero at = let q = same_Some x e at in grind (arith, common_steps)
  in_list (x ∷ xs) (suc k) at = let a = in_list xs k at in omega arith
below_latest (y ∷ ys) (suc i) v k e has at = let a = below_latest ys i v k e has at in omega arith

-- views with no fewer entries have no lower latest ticket
pub latest-le : (views other : List View) (page : ℕ) → ((e : Entry) → HasEntry views e → HasEntry other e) → latest page views ≤ latest page other
latest-le views other page to = ⊎_elim (λ z. omega arith)
    (λ q. let p = to q.entry q.has in let a = below_latest other p.seat p.view p.place q.entry p.has p.at in
    let b : latest q.entry.page.0 other ≡ latest page other = ap (λ m. latest m other) q.on in let c = q.next in omega arith)
    (latest-reached page views)
