-- A sound snapshot's entries, in the order of their tickets, are a legal history, and the words and cells
-- of pages that nobody holds are the state after it.
use Rattle.std.proofs.Common.{◌≡◌, ℕ, eqb, nat_eq, cond, Bool, eq-eqb, ne_eqb, suc, ◌+◌, ◌-◌, ◌<◌, List, [], ◌∷◌, length, sym, refl, ap, subst, ◌∙◌, arith, Some, None}
use Rattle.std.specs.Cmp.{nat_cmp_total, unsigned_tied}
use Rattle.std.specs.FinMap.{get-insert, get-remove}
use Rattle.std.specs.List.{slice_get}
use mathlib.Core.Logic.{dite}
use native.Mathlib.Decide.{ℕ_discrete}
use Rattle.evac_model.specs.declared.entry.Entry.{Entry}
use Rattle.evac_model.specs.Page.{Page}
use Rattle.evac_model.specs.State.{PlainState, page_at, with_page}
use Rattle.evac_model.specs.History.{answer_in, after_entry, after_entries, IsLegalFrom}
use Rattle.core_state.specs.declared.opening.Opening.{Opening}
use Rattle.core_state.specs.declared.view.View.{View}
use Rattle.core_state.specs.Words.{next_ticket_of, entry_word_of}
use Rattle.core_state.specs.Views.{holds_page, holders}
use Rattle.core_state.specs.Pages.{entry_with, answer_at, page_after_entry, page_after, FreeShows, Pages}
use Rattle.core_state.specs.Sound.{Sound}
use Rattle.core_state.specs.Histories.{IsOpeningState, IsHistoryOf, AllLetGo}
use Rattle.core_state.proofs.Lists.{sum_by_none}
use Rattle.core_state.proofs.Entries.{entry_with-found}

-- a page of a state of which one page was changed
page_at-with : (st : PlainState) (q r : ℕ) (m : Page) → page_at (with_page st q m) r ≡ cond (nat_eq r q) m (page_at st r)
page_at-with st q r None = get-remove nat_cmp_total st q r ∙ ap (λ (b : Bool). cond b None (page_at st r)) (unsigned_tied r q)
page_at-with st q r (Some m) = get-insert nat_cmp_total st q m r ∙ ap (λ (b : Bool). cond b (Some m) (page_at st r)) (unsigned_tied r q)

-- the state has the pages after the first k tickets
abbrev pub IsStateAfter : Opening → List View → ℕ → PlainState → Type 0
IsStateAfter o views k st = (page : ℕ) → page_at st page ≡ page_after o views page k

-- the state after one entry more
one_more : (o : Opening) (views : List View) (k : ℕ) (st : PlainState) (e : Entry) → IsStateAfter o views k st → entry_with (o.first + k) views ≡ Some e → IsStateAfter o views (suc k) (after_entry o.cells st e)
one_more o views k st e is found page =
    page_at-with st e.page.0 page (answer_in o.cells st e).1
    ∙ same
    ∙ sym (ap (λ m. page_after_entry o.cells page (page_after o views page k) m) found) where
      same : cond (nat_eq page e.page.0) (answer_in o.cells st e).1 (page_at st page) ≡ cond (eqb e.page.0 page) (answer_at o.cells (page_after o views page k) e.call e.reply).1 (page_after o views page k)
      same = dite (ℕ_discrete page e.page.0)
          (λ q. ap (λ (b : Bool). cond b (answer_in o.cells st e).1 (page_at st page)) (eq-eqb page e.page.0 q)
          ∙ ap (λ (m : Page). (answer_at o.cells m e.call e.reply).1) (is e.page.0 ∙ ap (λ (p : ℕ). page_after o views p k) (sym q))
          ∙ sym (ap (λ (b : Bool). cond b (answer_at o.cells (page_after o views page k) e.call e.reply).1 (page_after o views page k)) (eq-eqb e.page.0 page (sym q))))
          (λ ne. ap (λ (b : Bool). cond b (answer_in o.cells st e).1 (page_at st page)) (ne_eqb page e.page.0 ne)
          ∙ is page
          ∙ sym (ap (λ (b : Bool). cond b (answer_at o.cells (page_after o views page k) e.call e.reply).1 (page_after o views page k)) (ne_eqb e.page.0 page (λ q. ne (sym q)))))

-- the state after entries from ticket number k on has the pages after so many tickets
pub states_from : (o : Opening) (views : List View) (k : ℕ) (st : PlainState) (es : List Entry) → IsStateAfter o views k st → ((j : ℕ) (e : Entry) → slice_get es j ≡ Some e → entry_with (o.first + (k + j)) views ≡ Some e)
    → IsStateAfter o views (k + length es) (after_entries o.cells st es)
states_from o views k st [] is each page = is page ∙ ap (page_after o views page) (omega arith)
states_from o views k st (e ∷ es) is each page =
    let found : entry_with (o.first + k) views ≡ Some e = ap (λ (n : ℕ). entry_with (o.first + n) views) (omega arith) ∙ each 0 e refl in
    let there : suc k + length es ≡ k + length (e ∷ es) = omega arith in
    states_from o views (suc k) (after_entry o.cells st e) es (one_more o views k st e is found)
    (λ j x at. ap (λ (n : ℕ). entry_with (o.first + n) views) (omega arith) ∙ each (suc j) x at) page
    ∙ ap (page_after o views page) there

-- entries from ticket number k on are legal
legal_from : (o : Opening) (words : List ℕ) (views : List View) (k : ℕ) (st : PlainState) (es : List Entry) → Pages o words views → IsStateAfter o views k st
    → o.first + (k + length es) ≡ next_ticket_of words
    → ((j : ℕ) (e : Entry) → slice_get es j ≡ Some e → entry_with (o.first + (k + j)) views ≡ Some e)
    → IsLegalFrom o.cells (o.first + k) st es
legal_from o words views k st [] s is all each = tt
legal_from o words views k st (e ∷ es) s is all each =
    let found : entry_with (o.first + k) views ≡ Some e = ap (λ (n : ℕ). entry_with (o.first + n) views) (omega arith) ∙ each 0 e refl in
    let rest = legal_from o words views (suc k) (after_entry o.cells st e) es s (one_more o views k st e is found) (omega arith)
    (λ j x at. ap (λ (n : ℕ). entry_with (o.first + n) views) (omega arith) ∙ each (suc j) x at) in
    let up : o.first + suc k ≡ o.first + k + 1 = omega arith in (
      (entry_with-found (o.first + k) views e found).0,
      ap (λ (m : Page). (answer_at o.cells m e.call e.reply).0) (is e.page.0) ∙ s.replies k e (omega arith) found,
      subst (λ (t : ℕ). IsLegalFrom o.cells t (after_entry o.cells st e) es) up rest,
    )

-- the entry of the history with a number has the ticket of that number
numbered : (o : Opening) (words : List ℕ) (views : List View) (entries : List Entry) → IsHistoryOf o words views entries → (j : ℕ) (e : Entry) → slice_get entries j ≡ Some e → entry_with (o.first + (0 + j)) views ≡ Some e
numbered o words views entries h j e at = ap (λ (n : ℕ). entry_with (o.first + n) views) (omega arith) ∙ h.each j e at

pub from_opening : (o : Opening) (words : List ℕ) (views : List View) (start : PlainState) (entries : List Entry) → Sound o words views → IsOpeningState o start → IsHistoryOf o words views entries
    → IsLegalFrom o.cells (o.first + 0) start entries × IsStateAfter o views (0 + length entries) (after_entries o.cells start entries)
from_opening o words views start entries s is h = (
  legal_from o words views 0 start entries s.pages is (omega (arith, h.count)) (numbered o words views entries h),
  states_from o views 0 start entries is (numbered o words views entries h),
)

pub histories_are_legal : (o : Opening) (words : List ℕ) (views : List View) (start : PlainState) (entries : List Entry) → Sound o words views → IsOpeningState o start → IsHistoryOf o words views entries
    → IsLegalFrom o.cells o.first start entries
histories_are_legal o words views start entries s is h = let none : o.first + 0 ≡ o.first = omega arith in
    subst (λ (t : ℕ). IsLegalFrom o.cells t start entries) none (from_opening o words views start entries s is h).0

nobody_holds : (views : List View) (page : ℕ) → AllLetGo views → holders page views ≡ 0
nobody_holds views page free = sum_by_none (λ v. holds_page page v.held) views (λ i v at. ap (holds_page page) (free i v at))

pub words_show_the_history : (o : Opening) (words : List ℕ) (views : List View) (start : PlainState) (entries : List Entry) → Sound o words views → IsOpeningState o start → IsHistoryOf o words views entries → AllLetGo views
    → (page : ℕ) → page < o.pages → FreeShows o words (entry_word_of words page) (page_at (after_entries o.cells start entries) page)
words_show_the_history o words views start entries s is h free page lt =
    let all : next_ticket_of words - o.first ≡ 0 + length entries = omega (arith, h.count) in
    subst (λ (m : Page). FreeShows o words (entry_word_of words page) m)
    (ap (page_after o views page) all ∙ sym ((from_opening o words views start entries s is h).1 page))
    (s.pages.free page lt (nobody_holds views page free))
