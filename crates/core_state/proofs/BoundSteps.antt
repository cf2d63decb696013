-- `Bounds` is kept by each step of a call.
use Rattle.std.proofs.Common.{◌≡◌, ℕ, cond, Bool, eq-eqb, ne_eqb, ◌+◌, ◌<◌, ◌≤◌, ◌≢◌, max, [], ◌∷◌, ◌++◌, List, length, set, bit_or, sym, refl, ap, ◌∙◌, subst, zero, suc, arith, ⊎_elim, Some, None}
use Rattle.std.proofs.lemmas.Option.{same_Some, none-some}
use mathlib.Core.Logic.{dite}
use native.Mathlib.Decide.{ℕ_discrete}
use Rattle.evac_model.specs.declared.names.PageNo.{PageNo}
use Rattle.evac_model.specs.declared.entry.Entry.{Entry}
use Rattle.evac_words.specs.Word.{pins_of, bound_of}
use Rattle.evac_words.specs.Table.{entry_index}
use Rattle.core_state.specs.declared.held.Held.{Held}
use Rattle.core_state.specs.declared.keeper.Keeper.{Keeper}
use Rattle.core_state.specs.declared.opening.Opening.{Opening}
use Rattle.core_state.specs.declared.step.CallDone.{CallDone}
use Rattle.core_state.specs.declared.step.Step.{Step}
use Rattle.core_state.specs.declared.step.Step.TheVariants.{Take, Draw, Load, Store, Mark, Release}
use Rattle.core_state.specs.declared.view.View.{View}
use Rattle.core_state.specs.Words.{next_ticket_of, entry_word_of}
use Rattle.core_state.specs.Views.{Has}
use Rattle.core_state.specs.Pages.{number_or}
use Rattle.core_state.specs.Parts.{Shaped, Turn, Tickets, Bounds, bound_by, latest_in, latest}
use Rattle.core_state.specs.Steps.{MayTake, MayLetGo, MayEnd, held_page, held_word, held_ticket, pins_after, word_after_release, entry_of, after_take, after_draw, after_release, Allowed}
use Rattle.core_state.specs.Stepped.{words_after, views_after}
use Rattle.core_state.proofs.Lists.{at_set}
use Rattle.core_state.proofs.EntryWords.{bound_of-take, bound_of-released}
use Rattle.core_state.proofs.WordsAt.{entry_word-here, entry_word-elsewhere, entry_word-other, entry_within, first_within, next_ticket-elsewhere, next_ticket-here, next_ticket-entry}
use Rattle.core_state.proofs.Holding.{for_some, some_is, Drawing, drawing, with_ticket-some, Alike}
use Rattle.core_state.proofs.TurnSteps.{alike-load, alike-store, alike-mark}
use Rattle.core_state.proofs.TicketSteps.{undrawn-take, drawn-used, used-drawn}

-- one entry more, in the view of one seat
pub latest-replaced : (page : ℕ) (views : List View) (i : ℕ) (v w : View) (x : ℕ) → Has views i v → latest_in page w.entries ≡ max (latest_in page v.entries) x → latest page (set views i w) ≡ max (latest page views) x
latest-replaced page [] i v w x at e = absurd (none-some v at)
latest-replaced page (y ∷ ys) zero v w x at e = let s : latest_in page y.entries ≡ latest_in page v.entries = ap (λ (z : View). latest_in page z.entries) (same_Some y v at) in omega arith
latest-replaced page (y ∷ ys) (suc i) v w x at e = omega (arith, latest-replaced page ys i v w x at e)

pub latest-kept : (page : ℕ) (views : List View) (i : ℕ) (v w : View) → Has views i v → w.entries ≡ v.entries → latest page (set views i w) ≡ latest page views
latest-kept page views i v w at e = let a = ap (λ (es : List Entry). latest_in page es) e in omega (arith, latest-replaced page views i v w 0 at (omega arith))

pub latest_in_push : (page : ℕ) (es : List Entry) (e : Entry) → latest_in page (es ++ e ∷ []) ≡ max (latest_in page es) (bound_by page e)
latest_in_push page [] e = omega arith
latest_in_push page (x ∷ xs) e = omega (arith, latest_in_push page xs e)

module _ (o : Opening) (words : List ℕ) (views : List View) (i : ℕ) (v : View) (b : Bounds o words views) (at : Has views i v) where
  -- a step with which each page's bound grows to at least that of the entries that are added
  bounds-grown : (j n : ℕ) (w : View) (new : ℕ → ℕ) → next_ticket_of words ≤ next_ticket_of (set words j n)
      → ((page : ℕ) → page < o.pages → (bound_of (entry_word_of (set words j n) page) ≡ max (bound_of (entry_word_of words page)) (new page)) × (new page ≤ next_ticket_of words))
      → ((page : ℕ) → latest_in page w.entries ≡ max (latest_in page v.entries) (new page)) → w.seen ≤ next_ticket_of (set words j n)
      → ((h : Held) (t : ℕ) → w.held ≡ Some h → h.ticket ≡ Some t → bound_of h.word ≤ t)
      → Bounds o (set words j n) (set views i w)
  bounds-grown j n w new z grown entries seen late = record {
    bound_is = λ page lt. let a = (grown page lt).0 in let c = b.bound_is page lt in let e = latest-replaced page views i v w (new page) at (entries page) in omega arith;
    drawn_late = λ k x h t has is drawn. ⊎_elim
        (λ q. late h t (ap (λ (y : View). y.held) q.1 ∙ is) drawn)
        (λ q. b.drawn_late k x h t q.1 is drawn)
        (at_set views i k w x has);
    bound_low = λ page lt. let a = grown page lt in let e = a.0 in let f = a.1 in let c = b.bound_low page lt in omega arith;
    seen_low = λ k x has. ⊎_elim
        (λ q. let a : w.seen ≡ x.seen = ap (λ (y : View). y.seen) q.1 in omega arith)
        (λ q. let c = b.seen_low k x q.1 in omega arith)
        (at_set views i k w x has);
  }

  -- a step that changes no bound, by a seat that adds no entry
  pub bounds-elsewhere : (j n : ℕ) (w : View) → next_ticket_of (set words j n) ≡ next_ticket_of words
      → ((page : ℕ) → page < o.pages → bound_of (entry_word_of (set words j n) page) ≡ bound_of (entry_word_of words page))
      → w.entries ≡ v.entries → w.seen ≡ v.seen
      → ((h : Held) (t : ℕ) → w.held ≡ Some h → h.ticket ≡ Some t → bound_of h.word ≤ t)
      → Bounds o (set words j n) (set views i w)
  bounds-elsewhere j n w z same entries seen late = bounds-grown j n w (λ page. 0) (omega arith)
      (λ page lt. let a = same page lt in (omega arith, omega arith))
      (λ page. let a = ap (λ (es : List Entry). latest_in page es) entries in omega arith)
      (let c = b.seen_low i v at in omega arith) late

  pub bounds-alike : (j n : ℕ) (w : View) → next_ticket_of (set words j n) ≡ next_ticket_of words
      → ((page : ℕ) → page < o.pages → entry_index page ≢ j) → Alike v w → Bounds o (set words j n) (set views i w)
  bounds-alike j n w z off a = bounds-elsewhere j n w z (λ page lt. ap bound_of (entry_word-elsewhere words j n page (off page lt))) a.entries a.seen
      (λ h t is drawn. let q = a.held.before h is in let c = b.drawn_late i v q.0 t at q.1 (sym q.4 ∙ drawn) in let d : bound_of h.word ≡ bound_of (q.0).word = ap bound_of q.3 in omega arith)

  -- a new entry word with the old bound
  pub bound-same : (p n : ℕ) → entry_index p < length words → bound_of n ≡ bound_of (entry_word_of words p) → (page : ℕ) → bound_of (entry_word_of (set words (entry_index p) n) page) ≡ bound_of (entry_word_of words page)
  bound-same p n in_words e page = dite (ℕ_discrete page p)
      (λ q. subst (λ (r : ℕ). bound_of (entry_word_of (set words (entry_index p) n) r) ≡ bound_of (entry_word_of words r)) (sym q) (ap bound_of (entry_word-here words n p in_words) ∙ e))
      (λ ne. ap bound_of (entry_word-other words p n page ne))

  pub bounds-take : (k : Keeper) (page : PageNo) → MayTake o v page.0 → Shaped o words
      → Bounds o (set words (entry_index page.0) (bit_or (entry_word_of words page.0) 1)) (set views i (after_take k v page (entry_word_of words page.0)))
  bounds-take k page may s = bounds-elsewhere (entry_index page.0) _ (after_take k v page (entry_word_of words page.0)) (next_ticket-entry words page.0 _)
      (λ p lt. bound-same page.0 (bit_or (entry_word_of words page.0) 1) (entry_within o words page.0 s may.in_range) (bound_of-take (entry_word_of words page.0)) p)
      refl refl
      (λ h t is drawn. absurd (undrawn-take v.cells page (entry_word_of words page.0) h t is drawn))

  pub bounds-draw : (h : Held) → Turn o words views → Drawing v h → 0 < length words
      → Bounds o (set words 0 (next_ticket_of words + 1)) (set views i (after_draw v (next_ticket_of words)))
  bounds-draw h turn may in_words =
      let z = next_ticket-here words (next_ticket_of words + 1) in_words in
      let mine = turn.held_word i v h at may.holds in
      bounds-grown 0 (next_ticket_of words + 1) (after_draw v (next_ticket_of words)) (λ page. 0) (omega arith)
      (λ page lt. let a : bound_of (entry_word_of (set words 0 (next_ticket_of words + 1)) page) ≡ bound_of (entry_word_of words page) = ap bound_of (entry_word-elsewhere words 0 _ page (λ e. absurd (omega arith))) in (omega arith, omega arith))
      (λ page. omega arith) (omega arith)
      (λ g t is drawn. let s = same_Some _ _ (sym (with_ticket-some v.held h (next_ticket_of words) may.holds) ∙ is) in
      let a : bound_of h.word ≡ bound_of g.word = ap (λ (y : Held). bound_of y.word) s in
      let c : next_ticket_of words ≡ t = same_Some _ _ (ap (λ (y : Held). y.ticket) s ∙ drawn) in
      let d : bound_of (entry_word_of words h.page.0) ≡ bound_of h.word = ap bound_of mine.1 in
      let low = b.bound_low h.page.0 mine.0 in omega arith)

  -- a release without an entry
  pub bounds-let_go : (h : Held) (n : ℕ) → Turn o words views → v.held ≡ Some h → bound_of n ≡ bound_of h.word → Shaped o words
      → Bounds o (set words (entry_index h.page.0) n) (set views i (after_release v None))
  bounds-let_go h n turn holds same s = let mine = turn.held_word i v h at holds in
      bounds-elsewhere (entry_index h.page.0) n (after_release v None) (next_ticket-entry words h.page.0 n)
      (λ page lt. bound-same h.page.0 n (entry_within o words h.page.0 s mine.0) (same ∙ ap bound_of (sym mine.1)) page) refl refl
      (λ g t is. absurd (none-some g is))

  -- a release with an entry
  pub bounds-end : (h : Held) (u n : ℕ) (d : CallDone) → Turn o words views → Tickets o words views → v.held ≡ Some h → h.ticket ≡ Some u → bound_of n ≡ u + 1 → Shaped o words
      → Bounds o (set words (entry_index h.page.0) n) (set views i (after_release v (Some d)))
  bounds-end h u n d turn k holds drawn new s =
      let z = next_ticket-entry words h.page.0 n in
      let mine = turn.held_word i v h at holds in
      let old : bound_of (entry_word_of words h.page.0) ≤ u = (let a : bound_of (entry_word_of words h.page.0) ≡ bound_of h.word = ap bound_of mine.1 in let c = b.drawn_late i v h u at holds drawn in omega arith) in
      let low = (used-drawn o words views u k (drawn-used views i v h u at holds drawn)).1 in
      let here : bound_of (entry_word_of (set words (entry_index h.page.0) n) h.page.0) ≡ u + 1 = ap bound_of (entry_word-here words n h.page.0 (entry_within o words h.page.0 s mine.0)) ∙ new in
      let page_is : held_page v.held ≡ h.page.0 = ap (λ m. held_page m) holds in
      let ticket_is : held_ticket v.held ≡ u = ap (λ m. held_ticket m) holds ∙ ap (λ m. number_or m 0) drawn in
      bounds-grown (entry_index h.page.0) n (after_release v (Some d)) (λ page. bound_by page (entry_of v d)) (omega arith)
      (λ page lt. dite (ℕ_discrete page h.page.0)
      (λ q. subst (λ (p : ℕ). (bound_of (entry_word_of (set words (entry_index h.page.0) n) p) ≡ max (bound_of (entry_word_of words p)) (bound_by p (entry_of v d))) × (bound_by p (entry_of v d) ≤ next_ticket_of words)) (sym q)
      (let e : bound_by h.page.0 (entry_of v d) ≡ held_ticket v.held + 1 = ap (λ (t : Bool). cond t (held_ticket v.held + 1) 0) (eq-eqb (held_page v.held) h.page.0 page_is) in (omega arith, omega arith)))
      (λ ne. let e : bound_by page (entry_of v d) ≡ 0 = ap (λ (t : Bool). cond t (held_ticket v.held + 1) 0) (ne_eqb (held_page v.held) page (λ r. ne (sym (sym page_is ∙ r)))) in
      let f : bound_of (entry_word_of (set words (entry_index h.page.0) n) page) ≡ bound_of (entry_word_of words page) = ap bound_of (entry_word-other words h.page.0 n page ne) in (omega arith, omega arith)))
      (λ page. latest_in_push page v.entries (entry_of v d))
      (let c = b.seen_low i v at in omega arith)
      (λ g t is. absurd (none-some g is))

pub steps_keep_bounds : (k : Keeper) (o : Opening) (words : List ℕ) (views : List View) (seat : ℕ) (v : View) (step : Step) → Has views seat v → Shaped o words → Turn o words views → Tickets o words views → Bounds o words views → Allowed o v step
    → Bounds o (words_after o words v step) (views_after k o words views seat v step)
steps_keep_bounds k o words views seat v (Take page) at s t u b may = bounds-take o words views seat v b at k page may s
steps_keep_bounds k o words views seat v Draw at s t u b may = let d = drawing v may in bounds-draw o words views seat v b at d.0 t d.1 (first_within o words s)
steps_keep_bounds k o words views seat v (Load cell) at s t u b may = bounds-alike o words views seat v b at _ _ _ (next_ticket-elsewhere words _ _ (λ e. absurd (omega arith))) (λ page lt e. absurd (omega arith)) (alike-load v cell _)
steps_keep_bounds k o words views seat v (Store frame cell value) at s t u b may = bounds-alike o words views seat v b at _ _ _ (next_ticket-elsewhere words _ _ (λ e. absurd (omega arith))) (λ page lt e. absurd (omega arith)) (alike-store v frame cell value)
steps_keep_bounds k o words views seat v (Mark frame) at s t u b may = bounds-alike o words views seat v b at _ _ _ (next_ticket-elsewhere words _ _ (λ e. absurd (omega arith))) (λ page lt e. absurd (omega arith)) (alike-mark v frame)
steps_keep_bounds k o words views seat v (Release None) at s t u b may = let p = for_some v.held (MayLetGo o v) may.1 in
    let word : held_word v.held ≡ (p.0).word = ap (λ m. held_word m) p.1 in
    subst (λ (q : ℕ). Bounds o (set words (entry_index q) (word_after_release v.held None)) (set views seat (after_release v None))) (sym (ap (λ m. held_page m) p.1))
    (bounds-let_go o words views seat v b at p.0 _ t p.1 (bound_of-released (held_word v.held) (pins_of (held_word v.held)) (bound_of (held_word v.held)) (omega arith) ∙ ap bound_of word) s)
steps_keep_bounds k o words views seat v (Release (Some d)) at s t u b may = let p = for_some v.held (MayEnd o d) may.1 in let x = some_is (p.0).ticket p.2.drawn in
    let word : held_word v.held ≡ (p.0).word = ap (λ m. held_word m) p.1 in
    let ticket : held_ticket v.held ≡ x.0 = ap (λ m. held_ticket m) p.1 ∙ ap (λ m. number_or m 0) x.1 in
    let fits : pins_after d.call d.reply (pins_of (held_word v.held)) ≤ 63 = subst (λ (w : ℕ). pins_after d.call d.reply (pins_of w) ≤ 63) (sym word) p.2.pins_fit in
    subst (λ (q : ℕ). Bounds o (set words (entry_index q) (word_after_release v.held (Some d))) (set views seat (after_release v (Some d)))) (sym (ap (λ m. held_page m) p.1))
    (bounds-end o words views seat v b at p.0 x.0 _ d t u p.1 x.1 (bound_of-released (held_word v.held) (pins_after d.call d.reply (pins_of (held_word v.held))) (held_ticket v.held + 1) (omega arith) ∙ ap (λ n. n + 1) ticket) s)
