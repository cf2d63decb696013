-- `Pages` is kept by a release.
use Rattle.std.proofs.Common.{◌≡◌, ℕ, eqb, cond, Bool, true, false, eq-eqb, ne_eqb, zero, suc, ◌+◌, ◌-◌, ◌/◌, ◌%◌, ◌<◌, ◌≤◌, ◌≢◌, ◌⊎◌, List, [], ◌∷◌, ◌++◌, length, set, sym, refl, ap, ◌∙◌, subst, inl, inr, ⊎_elim, arith, Some, None}
use Rattle.std.proofs.lemmas.Option.{same_Some, none-some}
use Rattle.std.proofs.lemmas.Grind.{common_steps}
use mathlib.Core.Logic.{dite}
use native.Mathlib.Decide.{ℕ_discrete}
use Rattle.evac_model.specs.declared.call.Call.{Call}
use Rattle.evac_model.specs.declared.reply.Reply.{Reply}
use Rattle.evac_model.specs.declared.entry.Entry.{Entry}
use Rattle.evac_model.specs.Page.{Page, kind_of}
use Rattle.evac_words.specs.Word.{moving_bit, pins_of, bound_of}
use Rattle.evac_words.specs.Table.{entry_index}
use Rattle.core_state.specs.declared.held.Held.{Held}
use Rattle.core_state.specs.declared.opening.Opening.{Opening}
use Rattle.core_state.specs.declared.view.View.{View}
use Rattle.core_state.specs.Words.{next_ticket_of, entry_word_of, cells_of_frame, released_word}
use Rattle.core_state.specs.Views.{Has, holds_page}
use Rattle.core_state.specs.Parts.{Shaped, Turn, Tickets, Bounds, uses, uses_of, drawn_as, is_at, latest}
use Rattle.core_state.specs.Pages.{entry_with, answer_at, page_after_entry, page_after, page_now, Flagged, page_cells, Shows, with_pins, left_as, HeldShows, FreeShows, Pages, Answered}
use Rattle.core_state.specs.Steps.{pins_after, MayLetGo, after_release}
use Rattle.core_state.proofs.Lists.{at_set, sum_by_kept, sum_by_replaced, two_members_le_sum_by}
use Rattle.core_state.proofs.EntryWords.{SameFlags, moving_bit-released, mapped_bit-released, unmovable_bit-released, pins_of-released, frame_of-released}
use Rattle.core_state.proofs.WordsAt.{entry_word-here, entry_word-other, entry_within, next_ticket-entry, cells_of_frame-before}
use Rattle.core_state.proofs.Holding.{holds_page-same, holds_page-other}
use Rattle.core_state.proofs.TicketSteps.{drawn-used, used-drawn}
use Rattle.core_state.proofs.Entries.{entry_with-kept, entry_with-none, page_after-kept, page_after-quiet, entry_with-added_other, entry_with-added_same, entry_with-found}
use Rattle.core_state.proofs.Pages.{page_cells-pins, length-left_as, shows-same, shows-elsewhere, free_shows-elsewhere, held_shows-elsewhere, could_be}
use Rattle.core_state.proofs.PageSteps.{pages-at_entry}

-- ---- the word that a release leaves

-- a call that leaves an unmapped page leaves no pins
pins_after-unmapped : (n : ℕ) (m : Page) (call : Call) (reply : Reply) → (answer_at n m call reply).0 ≡ reply → (answer_at n m call reply).1 ≡ None → pins_after call reply 0 ≡ 0
pins_after-unmapped n m call reply e f = grind (arith, common_steps)

unmapped-released : (w b : ℕ) → w / 2 % 536870912 ≡ 0 → released_word w 0 b / 2 % 536870912 ≡ 0
unmapped-released w b e = omega arith

-- the released word shows the page with its pins
shows-released : (o : Opening) (words : List ℕ) (w pins b : ℕ) (m : Page) → pins ≤ 63 → (m ≡ None → pins ≡ 0) → Shows o words w m → Shows o words (released_word w pins b) (with_pins pins m)
shows-released o words w pins b None fits none s = record {
  flags = subst (λ (p : ℕ). released_word w p b / 2 % 536870912 ≡ 0) (sym (none refl)) (unmapped-released w b s.flags);
  cells = λ on. absurd (let a = s.flags in let c = mapped_bit-released w pins b (omega arith) in omega arith);
}
shows-released o words w pins b (Some m) fits none s = let f = s.flags in record {
  flags = (mapped_bit-released w pins b (omega arith) ∙ f.0, ap (λ (u : ℕ). kind_of (eqb u 0)) (unmovable_bit-released w pins b (omega arith)) ∙ f.1, pins_of-released w pins b (omega arith));
  cells = λ on. ap (λ (g : ℕ). cells_of_frame o words g) (frame_of-released w pins b (omega arith)) ∙ s.cells f.0;
}

same_flags-released : (w b : ℕ) → SameFlags (released_word w (pins_of w) b) w
same_flags-released w b = record {
  moving = moving_bit-released w (pins_of w) b (omega arith);
  mapped = mapped_bit-released w (pins_of w) b (omega arith);
  unmovable = unmovable_bit-released w (pins_of w) b (omega arith);
  pins = pins_of-released w (pins_of w) b (omega arith);
  frame = frame_of-released w (pins_of w) b (omega arith);
  low = omega arith;
}

-- ---- a release without an entry

pub pages-let_go : (o : Opening) (words : List ℕ) (views : List View) (i : ℕ) (v : View) (h : Held) (b : ℕ) → Turn o words views → Pages o words views → Shaped o words → Has views i v → v.held ≡ Some h → MayLetGo o v h
    → Pages o (set words (entry_index h.page.0) (released_word h.word (pins_of h.word) b)) (set views i (after_release v None))
pages-let_go o words views i v h b t s shaped at holds may = pages-at_entry o words views i v s at h.page.0 new (after_release v None) mine.0 refl
    (λ page lt none. dite (ℕ_discrete page h.page.0)
    (λ q. subst (λ (p : ℕ). FreeShows o words (entry_word_of (set words (entry_index h.page.0) new) p) (page_now o words views p)) (sym q)
    (subst (λ (w : ℕ). FreeShows o words w (page_now o words views h.page.0)) (sym (entry_word-here words new h.page.0 (entry_within o words h.page.0 shaped mine.0))) shown))
    (λ ne. subst (λ (w : ℕ). FreeShows o words w (page_now o words views page)) (sym (entry_word-other words h.page.0 new page ne))
    (s.free page lt (sym (sum_by_kept (λ y. holds_page page y.held) views i v (after_release v None) at (sym (holds_page-other page v.held h holds (λ q. ne (sym q))))) ∙ none))))
    (λ g is. absurd (none-some g is)) where
      new : ℕ
      new = released_word h.word (pins_of h.word) b

      mine : (h.page.0 < o.pages) × (entry_word_of words h.page.0 ≡ h.word)
      mine = t.held_word i v h at holds

      shown : FreeShows o words (released_word h.word (pins_of h.word) b) (page_now o words views h.page.0)
      shown = let old = s.held i v h at holds in let f = same_flags-released h.word b in record {
        still = f.moving ∙ may.still;
        shows = subst (λ (m : Page). Shows o words (released_word h.word (pins_of h.word) b) m) (may.untouched (page_now o words views h.page.0) (could_be o words h _ old (s.sized h.page.0 mine.0)))
            (shows-same o words (released_word h.word (pins_of h.word) b) h.word _ f old.shows);
      }

-- ---- a release with an entry

-- the view with the entry, which holds nothing
abbrev pub ended : View → Entry → View
ended v e = record v { held = None; entries = v.entries ++ e ∷ [] }

-- what is known where a seat ends its call with an entry
pub record Ends (o : Opening) (words : List ℕ) (views : List View) (i : ℕ) (v : View) (h : Held) (u : ℕ) (e : Entry) : Type 0 where
  pub shaped : Shaped o words
  pub turn : Turn o words views
  pub tickets : Tickets o words views
  pub bounds : Bounds o words views
  pub at : Has views i v
  pub holds : v.held ≡ Some h
  pub drawn : h.ticket ≡ Some u
  pub ticket_is : e.ticket ≡ u
  pub page_is : e.page.0 ≡ h.page.0

-- an entry of another page changes nothing
page_after-added_other : (o : Opening) (views other : List View) (page k : ℕ) (e : Entry) → e.page.0 ≢ page
    → ((t : ℕ) → (entry_with t other ≡ entry_with t views) ⊎ ((entry_with t other ≡ Some e) × (entry_with t views ≡ None)))
    → page_after o other page k ≡ page_after o views page k
page_after-added_other o views other page zero e ne same = refl
page_after-added_other o views other page (suc k) e ne same =
    ap (λ m. page_after_entry o.cells page m (entry_with (o.first + k) other)) (page_after-added_other o views other page k e ne same)
    ∙ ⊎_elim
    (λ q. ap (λ m. page_after_entry o.cells page (page_after o views page k) m) q)
    (λ q. ap (λ m. page_after_entry o.cells page (page_after o views page k) m) q.0
    ∙ ap (λ (b : Bool). cond b (answer_at o.cells (page_after o views page k) e.call e.reply).1 (page_after o views page k)) (ne_eqb e.page.0 page ne)
    ∙ sym (ap (λ m. page_after_entry o.cells page (page_after o views page k) m) q.1))
    (same (o.first + k))

module _ (o : Opening) (words : List ℕ) (views : List View) (i : ℕ) (v : View) (h : Held) (u : ℕ) (e : Entry) (r : Ends o words views i v h u e) where
  mine : (h.page.0 < o.pages) × (entry_word_of words h.page.0 ≡ h.word)
  mine = r.turn.held_word i v h r.at r.holds

  drawn : (o.first ≤ u) × (u < next_ticket_of words)
  drawn = used-drawn o words views u r.tickets (drawn-used views i v h u r.at r.holds r.drawn)

  pub ticket_high : o.first ≤ u
  ticket_high = drawn.0

  no_entry : entry_with u views ≡ None
  no_entry = let w : View = record v { held = None } in
      let a = sum_by_replaced (λ x. uses_of u x) views i v w r.at in
      let b : drawn_as u v.held ≡ 1 = ap (λ m. drawn_as u m) r.holds ∙ ap (λ m. is_at u m) r.drawn ∙ ap (λ (t : Bool). cond t 1 0) (eq-eqb u u refl) in
      let c = r.tickets.each_once u drawn.0 drawn.1 in
      let none : uses u (set views i w) ≡ 0 = omega arith in
      sym (entry_with-kept u views i v w r.at refl) ∙ entry_with-none u (set views i w) none

  -- the ticket isn't below the page's bound
  pub bound_low : bound_of (entry_word_of words h.page.0) ≤ u
  bound_low = let c = r.bounds.drawn_late i v h u r.at r.holds r.drawn in let d : bound_of (entry_word_of words h.page.0) ≡ bound_of h.word = ap bound_of mine.1 in omega arith

  -- the entries of the page have lower tickets
  earlier : (t : ℕ) (x : Entry) → entry_with t views ≡ Some x → x.page.0 ≡ h.page.0 → t < u
  earlier t x found on =
      let a = (entry_with-found t views x found).1 in
      let b = r.bounds.bound_is h.page.0 mine.0 in
      let c = bound_low in
      let f : latest x.page.0 views ≡ latest h.page.0 views = ap (λ p. latest p views) on in omega arith

  added : (t : ℕ) → (entry_with t (set views i (ended v e)) ≡ entry_with t views) ⊎ ((entry_with t (set views i (ended v e)) ≡ Some e) × (entry_with t views ≡ None))
  added t = dite (ℕ_discrete t u)
      (λ q. inr (entry_with-added_same t views i v (ended v e) e r.at refl (r.ticket_is ∙ sym q) (ap (λ n. entry_with n views) q ∙ no_entry), ap (λ n. entry_with n views) q ∙ no_entry))
      (λ ne. inl (entry_with-added_other t views i v (ended v e) e r.at refl (λ s. ne (sym s ∙ r.ticket_is))))

  entry_other : (t : ℕ) → t ≢ u → entry_with t (set views i (ended v e)) ≡ entry_with t views
  entry_other t ne = entry_with-added_other t views i v (ended v e) e r.at refl (λ s. ne (sym s ∙ r.ticket_is))

  -- up to the ticket, no page changes
  pub page_low : (page k : ℕ) → o.first + k ≤ u → page_after o (set views i (ended v e)) page k ≡ page_after o views page k
  page_low page k low = page_after-kept o (set views i (ended v e)) views page k (λ j lt. entry_other (o.first + j) (λ q. absurd (omega arith)))

  pub page_other : (page k : ℕ) → page ≢ h.page.0 → page_after o (set views i (ended v e)) page k ≡ page_after o views page k
  page_other page k ne = page_after-added_other o views (set views i (ended v e)) page k e (λ q. ne (sym q ∙ r.page_is)) added

  page_was : page_after o views h.page.0 (u - o.first) ≡ page_now o words views h.page.0
  page_was = let a = drawn.1 in let b = drawn.0 in
      let q : next_ticket_of words - o.first ≡ (u - o.first) + (next_ticket_of words - u) = omega arith in
      sym (ap (λ n. page_after o views h.page.0 n) q ∙ page_after-quiet o views h.page.0 (u - o.first) (next_ticket_of words - u)
      (λ w x low high found on. let c = earlier (o.first + w) x found on in absurd (omega arith)))

  page_then : page_after o (set views i (ended v e)) h.page.0 (next_ticket_of words - o.first) ≡ (answer_at o.cells (page_now o words views h.page.0) e.call e.reply).1
  page_then = let a = drawn.1 in let b = drawn.0 in
      let q : next_ticket_of words - o.first ≡ suc (u - o.first) + (next_ticket_of words - suc u) = omega arith in
      let z : o.first + (u - o.first) ≡ u = omega arith in
      ap (λ n. page_after o (set views i (ended v e)) h.page.0 n) q
      ∙ page_after-quiet o (set views i (ended v e)) h.page.0 (suc (u - o.first)) (next_ticket_of words - suc u)
      (λ w x low high found on. let c = earlier (o.first + w) x (sym (entry_other (o.first + w) (λ s. absurd (omega arith))) ∙ found) on in absurd (omega arith))
      ∙ ap (λ m. page_after_entry o.cells h.page.0 (page_after o (set views i (ended v e)) h.page.0 (u - o.first)) m)
      (entry_with-added_same (o.first + (u - o.first)) views i v (ended v e) e r.at refl (r.ticket_is ∙ sym z) (ap (λ n. entry_with n views) z ∙ no_entry))
      ∙ ap (λ (t : Bool). cond t (answer_at o.cells (page_after o (set views i (ended v e)) h.page.0 (u - o.first)) e.call e.reply).1 (page_after o (set views i (ended v e)) h.page.0 (u - o.first))) (eq-eqb e.page.0 h.page.0 r.page_is)
      ∙ ap (λ m. (answer_at o.cells m e.call e.reply).1) (page_low h.page.0 (u - o.first) (omega arith) ∙ page_was)

  -- no other view holds the page
  held_apart : (k : ℕ) (x : View) (g : Held) → k ≢ i → Has views k x → x.held ≡ Some g → g.page.0 ≢ h.page.0
  held_apart k x g ne has is on =
      let s = two_members_le_sum_by (λ y. holds_page h.page.0 y.held) views k i x v ne has r.at in
      let a = holds_page-same h.page.0 x.held g is on in
      let c = holds_page-same h.page.0 v.held h r.holds refl in
      let b = r.turn.taken_by_one h.page.0 mine.0 in absurd (omega arith)

  pub pages-end : (b : ℕ) → Pages o words views → moving_bit h.word ≡ 0 → pins_after e.call e.reply (pins_of h.word) ≤ 63 → Answered o h e.call e.reply (pins_after e.call e.reply (pins_of h.word))
      → Pages o (set words (entry_index h.page.0) (released_word h.word (pins_after e.call e.reply (pins_of h.word)) b)) (set views i (ended v e))
  pages-end b g still fits answered = record {
    replies = λ k x low found. dite (ℕ_discrete (o.first + k) u)
        (λ q. reply_here k x q found)
        (λ ne. reply_other k x ne (let z = word_0 in omega arith) (sym (entry_other (o.first + k) ne) ∙ found));
    sized = λ page lt. dite (ℕ_discrete page h.page.0)
        (λ q. subst (λ (p : ℕ). length (page_cells o.cells (page_now o (set words (entry_index h.page.0) (released_word h.word (pins_after e.call e.reply (pins_of h.word)) b)) (set views i (ended v e)) p)) ≡ o.cells) (sym q)
        (ap (λ m. length (page_cells o.cells m)) now_here ∙ ap (λ (l : List ℕ). length l) (page_cells-pins o.cells (pins_after e.call e.reply (pins_of h.word)) (left_as o.cells h (page_now o words views h.page.0)))
        ∙ length-left_as o.cells h (page_now o words views h.page.0) (g.sized h.page.0 mine.0)))
        (λ ne. ap (λ m. length (page_cells o.cells m)) (now_other page ne) ∙ g.sized page lt);
    free = λ page lt none. dite (ℕ_discrete page h.page.0)
        (λ q. subst (λ (p : ℕ). FreeShows o (set words (entry_index h.page.0) (released_word h.word (pins_after e.call e.reply (pins_of h.word)) b)) (entry_word_of (set words (entry_index h.page.0) (released_word h.word (pins_after e.call e.reply (pins_of h.word)) b)) p) (page_now o (set words (entry_index h.page.0) (released_word h.word (pins_after e.call e.reply (pins_of h.word)) b)) (set views i (ended v e)) p)) (sym q)
        (subst (λ (m : Page). FreeShows o (set words (entry_index h.page.0) (released_word h.word (pins_after e.call e.reply (pins_of h.word)) b)) (entry_word_of (set words (entry_index h.page.0) (released_word h.word (pins_after e.call e.reply (pins_of h.word)) b)) h.page.0) m) (sym now_here)
        (subst (λ (w : ℕ). FreeShows o (set words (entry_index h.page.0) (released_word h.word (pins_after e.call e.reply (pins_of h.word)) b)) w (with_pins (pins_after e.call e.reply (pins_of h.word)) (left_as o.cells h (page_now o words views h.page.0)))) (sym (entry_word-here words (released_word h.word (pins_after e.call e.reply (pins_of h.word)) b) h.page.0 (entry_within o words h.page.0 r.shaped mine.0))) shown)))
        (λ ne. subst (λ (m : Page). FreeShows o (set words (entry_index h.page.0) (released_word h.word (pins_after e.call e.reply (pins_of h.word)) b)) (entry_word_of (set words (entry_index h.page.0) (released_word h.word (pins_after e.call e.reply (pins_of h.word)) b)) page) m) (sym (now_other page ne))
        (subst (λ (w : ℕ). FreeShows o (set words (entry_index h.page.0) (released_word h.word (pins_after e.call e.reply (pins_of h.word)) b)) w (page_now o words views page)) (sym (entry_word-other words h.page.0 (released_word h.word (pins_after e.call e.reply (pins_of h.word)) b) page ne))
        (free_shows-elsewhere o words (set words (entry_index h.page.0) (released_word h.word (pins_after e.call e.reply (pins_of h.word)) b)) _ _ same_cells (g.free page lt
        (sym (sum_by_kept (λ y. holds_page page y.held) views i v (ended v e) r.at (sym (holds_page-other page v.held h r.holds (λ s. ne (sym s))))) ∙ none)))));
    held = λ k x f has is. ⊎_elim
        (λ q. absurd (none-some f (subst (λ (y : View). y.held ≡ Some f) (sym q.1) is)))
        (λ q. subst (λ (m : Page). HeldShows o (set words (entry_index h.page.0) (released_word h.word (pins_after e.call e.reply (pins_of h.word)) b)) f m) (sym (now_other f.page.0 (held_apart k x f q.0 q.1 is)))
        (held_shows-elsewhere o words (set words (entry_index h.page.0) (released_word h.word (pins_after e.call e.reply (pins_of h.word)) b)) f _ same_cells (g.held k x f q.1 is)))
        (at_set views i k (ended v e) x has);
  } where
    new : ℕ
    new = released_word h.word (pins_after e.call e.reply (pins_of h.word)) b

    same_cells : (f : ℕ) → cells_of_frame o (set words (entry_index h.page.0) (released_word h.word (pins_after e.call e.reply (pins_of h.word)) b)) f ≡ cells_of_frame o words f
    same_cells f = cells_of_frame-before o words (entry_index h.page.0) (released_word h.word (pins_after e.call e.reply (pins_of h.word)) b) f (let l = mine.0 in omega arith)

    word_0 : next_ticket_of (set words (entry_index h.page.0) (released_word h.word (pins_after e.call e.reply (pins_of h.word)) b)) ≡ next_ticket_of words
    word_0 = next_ticket-entry words h.page.0 (released_word h.word (pins_after e.call e.reply (pins_of h.word)) b)

    answer_is : answer_at o.cells (page_now o words views h.page.0) e.call e.reply ≡ (e.reply, with_pins (pins_after e.call e.reply (pins_of h.word)) (left_as o.cells h (page_now o words views h.page.0)))
    answer_is = answered (page_now o words views h.page.0) (could_be o words h _ (g.held i v h r.at r.holds) (g.sized h.page.0 mine.0))

    now_here : page_now o (set words (entry_index h.page.0) (released_word h.word (pins_after e.call e.reply (pins_of h.word)) b)) (set views i (ended v e)) h.page.0 ≡ with_pins (pins_after e.call e.reply (pins_of h.word)) (left_as o.cells h (page_now o words views h.page.0))
    now_here = ap (λ (z : ℕ). page_after o (set views i (ended v e)) h.page.0 (z - o.first)) word_0 ∙ page_then ∙ ap (λ (q : Reply × Page). q.1) answer_is

    now_other : (page : ℕ) → page ≢ h.page.0 → page_now o (set words (entry_index h.page.0) (released_word h.word (pins_after e.call e.reply (pins_of h.word)) b)) (set views i (ended v e)) page ≡ page_now o words views page
    now_other page ne = ap (λ (z : ℕ). page_after o (set views i (ended v e)) page (z - o.first)) word_0 ∙ page_other page (next_ticket_of words - o.first) ne

    -- an unmapped page is left without pins
    no_pins : left_as o.cells h (page_now o words views h.page.0) ≡ None → pins_after e.call e.reply (pins_of h.word) ≡ 0
    no_pins none =
        let f : h.word / 2 % 536870912 ≡ 0 = subst (λ (m : Page). Flagged h.word m) none (g.held i v h r.at r.holds).shows.flags in
        let z : pins_of h.word ≡ 0 = omega arith in
        ap (λ n. pins_after e.call e.reply n) z
        ∙ pins_after-unmapped o.cells (page_now o words views h.page.0) e.call e.reply (ap (λ (q : Reply × Page). q.0) answer_is)
        (ap (λ (q : Reply × Page). q.1) answer_is ∙ ap (λ m. with_pins (pins_after e.call e.reply (pins_of h.word)) m) none)

    shown : FreeShows o (set words (entry_index h.page.0) (released_word h.word (pins_after e.call e.reply (pins_of h.word)) b)) (released_word h.word (pins_after e.call e.reply (pins_of h.word)) b) (with_pins (pins_after e.call e.reply (pins_of h.word)) (left_as o.cells h (page_now o words views h.page.0)))
    shown = record {
      still = moving_bit-released h.word (pins_after e.call e.reply (pins_of h.word)) b (omega arith) ∙ still;
      shows = shows-elsewhere o words (set words (entry_index h.page.0) (released_word h.word (pins_after e.call e.reply (pins_of h.word)) b)) _ _ same_cells
          (shows-released o words h.word (pins_after e.call e.reply (pins_of h.word)) b (left_as o.cells h (page_now o words views h.page.0)) fits no_pins (g.held i v h r.at r.holds).shows);
    }

    reply_here : (k : ℕ) (x : Entry) → o.first + k ≡ u → entry_with (o.first + k) (set views i (ended v e)) ≡ Some x → (answer_at o.cells (page_after o (set views i (ended v e)) x.page.0 k) x.call x.reply).0 ≡ x.reply
    reply_here k x q found =
        let same : e ≡ x = same_Some _ _ (sym (entry_with-added_same (o.first + k) views i v (ended v e) e r.at refl (r.ticket_is ∙ sym q) (ap (λ t. entry_with t views) q ∙ no_entry)) ∙ found) in
        subst (λ (y : Entry). (answer_at o.cells (page_after o (set views i (ended v e)) y.page.0 k) y.call y.reply).0 ≡ y.reply) same
        (let p : k ≡ u - o.first = omega arith in
        ap (λ m. (answer_at o.cells m e.call e.reply).0) (ap (λ (w : ℕ). page_after o (set views i (ended v e)) w k) r.page_is ∙ page_low h.page.0 k (omega arith) ∙ ap (λ w. page_after o views h.page.0 w) p ∙ page_was) ∙ ap (λ (t : Reply × Page). t.0) answer_is)

    reply_other : (k : ℕ) (x : Entry) → o.first + k ≢ u → o.first + k < next_ticket_of words → entry_with (o.first + k) views ≡ Some x → (answer_at o.cells (page_after o (set views i (ended v e)) x.page.0 k) x.call x.reply).0 ≡ x.reply
    reply_other k x ne low found = ap (λ m. (answer_at o.cells m x.call x.reply).0) (dite (ℕ_discrete x.page.0 h.page.0)
        (λ q. let c = earlier (o.first + k) x found q in page_low x.page.0 k (omega arith))
        (λ other. page_other x.page.0 k other)) ∙ g.replies k x low found
