-- `Pages` is kept by steps that add no entry and store in no cell.
use Rattle.std.proofs.Common.{◌≡◌, ℕ, suc, ◌+◌, ◌-◌, ◌<◌, bit_or, List, length, set, sym, refl, ap, ◌∙◌, subst, ⊎_elim, arith, Some, None}
use Rattle.std.proofs.lemmas.Option.{same_Some, none-some}
use Rattle.std.proofs.lemmas.List.{length-replicate}
use Rattle.std.proofs.lemmas.Grind.{common_steps}
use mathlib.Core.Logic.{dite}
use native.Mathlib.Decide.{ℕ_discrete}
use Rattle.evac_model.specs.declared.names.PageNo.{PageNo}
use Rattle.evac_model.specs.declared.names.FrameNo.{FrameNo}
use Rattle.evac_model.specs.declared.entry.Entry.{Entry}
use Rattle.evac_model.specs.Page.{Page}
use Rattle.evac_words.specs.Word.{taken_bit}
use Rattle.evac_words.specs.Table.{entry_index, dirty_index}
use Rattle.core_state.specs.declared.held.Held.{Held}
use Rattle.core_state.specs.declared.keeper.Keeper.{Keeper}
use Rattle.core_state.specs.declared.opening.Opening.{Opening}
use Rattle.core_state.specs.declared.view.View.{View}
use Rattle.core_state.specs.Words.{next_ticket_of, entry_word_of}
use Rattle.core_state.specs.Views.{Has, holders, holds_page}
use Rattle.core_state.specs.Parts.{Shaped, Turn, Tickets}
use Rattle.core_state.specs.Pages.{entry_with, answer_at, page_after_entry, page_after, page_now, page_cells, Shows, HeldShows, FreeShows, Pages}
use Rattle.core_state.specs.Steps.{MayTake, newly_held, after_take, after_draw, after_mark}
use Rattle.core_state.proofs.Lists.{at_set, sum_by_kept, sum_by_replaced}
use Rattle.core_state.proofs.EntryWords.{take_free, bound_of-take, same_flags-take}
use Rattle.core_state.proofs.WordsAt.{next_ticket-elsewhere, next_ticket-here, next_ticket-entry, entry_word-elsewhere, entry_word-other, first_within, cells_of_frame-before}
use Rattle.core_state.proofs.Holding.{Drawing, with_ticket-some, held_after_take-free, held_after_take-busy, Alike}
use Rattle.core_state.proofs.TurnSteps.{alike-mark}
use Rattle.core_state.proofs.Entries.{entry_with-kept, entry_with-none, page_after-kept}
use Rattle.core_state.proofs.Pages.{agrees-nothing, with_stores-nothing, SameCells, shows-same, free_shows-elsewhere, held_shows-elsewhere}

-- where no entry comes and word 0 stays, each page stays
pub page_now-kept : (o : Opening) (words : List ℕ) (views : List View) (i j n : ℕ) (v w : View) (page : ℕ) → Has views i v → w.entries ≡ v.entries → next_ticket_of (set words j n) ≡ next_ticket_of words
    → page_now o (set words j n) (set views i w) page ≡ page_now o words views page
page_now-kept o words views i j n v w page at e z =
    ap (λ (k : ℕ). page_after o (set views i w) page (k - o.first)) z
    ∙ page_after-kept o (set views i w) views page (next_ticket_of words - o.first) (λ k lt. entry_with-kept (o.first + k) views i v w at e)

module _ (o : Opening) (words : List ℕ) (views : List View) (i : ℕ) (v : View) (s : Pages o words views) (at : Has views i v) where
  -- a step that leaves all cells, after which each page is what it was, by a seat that adds no entry
  pub pages-shown : (j n : ℕ) (w : View) → SameCells o words (set words j n)
      → w.entries ≡ v.entries
      → ((k : ℕ) (e : Entry) → o.first + k < next_ticket_of (set words j n) → entry_with (o.first + k) views ≡ Some e → o.first + k < next_ticket_of words)
      → ((page : ℕ) → page_now o (set words j n) (set views i w) page ≡ page_now o words views page)
      → ((page : ℕ) → page < o.pages → holders page (set views i w) ≡ 0 → FreeShows o words (entry_word_of (set words j n) page) (page_now o words views page))
      → ((h : Held) → w.held ≡ Some h → HeldShows o words h (page_now o words views h.page.0))
      → Pages o (set words j n) (set views i w)
  pages-shown j n w lt same old now free mine = record {
    replies = λ k e low found. let f = sym (entry_with-kept (o.first + k) views i v w at same) ∙ found in
        ap (λ m. (answer_at o.cells m e.call e.reply).0) (page_after-kept o (set views i w) views e.page.0 k (λ u l. entry_with-kept (o.first + u) views i v w at same)) ∙ s.replies k e (old k e low f) f;
    sized = λ page l. ap (λ m. length (page_cells o.cells m)) (now page) ∙ s.sized page l;
    free = λ page l none. subst (λ (m : Page). FreeShows o (set words j n) (entry_word_of (set words j n) page) m) (sym (now page)) (free_shows-elsewhere o words (set words j n) (entry_word_of (set words j n) page) _ lt (free page l none));
    held = λ k x h has is. subst (λ (m : Page). HeldShows o (set words j n) h m) (sym (now h.page.0)) (held_shows-elsewhere o words (set words j n) h _ lt (⊎_elim
        (λ q. mine h (subst (λ (y : View). y.held ≡ Some h) (sym q.1) is))
        (λ q. s.held k x h q.1 is)
        (at_set views i k w x has)));
  }

  -- the same where the entry words of free pages stay
  pub pages-kept : (j n : ℕ) (w : View) → SameCells o words (set words j n)
      → w.entries ≡ v.entries
      → ((k : ℕ) (e : Entry) → o.first + k < next_ticket_of (set words j n) → entry_with (o.first + k) views ≡ Some e → o.first + k < next_ticket_of words)
      → ((page : ℕ) → page_now o (set words j n) (set views i w) page ≡ page_now o words views page)
      → ((page : ℕ) → page < o.pages → holders page (set views i w) ≡ 0 → (holders page views ≡ 0) × (entry_word_of (set words j n) page ≡ entry_word_of words page))
      → ((h : Held) → w.held ≡ Some h → HeldShows o words h (page_now o words views h.page.0))
      → Pages o (set words j n) (set views i w)
  pages-kept j n w lt same old now free mine = pages-shown j n w lt same old now
      (λ page l none. let f = free page l none in subst (λ (x : ℕ). FreeShows o words x (page_now o words views page)) (sym f.1) (s.free page l f.0)) mine

  -- a step that leaves word 0, the entry words and all cells, by a seat that holds what it held
  pub pages-alike : (j n : ℕ) (w : View) → SameCells o words (set words j n) → next_ticket_of (set words j n) ≡ next_ticket_of words
      → ((page : ℕ) → page < o.pages → entry_word_of (set words j n) page ≡ entry_word_of words page) → Alike v w
      → ((h : Held) → w.held ≡ Some h → HeldShows o words h (page_now o words views h.page.0))
      → Pages o (set words j n) (set views i w)
  pages-alike j n w lt z words_same a mine = pages-kept j n w lt a.entries
      (λ k e low found. omega arith)
      (λ page. page_now-kept o words views i j n v w page at a.entries z)
      (λ page l none. (sym (sum_by_kept (λ x. holds_page page x.held) views i v w at (a.held.page page)) ∙ none, words_same page l))
      mine

  -- a step on an entry word by a seat that adds no entry
  pub pages-at_entry : (p n : ℕ) (w : View) → p < o.pages → w.entries ≡ v.entries
      → ((page : ℕ) → page < o.pages → holders page (set views i w) ≡ 0 → FreeShows o words (entry_word_of (set words (entry_index p) n) page) (page_now o words views page))
      → ((h : Held) → w.held ≡ Some h → HeldShows o words h (page_now o words views h.page.0))
      → Pages o (set words (entry_index p) n) (set views i w)
  pages-at_entry p n w lt same free mine =
      pages-shown (entry_index p) n w (λ f. cells_of_frame-before o words (entry_index p) n f (omega arith)) same
      (λ k e low found. let z = next_ticket-entry words p n in omega arith)
      (λ page. page_now-kept o words views i (entry_index p) n v w page at same (next_ticket-entry words p n)) free mine

-- the page that was just taken
newly_shows : (o : Opening) (words : List ℕ) (v : View) (page : PageNo) (m : Page) → v.cells ≡ o.cells → taken_bit (entry_word_of words page.0) ≡ 0 → FreeShows o words (entry_word_of words page.0) m
    → HeldShows o words (newly_held v.cells page (entry_word_of words page.0)) m
newly_shows o words v page m sized free s = record {
  word = record {
    found_free = free;
    found_still = s.still;
    kept = λ e. let a = take_free (entry_word_of words page.0) free in let b = (same_flags-take (entry_word_of words page.0)).moving in let c = s.still in omega arith;
    bound = bound_of-take (entry_word_of words page.0);
  };
  found = s.shows.flags;
  loads = agrees-nothing v.cells (page_cells o.cells m);
  sized = length-replicate v.cells None ∙ sized;
  shows = subst (λ (x : Page). Shows o words (bit_or (entry_word_of words page.0) 1) x) (sym (with_stores-nothing v.cells m))
      (shows-same o words (bit_or (entry_word_of words page.0) 1) (entry_word_of words page.0) m (same_flags-take (entry_word_of words page.0)) s.shows);
}

module _ (o : Opening) (words : List ℕ) (views : List View) (i : ℕ) (v : View) (t : Turn o words views) (s : Pages o words views) (at : Has views i v) where
  pub pages-take : (k : Keeper) (page : PageNo) → MayTake o v page.0 → Shaped o words
      → Pages o (set words (entry_index page.0) (bit_or (entry_word_of words page.0) 1)) (set views i (after_take k v page (entry_word_of words page.0)))
  pages-take k page may shaped = let empty = may.holds_none in pages-at_entry o words views i v s at page.0 (bit_or (entry_word_of words page.0) 1) (after_take k v page (entry_word_of words page.0)) may.in_range refl
      (λ p lt none. let a = sum_by_replaced (λ x. holds_page p x.held) views i v (after_take k v page (entry_word_of words page.0)) at in dite (ℕ_discrete p page.0)
      (λ q. absurd (let b = t.taken_by_one p lt in let c : taken_bit (entry_word_of words p) ≡ taken_bit (entry_word_of words page.0) = ap (λ r. taken_bit (entry_word_of words r)) q in grind (arith, common_steps)))
      (λ ne. subst (λ (x : ℕ). FreeShows o words x (page_now o words views p)) (sym (entry_word-other words page.0 (bit_or (entry_word_of words page.0) 1) p ne)) (s.free p lt (grind (arith, common_steps)))))
      (λ h is. dite (ℕ_discrete (taken_bit (entry_word_of words page.0)) 0)
      (λ free. subst (λ (g : Held). HeldShows o words g (page_now o words views g.page.0)) (same_Some _ _ (sym (held_after_take-free v.cells page (entry_word_of words page.0) free) ∙ is))
      (newly_shows o words v page (page_now o words views page.0) may.seated.cells free (s.free page.0 may.in_range (t.taken_by_one page.0 may.in_range ∙ free))))
      (λ busy. absurd (none-some h (sym (held_after_take-busy v.cells page (entry_word_of words page.0) busy) ∙ is))))

  pub pages-draw : (h : Held) → Tickets o words views → Drawing v h → Shaped o words
      → Pages o (set words 0 (next_ticket_of words + 1)) (set views i (after_draw v (next_ticket_of words)))
  pages-draw h k may shaped = pages-kept o words views i v s at 0 (next_ticket_of words + 1) (after_draw v (next_ticket_of words)) (λ f. cells_of_frame-before o words 0 (next_ticket_of words + 1) f (omega arith)) refl
      (λ j e low found. dite (ℕ_discrete (o.first + j) (next_ticket_of words))
      (λ q. absurd (none-some e (sym none ∙ ap (λ u. entry_with u views) (sym q) ∙ found)))
      (λ ne. let z = first_word in omega arith))
      now_is
      (λ page l no. (
        sym (sum_by_kept (λ x. holds_page page x.held) views i v (after_draw v (next_ticket_of words)) at
            (ap (λ m. holds_page page m) (with_ticket-some v.held h (next_ticket_of words) may.holds) ∙ sym (ap (λ m. holds_page page m) may.holds))) ∙ no,
        entry_word-elsewhere words 0 (next_ticket_of words + 1) page (λ e. absurd (omega arith)),
      ))
      (λ g is. let old = s.held i v h at may.holds in let w = old.word in
      subst (λ (x : Held). HeldShows o words x (page_now o words views x.page.0)) (same_Some _ _ (sym (with_ticket-some v.held h (next_ticket_of words) may.holds) ∙ is))
      record { word = record { found_free = w.found_free; found_still = w.found_still; kept = w.kept; bound = w.bound }; found = old.found; loads = old.loads; sized = old.sized; shows = old.shows }) where
        first_word : next_ticket_of (set words 0 (next_ticket_of words + 1)) ≡ next_ticket_of words + 1
        first_word = next_ticket-here words (next_ticket_of words + 1) (first_within o words shaped)

        none : entry_with (next_ticket_of words) views ≡ None
        none = entry_with-none (next_ticket_of words) views (k.none_from (next_ticket_of words) (omega arith))

        keeps : (u : ℕ) → entry_with u (set views i (after_draw v (next_ticket_of words))) ≡ entry_with u views
        keeps u = entry_with-kept u views i v (after_draw v (next_ticket_of words)) at refl

        now_is : (page : ℕ) → page_now o (set words 0 (next_ticket_of words + 1)) (set views i (after_draw v (next_ticket_of words))) page ≡ page_now o words views page
        now_is page =
            let low = k.from_first in let z = first_word in
            let count : next_ticket_of (set words 0 (next_ticket_of words + 1)) - o.first ≡ suc (next_ticket_of words - o.first) = omega arith in
            let last : o.first + (next_ticket_of words - o.first) ≡ next_ticket_of words = omega arith in
            ap (λ m. page_after o (set views i (after_draw v (next_ticket_of words))) page m) count
            ∙ ap (λ m. page_after_entry o.cells page (page_after o (set views i (after_draw v (next_ticket_of words))) page (next_ticket_of words - o.first)) m) (keeps (o.first + (next_ticket_of words - o.first)) ∙ ap (λ u. entry_with u views) last ∙ none)
            ∙ page_after-kept o (set views i (after_draw v (next_ticket_of words))) views page (next_ticket_of words - o.first) (λ j lt. keeps (o.first + j))

  pub pages-mark : (frame : FrameNo) (n : ℕ) → frame.0 < o.frames → Pages o (set words (dirty_index o.pages frame.0) n) (set views i (after_mark v frame))
  pages-mark frame n lt = pages-alike o words views i v s at (dirty_index o.pages frame.0) n (after_mark v frame)
      (λ f. cells_of_frame-before o words (dirty_index o.pages frame.0) n f (omega arith))
      (next_ticket-elsewhere words _ _ (λ e. absurd (omega arith)))
      (λ page l. entry_word-elsewhere words (dirty_index o.pages frame.0) n page (λ e. absurd (omega arith)))
      (alike-mark v frame) (λ h is. s.held i v h at is)
