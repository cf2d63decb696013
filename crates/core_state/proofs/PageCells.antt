-- `Pages` is kept by loads and stores, and so by each step of a call.
use Rattle.std.proofs.Common.{◌≡◌, ℕ, cond, Bool, eq-eqb, ne_eqb, ◌+◌, ◌<◌, ◌≢◌, List, length, get_or, length-set, set, sym, refl, ap, ◌∙◌, subst, ⊎_elim, arith, Option, Some, None}
use Rattle.std.proofs.lemmas.Option.{same_Some}
use Rattle.std.proofs.lemmas.List.{set-get_or}
use mathlib.Core.Logic.{dite}
use native.Mathlib.Decide.{ℕ_discrete}
use Rattle.evac_model.specs.declared.names.FrameNo.{FrameNo}
use Rattle.evac_model.specs.Page.{Page}
use Rattle.evac_words.specs.Word.{mapped_bit, frame_of, pins_of, bound_of}
use Rattle.evac_words.specs.Table.{cell_index, entry_index}
use Rattle.core_state.specs.declared.held.Held.{Held}
use Rattle.core_state.specs.declared.opening.Opening.{Opening}
use Rattle.core_state.specs.declared.view.View.{View}
use Rattle.core_state.specs.Words.{next_ticket_of, entry_word_of, cells_of_frame, released_word}
use Rattle.core_state.specs.Views.{Has, holders, holds_page, maps_to}
use Rattle.core_state.specs.Parts.{Shaped, Turn, Tickets, Bounds}
use Rattle.core_state.specs.Pages.{answer_at, page_now, Flagged, page_cells, patched, Agrees, mapped_as, with_stores, HeldShows, FreeShows, Pages, number_or}
use Rattle.core_state.specs.Frames.{Frames}
use Rattle.core_state.specs.Steps.{MayLoad, MayStore, held_word, note, with_load, with_store, after_load, after_store, MayLetGo, MayEnd, pins_after, held_page, held_ticket, word_after_release, entry_of, after_release, Allowed}
use Rattle.core_state.proofs.Lists.{at_set, sum_by_kept, member_le_sum_by, two_members_le_sum_by}
use Rattle.core_state.proofs.Holding.{for_some, holds_page-same, held_alike-store, some_is, drawing}
use Rattle.core_state.proofs.TurnSteps.{alike-load}
use Rattle.core_state.proofs.Entries.{entry_with-kept, page_after-kept}
use Rattle.core_state.proofs.Pages.{patched-set, patched-unset, cells-held}
use Rattle.core_state.proofs.PageSteps.{pages-alike, page_now-kept, pages-take, pages-draw, pages-mark}
use Rattle.core_state.proofs.Cells.{cells_of_frame-same, cells_of_frame-other, next_ticket-cell, entry_word-cell, cell_read}
use Rattle.core_state.proofs.Frames.{maps_to-one, maps_to-is, owned, owned_in_range}
use Rattle.core_state.specs.declared.keeper.Keeper.{Keeper}
use Rattle.core_state.specs.declared.step.CallDone.{CallDone}
use Rattle.core_state.specs.declared.step.Step.{Step}
use Rattle.core_state.specs.declared.step.Step.TheVariants.{Take, Draw, Load, Store, Mark, Release}
use Rattle.core_state.specs.Stepped.{words_after, views_after}
use Rattle.core_state.proofs.PageReleases.{Ends, pages-let_go, pages-end}

-- ---- load

noted-agrees : (stores loads : List (Option ℕ)) (base : List ℕ) (c x : ℕ) → c < length stores → x ≡ get_or (patched stores base) c 0 → Agrees loads base → Agrees (note (get_or stores c None) loads c x) base
noted-agrees stores loads base c x lt is old = here (get_or stores c None) refl where
  here : (m : Option ℕ) → get_or stores c None ≡ m → Agrees (note m loads c x) base
  here None e = λ d y at. ⊎_elim
      (λ q. ap (λ k. get_or base k 0) q.0 ∙ sym (patched-unset stores base c lt e) ∙ sym is ∙ same_Some _ _ q.1)
      (λ q. old d y q.1)
      (at_set loads c d (Some x) (Some y) at)
  here (Some z) e = old

pub pages-load : (o : Opening) (words : List ℕ) (views : List View) (i : ℕ) (v : View) (c : ℕ) → Pages o words views → Has views i v → MayLoad o v c
    → Pages o (set words (cell_index o.pages o.frames o.cells (frame_of (held_word v.held)) c) (get_or words (cell_index o.pages o.frames o.cells (frame_of (held_word v.held)) c) 0))
    (set views i (after_load v c (get_or words (cell_index o.pages o.frames o.cells (frame_of (held_word v.held)) c) 0)))
pages-load o words views i v c s at may = let p = for_some v.held (λ h. mapped_bit h.word ≡ 1) may.mapped in
    pages-alike o words views i v s at place found (after_load v c found) (λ f. ap (λ (l : List ℕ). cells_of_frame o l f) same) (ap next_ticket_of same)
    (λ page lt. ap (λ (l : List ℕ). entry_word_of l page) same) (alike-load v c found) (mine p.0 p.1 p.2) where
      place : ℕ
      place = cell_index o.pages o.frames o.cells (frame_of (held_word v.held)) c

      found : ℕ
      found = get_or words (cell_index o.pages o.frames o.cells (frame_of (held_word v.held)) c) 0

      same : set words (cell_index o.pages o.frames o.cells (frame_of (held_word v.held)) c) (get_or words (cell_index o.pages o.frames o.cells (frame_of (held_word v.held)) c) 0) ≡ words
      same = set-get_or words (cell_index o.pages o.frames o.cells (frame_of (held_word v.held)) c) 0

      mine : (h : Held) → v.held ≡ Some h → mapped_bit h.word ≡ 1 → (g : Held) → with_load v.held c (get_or words (cell_index o.pages o.frames o.cells (frame_of (held_word v.held)) c) 0) ≡ Some g → HeldShows o words g (page_now o words views g.page.0)
      mine h holds on g is = let old = s.held i v h at holds in let w = old.word in
          let x : ℕ = get_or words (cell_index o.pages o.frames o.cells (frame_of (held_word v.held)) c) 0 in
          let known : get_or words (cell_index o.pages o.frames o.cells (frame_of (held_word v.held)) c) 0 ≡ get_or (patched h.stores (page_cells o.cells (mapped_as o.cells h.change (page_now o words views h.page.0)))) c 0 =
          cell_read o words (frame_of (held_word v.held)) c may.in_range ∙ ap (λ (m : Option Held). get_or (cells_of_frame o words (frame_of (held_word m))) c 0) holds
          ∙ ap (λ (l : List ℕ). get_or l c 0) (cells-held o words h (page_now o words views h.page.0) old on) in
          let size = old.sized in let low = may.in_range in
          subst (λ (y : Held). HeldShows o words y (page_now o words views y.page.0)) (same_Some _ _ (sym (ap (λ m. with_load m c (get_or words (cell_index o.pages o.frames o.cells (frame_of (held_word v.held)) c) 0)) holds) ∙ is))
          record {
            word = record { found_free = w.found_free; found_still = w.found_still; kept = w.kept; bound = w.bound };
            found = old.found;
            loads = noted-agrees h.stores h.loads (page_cells o.cells (mapped_as o.cells h.change (page_now o words views h.page.0))) c _ (omega arith) known old.loads;
            sized = old.sized;
            shows = old.shows;
          }

-- ---- store

flagged-stores : (w : ℕ) (a b : List (Option ℕ)) (m : Page) → Flagged w (with_stores a m) → Flagged w (with_stores b m)
flagged-stores w a b None f = f
flagged-stores w a b (Some m) f = f

cells-stored : (n : ℕ) (stores : List (Option ℕ)) (m : Page) (w c x : ℕ) → c < length stores → Flagged w (with_stores stores m) → mapped_bit w ≡ 1
    → page_cells n (with_stores (set stores c (Some x)) m) ≡ set (page_cells n (with_stores stores m)) c x
cells-stored n stores None w c x lt f on = absurd (omega arith)
cells-stored n stores (Some m) w c x lt f on = patched-set stores m.cells c x lt

-- the held page after a store in its frame, or in another one
store_shows : (o : Opening) (words : List ℕ) (h : Held) (m : Page) (f c x : ℕ) → c < o.cells → HeldShows o words h m → (g : Held) → with_store (Some h) f c x ≡ Some g
    → HeldShows o (set words (cell_index o.pages o.frames o.cells f c) x) g m
store_shows o words h m f c x lt old g is = subst (λ (y : Held). HeldShows o (set words (cell_index o.pages o.frames o.cells f c) x) y m) (same_Some _ _ is)
    (dite (ℕ_discrete (maps_to f h.word) 1)
    (λ e. subst (λ (b : Bool). HeldShows o (set words (cell_index o.pages o.frames o.cells f c) x) (cond b (record h { stores = set h.stores c (Some x) }) h) m) (sym (eq-eqb (maps_to f h.word) 1 e)) (stored e))
    (λ ne. subst (λ (b : Bool). HeldShows o (set words (cell_index o.pages o.frames o.cells f c) x) (cond b (record h { stores = set h.stores c (Some x) }) h) m) (sym (ne_eqb (maps_to f h.word) 1 ne)) (other ne))) where
      stored : maps_to f h.word ≡ 1 → HeldShows o (set words (cell_index o.pages o.frames o.cells f c) x) (record h { stores = set h.stores c (Some x) }) m
      stored e = let w = old.word in let q = maps_to-is f h.word e in let size = old.sized in record {
        word = record { found_free = w.found_free; found_still = w.found_still; kept = w.kept; bound = w.bound };
        found = old.found;
        loads = old.loads;
        sized = length-set h.stores c (Some x) ∙ old.sized;
        shows = record {
          flags = flagged-stores h.word h.stores (set h.stores c (Some x)) (mapped_as o.cells h.change m) old.shows.flags;
          cells = λ on. ap (λ (k : ℕ). cells_of_frame o (set words (cell_index o.pages o.frames o.cells f c) x) k) q.1
              ∙ cells_of_frame-same o words f c x lt
              ∙ ap (λ (l : List ℕ). set l c x) (ap (λ (k : ℕ). cells_of_frame o words k) (sym q.1) ∙ old.shows.cells on)
              ∙ sym (cells-stored o.cells h.stores (mapped_as o.cells h.change m) h.word c x (omega arith) old.shows.flags on);
        };
      }

      other : maps_to f h.word ≢ 1 → HeldShows o (set words (cell_index o.pages o.frames o.cells f c) x) h m
      other ne = record {
        word = old.word;
        found = old.found;
        loads = old.loads;
        sized = old.sized;
        shows = record {
          flags = old.shows.flags;
          cells = λ on. cells_of_frame-other o words f c x lt (frame_of h.word) (λ e. ne (maps_to-one f h.word on e)) ∙ old.shows.cells on;
        };
      }

module _ (o : Opening) (words : List ℕ) (views : List View) (i : ℕ) (v : View) (frame : FrameNo) (c x : ℕ) (s : Shaped o words) (t : Turn o words views) (k : Frames o words views) (g : Pages o words views) (at : Has views i v) (may : MayStore o v frame.0 c x) where
  now : (page : ℕ) → page_now o (set words (cell_index o.pages o.frames o.cells frame.0 c) x) (set views i (after_store v frame c x)) page ≡ page_now o words views page
  now page = page_now-kept o words views i (cell_index o.pages o.frames o.cells frame.0 c) x v (after_store v frame c x) page at refl (next_ticket-cell o words frame.0 c x may.in_range)

  pub pages-store : Pages o (set words (cell_index o.pages o.frames o.cells frame.0 c) x) (set views i (after_store v frame c x))
  pages-store = record {
    replies = λ j e low found. let f = sym (entry_with-kept (o.first + j) views i v (after_store v frame c x) at refl) ∙ found in
        ap (λ m. (answer_at o.cells m e.call e.reply).0) (page_after-kept o (set views i (after_store v frame c x)) views e.page.0 j (λ u l. entry_with-kept (o.first + u) views i v (after_store v frame c x) at refl))
        ∙ g.replies j e (let z = next_ticket-cell o words frame.0 c x may.in_range in omega arith) f;
    sized = λ page l. ap (λ m. length (page_cells o.cells m)) (now page) ∙ g.sized page l;
    free = λ page l none.
        let old : holders page views ≡ 0 = sym (sum_by_kept (λ y. holds_page page y.held) views i v (after_store v frame c x) at ((held_alike-store v.held frame.0 c x).page page)) ∙ none in
        let p = g.free page l old in
        subst (λ (m : Page). FreeShows o (set words (cell_index o.pages o.frames o.cells frame.0 c) x) (entry_word_of (set words (cell_index o.pages o.frames o.cells frame.0 c) x) page) m) (sym (now page))
        (subst (λ (w : ℕ). FreeShows o (set words (cell_index o.pages o.frames o.cells frame.0 c) x) w (page_now o words views page)) (sym (entry_word-cell o words frame.0 c x may.in_range page l))
        record {
          still = p.still;
          shows = record {
            flags = p.shows.flags;
            cells = λ on. cells_of_frame-other o words frame.0 c x may.in_range (frame_of (entry_word_of words page)) (λ e.
                let q = owned o words views s t k i v frame.0 page at may.own l (maps_to-one frame.0 (entry_word_of words page) on e) in
                absurd (let a = member_le_sum_by (λ y. holds_page page y.held) views i v at in let b = holds_page-same page v.held q.0 q.1 q.2 in omega arith)) ∙ p.shows.cells on;
          };
        });
    held = λ j y h has is. subst (λ (m : Page). HeldShows o (set words (cell_index o.pages o.frames o.cells frame.0 c) x) h m) (sym (now h.page.0)) (⊎_elim
        (λ r. own h (subst (λ (z : View). z.held ≡ Some h) (sym r.1) is))
        (λ r. other j y h r.0 r.1 is)
        (at_set views i j (after_store v frame c x) y has));
  } where
    own : (h : Held) → with_store v.held frame.0 c x ≡ Some h → HeldShows o (set words (cell_index o.pages o.frames o.cells frame.0 c) x) h (page_now o words views h.page.0)
    own h is = let q = (held_alike-store v.held frame.0 c x).before h is in
        let r : h.page.0 ≡ (q.0).page.0 = ap (λ (p : Rattle.evac_model.specs.declared.names.PageNo.PageNo). p.0) q.2 in
        subst (λ (p : ℕ). HeldShows o (set words (cell_index o.pages o.frames o.cells frame.0 c) x) h (page_now o words views p)) (sym r)
        (store_shows o words q.0 (page_now o words views (q.0).page.0) frame.0 c x may.in_range (g.held i v q.0 at q.1) h (sym (ap (λ m. with_store m frame.0 c x) q.1) ∙ is))

    other : (j : ℕ) (y : View) (h : Held) → j ≢ i → Has views j y → y.held ≡ Some h → HeldShows o (set words (cell_index o.pages o.frames o.cells frame.0 c) x) h (page_now o words views h.page.0)
    other j y h ne has is = let old = g.held j y h has is in let w = t.held_word j y h has is in record {
      word = old.word;
      found = old.found;
      loads = old.loads;
      sized = old.sized;
      shows = record {
        flags = old.shows.flags;
        cells = λ on. cells_of_frame-other o words frame.0 c x may.in_range (frame_of h.word) (λ e.
            let q = owned o words views s t k i v frame.0 h.page.0 at may.own w.0 (ap (λ m. maps_to frame.0 m) w.1 ∙ maps_to-one frame.0 h.word on e) in
            absurd (let a = two_members_le_sum_by (λ z. holds_page h.page.0 z.held) views j i y v ne has at in let b = holds_page-same h.page.0 y.held h is refl in let d = holds_page-same h.page.0 v.held q.0 q.1 q.2 in
            let f = t.taken_by_one h.page.0 w.0 in omega arith)) ∙ old.shows.cells on;
      };
    }

-- a seat that ends its call
pub ends : (o : Opening) (words : List ℕ) (views : List View) (seat : ℕ) (v : View) (h : Held) (u : ℕ) (d : CallDone) → Shaped o words → Turn o words views → Tickets o words views → Bounds o words views → Has views seat v → v.held ≡ Some h → h.ticket ≡ Some u
    → Ends o words views seat v h u (entry_of v d)
ends o words views seat v h u d s t k b at holds drawn = record {
  shaped = s;
  turn = t;
  tickets = k;
  bounds = b;
  at = at;
  holds = holds;
  drawn = drawn;
  ticket_is = ap (λ m. held_ticket m) holds ∙ ap (λ m. number_or m 0) drawn;
  page_is = ap (λ m. held_page m) holds;
}

module _ (k : Keeper) (o : Opening) (words : List ℕ) (views : List View) (seat : ℕ) (v : View) (g : Pages o words views) (at : Has views seat v) (s : Shaped o words) (t : Turn o words views) (f : Frames o words views) (u : Tickets o words views) (b : Bounds o words views) where
  let_go : (h : Held) → v.held ≡ Some h → MayLetGo o v h → Pages o (set words (entry_index (held_page v.held)) (word_after_release v.held None)) (set views seat (after_release v None))
  let_go h holds may = subst (λ (m : Option Held). Pages o (set words (entry_index (held_page m)) (word_after_release m None)) (set views seat (after_release v None))) (sym holds)
      (pages-let_go o words views seat v h (bound_of h.word) t g s at holds may)

  end : (d : CallDone) (h : Held) → v.held ≡ Some h → MayEnd o d h → Pages o (set words (entry_index (held_page v.held)) (word_after_release v.held (Some d))) (set views seat (after_release v (Some d)))
  end d h holds may = let x = some_is h.ticket may.drawn in
      subst (λ (m : Option Held). Pages o (set words (entry_index (held_page m)) (released_word (held_word m) (pins_after d.call d.reply (pins_of (held_word m))) (held_ticket v.held + 1))) (set views seat (after_release v (Some d)))) (sym holds)
      (pages-end o words views seat v h x.0 (entry_of v d) (ends o words views seat v h x.0 d s t u b at holds x.1) (held_ticket v.held + 1) g may.still may.pins_fit may.answered)

pub steps_keep_pages : (k : Keeper) (o : Opening) (words : List ℕ) (views : List View) (seat : ℕ) (v : View) (step : Step) → Has views seat v → Shaped o words → Turn o words views → Frames o words views → Tickets o words views → Bounds o words views → Pages o words views → Allowed o v step
    → Pages o (words_after o words v step) (views_after k o words views seat v step)
steps_keep_pages k o words views seat v (Take page) at s t f u b g may = pages-take o words views seat v t g at k page may s
steps_keep_pages k o words views seat v Draw at s t f u b g may = let d = drawing v may in pages-draw o words views seat v t g at d.0 u d.1 s
steps_keep_pages k o words views seat v (Load cell) at s t f u b g may = pages-load o words views seat v cell g at may
steps_keep_pages k o words views seat v (Store frame cell value) at s t f u b g may = pages-store o words views seat v frame cell value s t f g at may
steps_keep_pages k o words views seat v (Mark frame) at s t f u b g may = pages-mark o words views seat v t g at frame 1 (owned_in_range o words views s t f seat v frame.0 at may)
steps_keep_pages k o words views seat v (Release None) at s t f u b g may = let p = for_some v.held (MayLetGo o v) may.1 in let_go k o words views seat v g at s t f u b p.0 p.1 p.2
steps_keep_pages k o words views seat v (Release (Some d)) at s t f u b g may = let p = for_some v.held (MayEnd o d) may.1 in end k o words views seat v g at s t f u b d p.0 p.1 p.2
