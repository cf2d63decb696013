-- How a core is opened is an opening, and so it is sound.
use Rattle.std.proofs.Common.{◌≡◌, ◌≢◌, ℕ, Bool, cond, eqb, zero, suc, ◌+◌, ◌-◌, ◌<◌, ◌≤◌, ◌^◌, true, false, nat_eq, ◌⊎◌, List, [], ◌∷◌, ◌++◌, length, map, set, take, replicate, sum, get_or, get_or-set_same, get_or-set_other, Option, None, Some, IsSome, refl, sym, ap, subst, ◌∙◌, inl, inr, ⊎_elim, arith, eq-eqb, ne_eqb}
use Rattle.std.specs.Prelude.{is_some, IfSome}
use Rattle.std.proofs.lemmas.List.{length-replicate, take-replicate, drop-replicate, get_or-replicate, get_or_past, get_or_append_left}
use Rattle.std.proofs.Math.Seq.{get_or-append_right}
use Rattle.std.proofs.lemmas.List.Sums.{sum_by-cons, sum_by-append}
use Rattle.std.proofs.lemmas.Map.Keys.{IsDistinct-head, IsDistinct-tail}
use Rattle.std.proofs.lemmas.Option.{same_Some, none-some}
use Rattle.std.proofs.lemmas.Bool.{eqb-false}
use Rattle.std.proofs.lemmas.Nat.{row_fits}
use Rattle.std.proofs.lemmas.List.Elements.{All-append, All-replicate, All-set}
use Rattle.std.proofs.lemmas.List.Folds.{sum_by-replicate}
use Rattle.std.specs.List.{All, AllByRecursion, IsDistinct, sum_by}
use mathlib.Core.Logic.{dite}
use native.Mathlib.Decide.{ℕ_discrete, dec_le}
use Rattle.evac_model.specs.declared.names.Kind.{Kind}
use Rattle.evac_model.specs.declared.scenario.StartPage.{StartPage}
use Rattle.evac_model.specs.declared.space.SpaceAction.{SpaceAction}
use Rattle.evac_model.specs.Geometry.{Sizes, IsWithinLimits, frame_count}
use Rattle.evac_model.specs.Page.{Page, new_page, zeros, kind_of}
use Rattle.evac_model.specs.StartPages.{IsStartPage, AreStartPages}
use Rattle.evac_words.specs.Word.{taken_bit, moving_bit, mapped_bit, frame_of, bound_of, bit_of}
use Rattle.evac_words.specs.Table.{entry_index, dirty_index, cell_index, table_length}
use Rattle.evac_model.proofs.Lists.{get_or-replicate_same}
use Rattle.core_state.specs.declared.hand.HandFrame.{HandFrame}
use Rattle.core_state.specs.declared.opening.Opening.{Opening}
use Rattle.core_state.specs.declared.scan.Scan.{Scan}
use Rattle.core_state.specs.declared.view.View.{View}
use Rattle.core_state.specs.Words.{next_ticket_of, entry_word_of, dirty_word_of, cells_of_frame, unmovable_for, mapped_word}
use Rattle.core_state.specs.Views.{Has, spent, movers, right_to, times_in_hand, times_in_hands, maps_to, keeps_journal, scans}
use Rattle.core_state.specs.Parts.{Shaped, all_left}
use Rattle.core_state.specs.Pages.{page_cells, Flagged, Shows, FreeShows}
use Rattle.core_state.specs.Frames.{all_entry_words, times_mapped}
use Rattle.core_state.specs.Copies.{nothing_copied}
use Rattle.core_state.specs.Image.{copy_at}
use Rattle.core_state.specs.Opens.{IsNew, Opens}
use Rattle.core_state.specs.CoreOpens.{start_pages, opening_of, opening_words, frames_there, fresh_frame, empty_places, fresh_places, free_hand, unplugged_hand, new_view, driver_view, owner_view, owner_views, new_scan, scanner_view, keeper_view, keeper_views, opening_views, spare_at_start}
use Rattle.core_state.specs.Steps.{nothing_known}
use Rattle.core_state.proofs.Lists.{sum_by_replaced}
use Rattle.core_state.proofs.EntryWords.{Fits, unmovable_for-fits, kind_of-unmovable_for, taken_bit-packed, moving_bit-packed, mapped_bit-packed, unmovable_bit-packed, pins_of-packed, frame_of-packed, bound_of-packed}
use Rattle.core_state.proofs.WordsAt.{next_ticket-entry, cells_of_frame-before, entry_word-here, entry_word-other}
use Rattle.core_state.proofs.Cells.{at_entry, all_entry_words-set}
use Rattle.core_state.proofs.Frames.{maps_to-one}
use Rattle.core_state.proofs.Starts.{length-start_pages, length-opening_words, length-free_hand, length-unplugged_hand, length-spare_at_start, there_within, frame_within}

-- ---- the word of a start page

word_fits : (frame : ℕ) (kind : Kind) → frame < 65536 → Fits 0 0 1 (unmovable_for kind) 0 frame
word_fits frame kind low = record { taken_fits = omega arith; moving_fits = omega arith; mapped_fits = omega arith; unmovable_fits = unmovable_for-fits kind; pins_fits = omega arith; frame_fits = omega arith }

-- what an entry word and a page are at the start: both of no page, or both of a start page
abbrev IsUnmapped : ℕ → Page → Type 0
IsUnmapped w m = (w ≡ 0) × (m ≡ None)

record IsMapped (s : Sizes) (w : ℕ) (m : Page) : Type 0 where
  frame : ℕ
  kind : Kind
  low : frame < frame_count s
  word : w ≡ mapped_word 0 frame kind
  page : m ≡ Some (new_page s.cells kind)

-- ---- a number that isn't among others

abbrev Apart : ℕ → List ℕ → Type 0
Apart x ys = AllByRecursion (λ y. nat_eq x y ≡ false) ys

module _ (s : Sizes) (w : IsWithinLimits s) where
  pages_small : s.pages ≤ 65536
  pages_small = w.pages.1

  frames_small : frame_count s ≤ 65536
  frames_small = w.frames

  -- ---- entry words and pages

  entry_in : (ps : List StartPage) (page : ℕ) → page < s.pages → entry_index page < length (opening_words s ps)
  entry_in ps page lt = let a = length-opening_words s ps in omega arith

  page_in : (ps : List StartPage) (page : ℕ) → page < s.pages → page < length (start_pages s ps)
  page_in ps page lt = let a = length-start_pages s ps in omega arith

  at_start : (ps : List StartPage) (page : ℕ) → AllByRecursion (IsStartPage s) ps → page < s.pages
      → IsUnmapped (entry_word_of (opening_words s ps) page) (get_or (start_pages s ps) page None) ⊎ IsMapped s (entry_word_of (opening_words s ps) page) (get_or (start_pages s ps) page None)
  at_start [] page each lt = inl (get_or-replicate_same (table_length s.pages (frame_count s) s.cells) (entry_index page) 0, get_or-replicate_same s.pages page None)
  at_start (p ∷ ps) page each lt = dite (ℕ_discrete page p.page.0)
      (λ e. inr (record {
        frame = p.frame.0;
        kind = p.kind;
        low = frame_within s p w each.0;
        word = ap (λ (q : ℕ). entry_word_of (opening_words s (p ∷ ps)) q) e ∙ entry_word-here (opening_words s ps) (mapped_word 0 p.frame.0 p.kind) p.page.0 (entry_in ps p.page.0 each.0.page);
        page = ap (λ (q : ℕ). get_or (start_pages s (p ∷ ps)) q None) e ∙ get_or-set_same (start_pages s ps) p.page.0 (Some (new_page s.cells p.kind)) None (page_in ps p.page.0 each.0.page);
      }))
      (λ ne. let a = entry_word-other (opening_words s ps) p.page.0 (mapped_word 0 p.frame.0 p.kind) page ne in
      let b = get_or-set_other (start_pages s ps) p.page.0 page (Some (new_page s.cells p.kind)) None ne in
      ⊎_elim
      (λ q. inl (a ∙ q.0, b ∙ q.1))
      (λ q. inr (record { frame = q.frame; kind = q.kind; low = q.low; word = a ∙ q.word; page = b ∙ q.page }))
      (at_start ps page each.1 lt))

  -- the word of a page that no start page names
  word_unnamed : (ps : List StartPage) (page : ℕ) → Apart page (map (λ p. p.page.0) ps) → entry_word_of (opening_words s ps) page ≡ 0
  word_unnamed [] page apart = get_or-replicate_same (table_length s.pages (frame_count s) s.cells) (entry_index page) 0
  word_unnamed (p ∷ ps) page apart = entry_word-other (opening_words s ps) p.page.0 (mapped_word 0 p.frame.0 p.kind) page (eqb-false page p.page.0 apart.0) ∙ word_unnamed ps page apart.1

  first_zero : (ps : List StartPage) → next_ticket_of (opening_words s ps) ≡ 0
  first_zero [] = get_or-replicate_same (table_length s.pages (frame_count s) s.cells) 0 0
  first_zero (p ∷ ps) = next_ticket-entry (opening_words s ps) p.page.0 (mapped_word 0 p.frame.0 p.kind) ∙ first_zero ps

  -- ---- hands

  abbrev at_hand : ℕ → List (Option HandFrame) → ℕ
  at_hand f hand = bit_of (is_some (get_or hand f None))

  at_hand_none : (f : ℕ) (hand : List (Option HandFrame)) → get_or hand f None ≡ None → at_hand f hand ≡ 0
  at_hand_none f hand e = ap (λ (m : Option HandFrame). bit_of (is_some m)) e

  at_hand_fresh : (f : ℕ) (hand : List (Option HandFrame)) → get_or hand f None ≡ Some (fresh_frame s.cells) → at_hand f hand ≡ 1
  at_hand_fresh f hand e = ap (λ (m : Option HandFrame). bit_of (is_some m)) e

  at_empty : (n f : ℕ) → at_hand f (empty_places n) ≡ 0
  at_empty n f = at_hand_none f (empty_places n) (get_or-replicate_same n f None)

  there_low : (ps : List StartPage) (f : ℕ) → f < frames_there s → Apart f (map (λ p. p.frame.0) ps) → get_or (free_hand s ps) f None ≡ Some (fresh_frame s.cells)
  there_low [] f lt apart =
      let a = length-replicate {A = Option HandFrame} (frames_there s) (Some (fresh_frame s.cells)) in
      get_or_append_left (fresh_places s.cells (frames_there s)) (empty_places (frame_count s - frames_there s)) None f (omega arith)
      ∙ get_or-replicate (frames_there s) f (Some (fresh_frame s.cells)) None lt
  there_low (p ∷ ps) f lt apart = get_or-set_other (free_hand s ps) p.frame.0 f None None (eqb-false f p.frame.0 apart.0) ∙ there_low ps f lt apart.1

  there_high : (ps : List StartPage) (f : ℕ) → frames_there s ≤ f → get_or (free_hand s ps) f None ≡ None
  there_high [] f le =
      let a = length-replicate {A = Option HandFrame} (frames_there s) (Some (fresh_frame s.cells)) in
      get_or-append_right (fresh_places s.cells (frames_there s)) (empty_places (frame_count s - frames_there s)) f None (omega arith)
      ∙ get_or-replicate_same (frame_count s - frames_there s) (f - length (fresh_places s.cells (frames_there s))) None
  there_high (p ∷ ps) f le = hand_cases (free_hand s ps) p.frame.0 f (there_high ps f le) where
    hand_cases : (l : List (Option HandFrame)) (k q : ℕ) → get_or l q None ≡ None → get_or (set l k None) q None ≡ None
    hand_cases [] k q e = refl
    hand_cases (x ∷ xs) zero zero e = refl
    hand_cases (x ∷ xs) zero (suc q) e = e
    hand_cases (x ∷ xs) (suc k) zero e = e
    hand_cases (x ∷ xs) (suc k) (suc q) e = hand_cases xs k q e

  unplugged_low : (f : ℕ) → f < frames_there s → at_hand f (unplugged_hand s) ≡ 0
  unplugged_low f lt = at_hand_none f (unplugged_hand s)
      (let a = length-replicate {A = Option HandFrame} (frames_there s) None in
      get_or_append_left (empty_places (frames_there s)) (fresh_places s.cells (frame_count s - frames_there s)) None f (omega arith)
      ∙ get_or-replicate_same (frames_there s) f None)

  unplugged_mid : (f : ℕ) → frames_there s ≤ f → f < frame_count s → at_hand f (unplugged_hand s) ≡ 1
  unplugged_mid f le lt = at_hand_fresh f (unplugged_hand s)
      (let a = length-replicate {A = Option HandFrame} (frames_there s) None in
      get_or-append_right (empty_places (frames_there s)) (fresh_places s.cells (frame_count s - frames_there s)) f None (omega arith)
      ∙ get_or-replicate (frame_count s - frames_there s) (f - length (empty_places (frames_there s))) (Some (fresh_frame s.cells)) None (omega arith))

  unplugged_past : (f : ℕ) → frame_count s ≤ f → at_hand f (unplugged_hand s) ≡ 0
  unplugged_past f le = at_hand_none f (unplugged_hand s) (get_or_past (unplugged_hand s) f None (let a = length-unplugged_hand s w in omega arith))

  -- ---- frames of pages and frames in the free hand

  module _ (start : List StartPage) (budgets : List ℕ) where
    abbrev o : Opening
    o = opening_of s start budgets

    shaped : (ps : List StartPage) → Shaped (opening_of s start budgets) (opening_words s ps)
    shaped ps = record { long = length-opening_words s ps }

    unmapped_frame : (f : ℕ) → times_mapped (opening_of s start budgets) f (opening_words s []) ≡ 0
    unmapped_frame f =
        ap (λ (l : List ℕ). sum_by (λ x. maps_to f x) (take s.pages l)) (drop-replicate 1 (table_length s.pages (frame_count s) s.cells) 0)
        ∙ ap (λ (l : List ℕ). sum_by (λ x. maps_to f x) l) (take-replicate s.pages (table_length s.pages (frame_count s) s.cells - 1) 0 (omega arith))
        ∙ sum_by-replicate (λ x. maps_to f x) s.pages 0 ∙ omega arith

    maps_to_here : (frame : ℕ) (kind : Kind) → frame < frame_count s → maps_to frame (mapped_word 0 frame kind) ≡ 1
    maps_to_here frame kind low = let r = word_fits frame kind (let a = frames_small in omega arith) in
        maps_to-one frame (mapped_word 0 frame kind) (mapped_bit-packed 0 0 1 (unmovable_for kind) 0 frame 0 r) (frame_of-packed 0 0 1 (unmovable_for kind) 0 frame 0 r)

    maps_to_other : (f frame : ℕ) (kind : Kind) → frame < frame_count s → f ≢ frame → maps_to f (mapped_word 0 frame kind) ≡ 0
    maps_to_other f frame kind low ne = let r = word_fits frame kind (let a = frames_small in omega arith) in
        ap (λ (b : Bool). cond b (cond (eqb (frame_of (mapped_word 0 frame kind)) f) 1 0) 0) (eq-eqb (mapped_bit (mapped_word 0 frame kind)) 1 (mapped_bit-packed 0 0 1 (unmovable_for kind) 0 frame 0 r))
        ∙ ap (λ (b : Bool). cond b 1 0) (ne_eqb (frame_of (mapped_word 0 frame kind)) f (λ e. ne (sym e ∙ frame_of-packed 0 0 1 (unmovable_for kind) 0 frame 0 r)))

    -- one more start page takes its frame out of the free hand, and no other
    free_total : (ps : List StartPage) (f : ℕ) → AllByRecursion (IsStartPage s) ps → IsDistinct nat_eq (map (λ p. p.page.0) ps) → IsDistinct nat_eq (map (λ p. p.frame.0) ps)
        → times_mapped (opening_of s start budgets) f (opening_words s ps) + at_hand f (free_hand s ps) ≡ at_hand f (free_hand s [])
    free_total [] f each pages frames = let a = unmapped_frame f in omega arith
    free_total (p ∷ ps) f each pages frames =
        let low = frame_within s p w each.0 in
        let rest = free_total ps f each.1 (IsDistinct-tail nat_eq p.page.0 (map (λ q. q.page.0) ps) pages) (IsDistinct-tail nat_eq p.frame.0 (map (λ q. q.frame.0) ps) frames) in
        let gap = word_unnamed ps p.page.0 (IsDistinct-head nat_eq p.page.0 (map (λ q. q.page.0) ps) pages) in
        let more : times_mapped (opening_of s start budgets) f (opening_words s (p ∷ ps)) ≡ times_mapped (opening_of s start budgets) f (opening_words s ps) + maps_to f (mapped_word 0 p.frame.0 p.kind) =
        let a = sum_by_replaced (λ x. maps_to f x) (all_entry_words (opening_of s start budgets) (opening_words s ps)) p.page.0 (entry_word_of (opening_words s ps) p.page.0) (mapped_word 0 p.frame.0 p.kind) (at_entry (opening_of s start budgets) (opening_words s ps) p.page.0 (shaped ps) each.0.page) in
        let b = ap (λ (l : List ℕ). sum_by (λ x. maps_to f x) l) (all_entry_words-set (opening_of s start budgets) (opening_words s ps) p.page.0 (mapped_word 0 p.frame.0 p.kind) each.0.page) in
        let c : maps_to f (entry_word_of (opening_words s ps) p.page.0) ≡ 0 = ap (λ x. maps_to f x) gap in
        omega arith in
        dite (ℕ_discrete f p.frame.0)
        (λ e. let one : maps_to f (mapped_word 0 p.frame.0 p.kind) ≡ 1 = ap (λ g. maps_to g (mapped_word 0 p.frame.0 p.kind)) e ∙ maps_to_here p.frame.0 p.kind low in
        let was : at_hand f (free_hand s ps) ≡ 1 = at_hand_fresh f (free_hand s ps) (ap (λ g. get_or (free_hand s ps) g None) e ∙ there_low ps p.frame.0 each.0.frame (IsDistinct-head nat_eq p.frame.0 (map (λ q. q.frame.0) ps) frames)) in
        let is : at_hand f (free_hand s (p ∷ ps)) ≡ 0 = at_hand_none f (free_hand s (p ∷ ps)) (ap (λ g. get_or (free_hand s (p ∷ ps)) g None) e ∙ get_or-set_same (free_hand s ps) p.frame.0 None None (let a = length-free_hand s ps w in omega arith)) in
        omega arith)
        (λ ne. let no = maps_to_other f p.frame.0 p.kind low ne in
        let same : at_hand f (free_hand s (p ∷ ps)) ≡ at_hand f (free_hand s ps) = ap (λ (m : Option HandFrame). bit_of (is_some m)) (get_or-set_other (free_hand s ps) p.frame.0 f None None ne) in
        omega arith)

    -- ---- sums over the views

    -- what owners have none of at the start
    owners_none : (g : View → ℕ) → ((k n : ℕ) → g (owner_view s k n) ≡ 0) → (k : ℕ) (ns : List ℕ) → sum_by g (owner_views s k ns) ≡ 0
    owners_none g none k [] = refl
    owners_none g none k (n ∷ ns) = let a = sum_by-cons g (owner_view s k n) (owner_views s (k + 1) ns) in let b = none k n in let c = owners_none g none (k + 1) ns in omega arith

    -- a sum over all views
    sum_views : (g : View → ℕ) → sum_by g (opening_views s start budgets) ≡ g (driver_view s) + (sum_by g (owner_views s 1 budgets) + (g (scanner_view s) + (g (keeper_view s (Some []) (free_hand s start)) + g (keeper_view s None (unplugged_hand s)))))
    sum_views g =
        let a = sum_by-cons g (driver_view s) (owner_views s 1 budgets ++ scanner_view s ∷ keeper_views s start) in
        let b = sum_by-append g (owner_views s 1 budgets) (scanner_view s ∷ keeper_views s start) in
        let c = sum_by-cons g (scanner_view s) (keeper_views s start) in
        let d = sum_by-cons g (keeper_view s (Some []) (free_hand s start)) (keeper_view s None (unplugged_hand s) ∷ []) in
        let e = sum_by-cons g (keeper_view s None (unplugged_hand s)) [] in
        omega arith

    in_hands : (f : ℕ) → times_in_hands f (opening_views s start budgets) ≡ at_hand f (free_hand s start) + at_hand f (unplugged_hand s)
    in_hands f = let a = sum_views (λ v. times_in_hand f v) in let b = owners_none (λ v. times_in_hand f v) (λ k n. at_empty (frame_count s) f) 1 budgets in let c = at_empty (frame_count s) f in omega arith

    -- a start page's frame has places for its cells
    spare_low : (ps : List StartPage) (f : ℕ) → AllByRecursion (IsStartPage s) ps → f < frames_there s → at_hand f (free_hand s ps) ≡ 0 → get_or (spare_at_start s ps) f None ≡ Some (nothing_known s.cells)
    spare_low [] f each lt none = absurd (let a = at_hand_fresh f (free_hand s []) (there_low [] f lt tt) in omega arith)
    spare_low (p ∷ ps) f each lt none = dite (ℕ_discrete f p.frame.0)
        (λ e. ap (λ g. get_or (spare_at_start s (p ∷ ps)) g None) e
        ∙ get_or-set_same (spare_at_start s ps) p.frame.0 (Some (nothing_known s.cells)) None (let a = length-spare_at_start s ps in let b = frame_within s p w each.0 in omega arith))
        (λ ne. get_or-set_other (spare_at_start s ps) p.frame.0 f (Some (nothing_known s.cells)) None ne
        ∙ spare_low ps f each.1 lt (sym (ap (λ (m : Option HandFrame). bit_of (is_some m)) (get_or-set_other (free_hand s ps) p.frame.0 f None None ne)) ∙ none))

    -- and so has a frame that is in no hand
    pub spare_where_free : AreStartPages s start → (f : ℕ) → f < frame_count s → times_in_hands f (opening_views s start budgets) ≡ 0 → get_or (spare_at_start s start) f None ≡ Some (nothing_known s.cells)
    spare_where_free are f lt none = let a = in_hands f in dite (dec_le (frames_there s) f)
        (λ le. absurd (let b = unplugged_mid f le lt in omega arith))
        (λ low. spare_low start f are.each (omega arith) (omega arith))

    owners_left : (k : ℕ) (ns : List ℕ) → sum_by (λ v. v.left) (owner_views s k ns) ≡ sum ns
    owners_left k [] = refl
    owners_left k (n ∷ ns) = let a = sum_by-cons (λ (v : View). v.left) (owner_view s k n) (owner_views s (k + 1) ns) in let b = sum_by-cons (λ (x : ℕ). x) n ns in let c = owners_left (k + 1) ns in omega arith

    pub budget : all_left (opening_views s start budgets) ≡ sum budgets
    budget = let a = sum_views (λ v. v.left) in let b = owners_left 1 budgets in omega arith

    bit_small : (b : Bool) → bit_of b ≤ 1
    bit_small true = omega arith
    bit_small false = omega arith

    one_mover : (page : ℕ) → movers page (opening_views s start budgets) ≤ 1
    one_mover page = let a = sum_views (λ v. right_to page v) in let b = owners_none (λ v. right_to page v) (λ k n. refl) 1 budgets in let c = bit_small (get_or (replicate s.pages true) page false) in omega arith

    one_scanner : sum_by scans (opening_views s start budgets) ≤ 1
    one_scanner = let a = sum_views scans in let b = owners_none scans (λ k n. refl) 1 budgets in omega arith

    one_journal : sum_by keeps_journal (opening_views s start budgets) ≤ 1
    one_journal = let a = sum_views keeps_journal in let b = owners_none keeps_journal (λ k n. refl) 1 budgets in omega arith

    -- ---- each seat is new

    -- the image of a seat that is the scanner's, or of one that isn't
    record IsNewScan (scan : Option Scan) : Type 0 where
      image : IfSome scan (λ z. length z.image ≡ frame_count s)
      copies : (z : Scan) (f : ℕ) → scan ≡ Some z → f < frame_count s → copy_at z f ≡ nothing_copied s.cells
      swept : (z : Scan) → scan ≡ Some z → z.swept ≡ []

    no_scan : IsNewScan None
    no_scan = record { image = tt; copies = λ z f e lt. absurd (none-some z e); swept = λ z e. absurd (none-some z e) }

    new_scan_is : IsNewScan (Some (new_scan s))
    new_scan_is = record {
      image = length-replicate (frame_count s) (nothing_copied s.cells);
      copies = λ z f e lt. ap (λ (y : Scan). copy_at y f) (sym (same_Some (new_scan s) z e)) ∙ get_or-replicate (frame_count s) f (nothing_copied s.cells) (nothing_copied 0) lt;
      swept = λ z e. ap (λ (y : Scan). y.swept) (sym (same_Some (new_scan s) z e));
    }

    -- nothing was stored in a frame that is there
    abbrev IsFresh : Option HandFrame → Type 0
    IsFresh m = (x : HandFrame) → m ≡ Some x → x.stores ≡ replicate s.cells None

    new_is_new : (caller : Option ℕ) (left : ℕ) (mover : List Bool) (hand : List (Option HandFrame)) (scan : Option Scan) (journal : Option (List SpaceAction)) → (0 < left → IsSome caller)
        → length hand ≡ frame_count s
        → All IsFresh hand
        → IsNewScan scan
        → IsNew (opening_of s start budgets) (record (new_view s caller left mover hand scan) { actions = record spent.actions { journal = journal } })
    new_is_new caller left mover hand scan journal called long fresh new = record {
      seated = record { cells = refl; hand = long; image = new.image };
      held = refl;
      entries = refl;
      by_right = refl;
      last = refl;
      unmarked = refl;
      seen = refl;
      caller = called;
      hand = λ f x is. dite (dec_le (length hand) f) (λ past. absurd (none-some x (sym (get_or_past hand f None past) ∙ is))) (λ no. fresh f None (omega arith) x is);
      copies = new.copies;
      swept = new.swept;
    }

    nothing_fresh : (n : ℕ) → All IsFresh (empty_places n)
    nothing_fresh n = All-replicate IsFresh n None (λ x e. absurd (none-some x e))

    all_fresh : (n : ℕ) → All IsFresh (fresh_places s.cells n)
    all_fresh n = All-replicate IsFresh n (Some (fresh_frame s.cells)) (λ x e. ap (λ (y : HandFrame). y.stores) (sym (same_Some (fresh_frame s.cells) x e)))

    free_fresh : (ps : List StartPage) → All IsFresh (free_hand s ps)
    free_fresh [] = All-append IsFresh (fresh_places s.cells (frames_there s)) (empty_places (frame_count s - frames_there s)) (all_fresh (frames_there s)) (nothing_fresh (frame_count s - frames_there s))
    free_fresh (p ∷ ps) = All-set IsFresh (free_hand s ps) p.frame.0 None (λ x e. absurd (none-some x e)) (free_fresh ps)

    all_empty : length (empty_places (frame_count s)) ≡ frame_count s
    all_empty = length-replicate {A = Option HandFrame} (frame_count s) None

    no_left : (caller : Option ℕ) → 0 < 0 → IsSome caller
    no_left caller h = absurd (omega arith)

    new_last : (i : ℕ) (v : View) → Has (scanner_view s ∷ keeper_views s start) i v → IsNew (opening_of s start budgets) v
    new_last zero v has = subst (λ (x : View). IsNew (opening_of s start budgets) x) (same_Some (scanner_view s) v has)
        (new_is_new None 0 [] (empty_places (frame_count s)) (Some (new_scan s)) None (no_left None) all_empty (nothing_fresh (frame_count s)) new_scan_is)
    new_last (suc zero) v has = subst (λ (x : View). IsNew (opening_of s start budgets) x) (same_Some (keeper_view s (Some []) (free_hand s start)) v has)
        (new_is_new None 0 [] (free_hand s start) None (Some []) (no_left None) (length-free_hand s start w) (free_fresh start) no_scan)
    new_last (suc (suc zero)) v has = subst (λ (x : View). IsNew (opening_of s start budgets) x) (same_Some (keeper_view s None (unplugged_hand s)) v has)
        (new_is_new None 0 [] (unplugged_hand s) None None (no_left None) (length-unplugged_hand s w)
        (All-append IsFresh (empty_places (frames_there s)) (fresh_places s.cells (frame_count s - frames_there s)) (nothing_fresh (frames_there s)) (all_fresh (frame_count s - frames_there s))) no_scan)
    new_last (suc (suc (suc i))) v has = absurd (none-some v has)

    new_owners : (k : ℕ) (ns : List ℕ) (i : ℕ) (v : View) → Has (owner_views s k ns ++ scanner_view s ∷ keeper_views s start) i v → IsNew (opening_of s start budgets) v
    new_owners k [] i v has = new_last i v has
    new_owners k (n ∷ ns) zero v has = subst (λ (x : View). IsNew (opening_of s start budgets) x) (same_Some (owner_view s k n) v has)
        (new_is_new (Some k) n [] (empty_places (frame_count s)) None None (λ h. refl) all_empty (nothing_fresh (frame_count s)) no_scan)
    new_owners k (n ∷ ns) (suc i) v has = new_owners (k + 1) ns i v has

    new_views : (i : ℕ) (v : View) → Has (opening_views s start budgets) i v → IsNew (opening_of s start budgets) v
    new_views zero v has = subst (λ (x : View). IsNew (opening_of s start budgets) x) (same_Some (driver_view s) v has)
        (new_is_new (Some 0) 0 (replicate s.pages true) (empty_places (frame_count s)) None None (no_left (Some 0)) all_empty (nothing_fresh (frame_count s)) no_scan)
    new_views (suc i) v has = new_owners 1 budgets i v has

    -- ---- cells and marks

    cells_zero : (ps : List StartPage) (frame : ℕ) → AllByRecursion (IsStartPage s) ps → frame < frame_count s → cells_of_frame (opening_of s start budgets) (opening_words s ps) frame ≡ zeros s.cells
    cells_zero [] frame each low =
        ap (λ (l : List ℕ). take s.cells l) (drop-replicate (cell_index s.pages (frame_count s) s.cells frame 0) (table_length s.pages (frame_count s) s.cells) 0)
        ∙ take-replicate s.cells (table_length s.pages (frame_count s) s.cells - cell_index s.pages (frame_count s) s.cells frame 0) 0
        (let a = row_fits frame s.cells (frame_count s) s.cells low (omega arith) in omega arith)
    cells_zero (p ∷ ps) frame each low =
        cells_of_frame-before (opening_of s start budgets) (opening_words s ps) (entry_index p.page.0) (mapped_word 0 p.frame.0 p.kind) frame (let a = each.0.page in omega arith)
        ∙ cells_zero ps frame each.1 low

    clean : (ps : List StartPage) (frame : ℕ) → AllByRecursion (IsStartPage s) ps → frame < frame_count s → dirty_word_of (opening_of s start budgets) (opening_words s ps) frame ≡ 0
    clean [] frame each low = get_or-replicate_same (table_length s.pages (frame_count s) s.cells) (dirty_index s.pages frame) 0
    clean (p ∷ ps) frame each low =
        get_or-set_other (opening_words s ps) (entry_index p.page.0) (dirty_index s.pages frame) (mapped_word 0 p.frame.0 p.kind) 0 (λ e. absurd (let a = each.0.page in omega arith))
        ∙ clean ps frame each.1 low

    -- ---- each page

    module _ (are : AreStartPages s start) (page : ℕ) (lt : page < s.pages) where
      here : IsUnmapped (entry_word_of (opening_words s start) page) (get_or (start_pages s start) page None) ⊎ IsMapped s (entry_word_of (opening_words s start) page) (get_or (start_pages s start) page None)
      here = at_start start page are.each lt

      fits : (frame : ℕ) (kind : Kind) → frame < frame_count s → Fits 0 0 1 (unmovable_for kind) 0 frame
      fits frame kind low = word_fits frame kind (let a = frames_small in omega arith)

      free_word : taken_bit (entry_word_of (opening_words s start) page) ≡ 0
      free_word = ⊎_elim (λ q. ap (λ x. taken_bit x) q.0) (λ q. ap (λ x. taken_bit x) q.word ∙ taken_bit-packed 0 0 1 (unmovable_for q.kind) 0 q.frame 0 (fits q.frame q.kind q.low)) here

      no_bound : bound_of (entry_word_of (opening_words s start) page) ≡ 0
      no_bound = ⊎_elim (λ q. ap (λ x. bound_of x) q.0) (λ q. ap (λ x. bound_of x) q.word ∙ bound_of-packed 0 0 1 (unmovable_for q.kind) 0 q.frame 0 (fits q.frame q.kind q.low)) here

      still_word : moving_bit (entry_word_of (opening_words s start) page) ≡ 0
      still_word = ⊎_elim (λ q. ap (λ x. moving_bit x) q.0) (λ q. ap (λ x. moving_bit x) q.word ∙ moving_bit-packed 0 0 1 (unmovable_for q.kind) 0 q.frame 0 (fits q.frame q.kind q.low)) here

      shows_none : (x : ℕ) (m : Page) → x ≡ 0 → m ≡ None → Shows (opening_of s start budgets) (opening_words s start) x m
      shows_none x m e n = record {
        flags = subst (λ (y : Page). Flagged x y) (sym n) (omega arith);
        cells = λ one. absurd (omega arith);
      }

      shows_some : (x : ℕ) (m : Page) (frame : ℕ) (kind : Kind) → frame < frame_count s → x ≡ mapped_word 0 frame kind → m ≡ Some (new_page s.cells kind) → Shows (opening_of s start budgets) (opening_words s start) x m
      shows_some x m frame kind low e n = let r = fits frame kind low in
          subst (λ (y : Page). Shows (opening_of s start budgets) (opening_words s start) x y) (sym n)
          (subst (λ (z : ℕ). Shows (opening_of s start budgets) (opening_words s start) z (Some (new_page s.cells kind))) (sym e)
          (record {
            flags = (
              mapped_bit-packed 0 0 1 (unmovable_for kind) 0 frame 0 r,
              ap (λ (b : ℕ). kind_of (eqb b 0)) (unmovable_bit-packed 0 0 1 (unmovable_for kind) 0 frame 0 r) ∙ kind_of-unmovable_for kind,
              pins_of-packed 0 0 1 (unmovable_for kind) 0 frame 0 r,
            );
            cells = λ one. ap (λ (f : ℕ). cells_of_frame (opening_of s start budgets) (opening_words s start) f) (frame_of-packed 0 0 1 (unmovable_for kind) 0 frame 0 r) ∙ cells_zero start frame are.each low;
          }))

      shows : FreeShows (opening_of s start budgets) (opening_words s start) (entry_word_of (opening_words s start) page) (get_or (start_pages s start) page None)
      shows = record {
        still = still_word;
        shows = ⊎_elim (λ q. shows_none _ _ q.0 q.1) (λ q. shows_some _ _ q.frame q.kind q.low q.word q.page) here;
      }

      sized : length (page_cells s.cells (get_or (start_pages s start) page None)) ≡ s.cells
      sized = ⊎_elim
          (λ q. ap (λ (m : Page). length (page_cells s.cells m)) q.1 ∙ length-replicate s.cells 0)
          (λ q. ap (λ (m : Page). length (page_cells s.cells m)) q.page ∙ length-replicate s.cells 0)
          here

    -- ---- the opening

    pub core_opens : AreStartPages s start → sum budgets < 2 ^ 33 → Opens (opening_of s start budgets) (opening_words s start) (opening_views s start budgets)
    core_opens are small = record {
      shaped = shaped start;
      first_is = first_zero start;
      budget_is = budget;
      budget_small = omega arith;
      free = λ page lt. free_word are page lt;
      bound_is = λ page lt. no_bound are page lt ∙ sym (get_or-replicate_same s.pages page 0);
      bound_low = λ page lt. let a : get_or (replicate s.pages 0) page 0 ≡ 0 = get_or-replicate_same s.pages page 0 in subst (λ n. n ≤ 0) (sym a) (omega arith);
      shows = λ page lt. shows are page lt;
      sized = λ page lt. sized are page lt;
      clean = λ frame low. clean start frame are.each low;
      each_once = λ frame low. let a = in_hands frame in let b = free_total start frame are.each are.pages are.frames in
          dite (dec_le (frames_there s) frame)
          (λ le. let c = at_hand_none frame (free_hand s []) (there_high [] frame le) in let d = unplugged_mid frame le low in omega arith)
          (λ lt. let c = at_hand_fresh frame (free_hand s []) (there_low [] frame (omega arith) tt) in let d = unplugged_low frame (omega arith) in omega arith);
      no_other = λ frame high. let a = in_hands frame in let b = free_total start frame are.each are.pages are.frames in
          let e = there_within s w in
          let c = at_hand_none frame (free_hand s []) (there_high [] frame (omega arith)) in let d = unplugged_past frame high in omega arith;
      one_mover = one_mover;
      one_scanner = one_scanner;
      one_journal = one_journal;
      new = new_views;
    }
