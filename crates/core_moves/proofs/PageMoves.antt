-- `Pages` is kept by each step on a mapping.
use Rattle.std.proofs.Common.{◌≡◌, ℕ, eqb, ◌<◌, List, length, get_or, set, replicate, sym, refl, ap, ◌∙◌, subst, arith, Option, Some, None}
use Rattle.std.proofs.lemmas.Option.{same_Some}
use Rattle.std.proofs.lemmas.List.{ext_get_or, get_or-replicate, length-replicate}
use Rattle.std.proofs.lemmas.Grind.{common_steps}
use mathlib.Core.Logic.{dite}
use native.Mathlib.Decide.{ℕ_discrete}
use Rattle.evac_model.specs.declared.names.Kind.{Kind}
use Rattle.evac_model.specs.Page.{Page, kind_of, zeros, new_page}
use Rattle.evac_words.specs.Word.{mapped_bit, unmovable_bit, pins_of, frame_of}
use Rattle.evac_words.specs.Table.{entry_index}
use Rattle.core_state.specs.declared.hand.HandFrame.{HandFrame}
use Rattle.core_state.specs.declared.held.Change.{Change}
use Rattle.core_state.specs.declared.held.Change.TheVariants.{Kept}
use Rattle.core_state.specs.declared.held.Held.{Held}
use Rattle.core_state.specs.declared.keeper.Keeper.{Keeper}
use Rattle.core_state.specs.declared.opening.Opening.{Opening}
use Rattle.core_state.specs.declared.step.MoveStep.{MoveStep}
use Rattle.core_state.specs.declared.step.MoveStep.TheVariants.{Moving, Remap, Map, Unmap}
use Rattle.core_state.specs.declared.view.View.{View}
use Rattle.core_state.specs.Words.{cells_of_frame, moving_word, remapped_word, mapped_word}
use Rattle.core_state.specs.Views.{IsSeated, Has, holds_page, hand_frame}
use Rattle.core_state.specs.Parts.{Shaped, Turn, Tickets, Bounds}
use Rattle.core_state.specs.Pages.{page_now, Flagged, page_cells, Shows, patched, Agrees, mapped_as, with_stores, left_as, HeldShows, FreeShows, Pages}
use Rattle.core_state.specs.Frames.{Frames}
use Rattle.core_state.specs.MoveSteps.{or_known, IsCopied, moved, MayBegin, MayRemap, MayMap, MayUnmap, InHand, AllowedMove}
use Rattle.core_state.specs.Stepped.{words_after_move}
use Rattle.core_state.proofs.Lists.{sum_by_kept, sum_by_replaced, member_le_sum_by}
use Rattle.core_state.proofs.WordsAt.{entry_word-other}
use Rattle.core_state.proofs.Holding.{for_some, holds_page-same, holds_page-other}
use Rattle.core_state.proofs.FrameSteps.{length-cells_of_frame}
use Rattle.core_state.proofs.Pages.{agrees-nothing, with_stores-nothing, length-page_cells-mapped, length-patched, cells-held}
use Rattle.core_state.proofs.MovePlaces.{moving_is_mapped}
use Rattle.core_state.proofs.PageSteps.{pages-at_entry}
use Rattle.core_state.proofs.AllowedCells.{get_or-patched, known_at}
use Rattle.core_state.proofs.RoomMoves.{for_some_in}
use Rattle.core_moves.specs.Moved.{FramesFit, views_after_move}
use Rattle.core_moves.proofs.MoveWords.{moving_bit-moving, mapped_bit-moving, unmovable_bit-moving, pins_of-moving, frame_of-moving, bound_of-moving, moving_word-is, mapped_bit-remapped, unmovable_bit-remapped, pins_of-remapped, frame_of-remapped, bound_of-remapped, mapped_bit-mapped, kind_in-mapped, pins_of-mapped, frame_of-mapped, bound_of-mapped, flags-unmapped, mapped_bit-unmapped, bound_of-unmapped}
use Rattle.core_moves.proofs.Moves.{begun, remapped, mapped, unmapped, after_begin, after_remap, after_map, after_unmap, fits, in_range}

-- ---- the held page after a step

-- the flags of a mapped page
flagged-mapped : (w x : ℕ) (m : Page) → mapped_bit x ≡ 1 → mapped_bit w ≡ mapped_bit x → unmovable_bit w ≡ unmovable_bit x → pins_of w ≡ pins_of x → Flagged x m → Flagged w m
flagged-mapped w x None on a b c f = absurd (omega arith)
flagged-mapped w x (Some m) on a b c f = (a ∙ f.0, ap (λ (u : ℕ). kind_of (eqb u 0)) b ∙ f.1, c ∙ f.2)

begin_shows : (o : Opening) (words : List ℕ) (v : View) (h : Held) (m : Page) → mapped_bit h.word ≡ 1 → HeldShows o words h m → HeldShows o words (begun v h) m
begin_shows o words v h m on old = let w = old.word in record {
  word = record {
    found_free = w.found_free;
    found_still = w.found_still;
    kept = λ e. let a = w.kept e in let b = moving_word-is h.word in let c = moving_bit-moving h.word in omega arith;
    bound = bound_of-moving h.word ∙ w.bound;
  };
  found = old.found;
  loads = agrees-nothing v.cells (page_cells o.cells (mapped_as o.cells h.change m));
  sized = old.sized;
  shows = record {
    flags = flagged-mapped (moving_word h.word) h.word (left_as o.cells h m) on (mapped_bit-moving h.word) (unmovable_bit-moving h.word) (pins_of-moving h.word) old.shows.flags;
    cells = λ _. ap (λ (f : ℕ). cells_of_frame o words f) (frame_of-moving h.word) ∙ old.shows.cells on;
  };
}

unmap_shows : (o : Opening) (words : List ℕ) (v : View) (h : Held) (m : Page) → v.cells ≡ o.cells → HeldShows o words h m → HeldShows o words (unmapped v h) m
unmap_shows o words v h m sized old = let w = old.word in record {
  word = record {
    found_free = w.found_free;
    found_still = w.found_still;
    kept = λ e. absurd (cc);
    bound = bound_of-unmapped h.word ∙ w.bound;
  };
  found = old.found;
  loads = agrees-nothing v.cells (zeros o.cells);
  sized = length-replicate v.cells None ∙ sized;
  shows = record {
    flags = flags-unmapped h.word;
    cells = λ on. absurd (let a = mapped_bit-unmapped h.word in omega arith);
  };
}

-- cells that agree with zeros are zeros
all_zeros : (n : ℕ) (cells : List ℕ) → length cells ≡ n → Agrees (replicate n (Some 0)) cells → cells ≡ zeros n
all_zeros n cells long agrees = ext_get_or 0 cells (zeros n) (long ∙ sym (length-replicate n 0)) (λ c lt.
    let low : c < n = omega arith in agrees c 0 (known_at (replicate n (Some 0)) c 0 (get_or-replicate n c (Some 0) None low)) ∙ sym (get_or-replicate n c 0 0 low))

map_shows : (o : Opening) (words : List ℕ) (v : View) (h : Held) (m : Page) (frame : ℕ) (kind : Kind) → v.cells ≡ o.cells → frame < 1048576 → cells_of_frame o words frame ≡ zeros o.cells → HeldShows o words h m → HeldShows o words (mapped v h frame kind) m
map_shows o words v h m frame kind sized low clear old = let w = old.word in record {
  word = record {
    found_free = w.found_free;
    found_still = w.found_still;
    kept = λ e. absurd (cc);
    bound = bound_of-mapped h.word frame kind low ∙ w.bound;
  };
  found = old.found;
  loads = agrees-nothing v.cells (zeros o.cells);
  sized = length-replicate v.cells None ∙ sized;
  shows = subst (λ (p : Page). Shows o words (mapped_word h.word frame kind) p) (sym (with_stores-nothing v.cells (Some (new_page o.cells kind)))) record {
    flags = (mapped_bit-mapped h.word frame kind low, kind_in-mapped h.word frame kind low, pins_of-mapped h.word frame kind low);
    cells = λ _. ap (λ (f : ℕ). cells_of_frame o words f) (frame_of-mapped h.word frame kind low) ∙ clear;
  };
}

-- ---- remap

moved-changes : (c : Change) → moved c ≡ Kept → ⊥
moved-changes c e = grind (arith, common_steps)

mapped_as-moved : (n : ℕ) (c : Change) (m : Page) → mapped_as n (moved c) m ≡ mapped_as n c m
mapped_as-moved n c m = grind (arith, common_steps)

-- a cell has what the holder knows of it
known_is : (stores loads : List (Option ℕ)) (base : List ℕ) (c x : ℕ) → c < length base → Agrees loads base → or_known (get_or stores c None) (get_or loads c None) ≡ Some x → get_or (patched stores base) c 0 ≡ x
known_is stores loads base c x lt agrees e = grind (arith, common_steps, get_or-patched stores base c lt, known_at loads c x, agrees c x)

-- the cells of the frame that has each value of the held page
copied_cells : (o : Opening) (words : List ℕ) (h : Held) (x : HandFrame) (frame : ℕ) (m : Page) → mapped_bit h.word ≡ 1 → length (page_cells o.cells m) ≡ o.cells → length (cells_of_frame o words frame) ≡ o.cells → IsCopied o h x → Agrees x.stores (cells_of_frame o words frame) → HeldShows o words h m
    → cells_of_frame o words frame ≡ cells_of_frame o words (frame_of h.word)
copied_cells o words h x frame m on sized long copied agrees old =
    let base : List ℕ = page_cells o.cells (mapped_as o.cells h.change m) in
    let base_long : length base ≡ o.cells = length-page_cells-mapped o.cells h.change m sized in
    let same : cells_of_frame o words (frame_of h.word) ≡ patched h.stores base = cells-held o words h m old on in
    let all_long : length (patched h.stores base) ≡ o.cells = length-patched h.stores base ∙ base_long in
    ext_get_or 0 (cells_of_frame o words frame) (patched h.stores base) (long ∙ sym all_long) (λ c lt.
    let low : c < o.cells = omega arith in
    let p = copied c low in
    agrees c p.0 (known_at x.stores c p.0 p.2) ∙ sym (known_is h.stores h.loads base c p.0 (omega arith) old.loads p.1))
    ∙ sym same

remap_shows : (o : Opening) (words : List ℕ) (h : Held) (m : Page) (frame : ℕ) → mapped_bit h.word ≡ 1 → frame < 1048576 → cells_of_frame o words frame ≡ cells_of_frame o words (frame_of h.word) → HeldShows o words h m → HeldShows o words (remapped h frame) m
remap_shows o words h m frame on low same old = let w = old.word in record {
  word = record {
    found_free = w.found_free;
    found_still = w.found_still;
    kept = λ e. absurd (moved-changes h.change e);
    bound = bound_of-remapped h.word frame low ∙ w.bound;
  };
  found = old.found;
  loads = subst (λ (p : Page). Agrees h.loads (page_cells o.cells p)) (sym (mapped_as-moved o.cells h.change m)) old.loads;
  sized = old.sized;
  shows = subst (λ (p : Page). Shows o words (remapped_word h.word frame) (with_stores h.stores p)) (sym (mapped_as-moved o.cells h.change m)) record {
    flags = flagged-mapped (remapped_word h.word frame) h.word (left_as o.cells h m) on (mapped_bit-remapped h.word frame low) (unmovable_bit-remapped h.word frame low) (pins_of-remapped h.word frame low) old.shows.flags;
    cells = λ _. ap (λ (f : ℕ). cells_of_frame o words f) (frame_of-remapped h.word frame low) ∙ same ∙ old.shows.cells on;
  };
}

-- ---- the step

module _ (o : Opening) (words : List ℕ) (views : List View) (i : ℕ) (v : View) (s : Pages o words views) (at : Has views i v) (t : Turn o words views) (h : Held) (holds : v.held ≡ Some h) where
  -- a step on the held page's word by its holder, who goes on holding it
  pages-at_held : (n : ℕ) (w : View) (g : Held) → w.held ≡ Some g → g.page.0 ≡ h.page.0 → w.entries ≡ v.entries → HeldShows o words g (page_now o words views h.page.0)
      → Pages o (set words (entry_index h.page.0) n) (set views i w)
  pages-at_held n w g is same entries shown = pages-at_entry o words views i v s at h.page.0 n w (t.held_word i v h at holds).0 entries
      (λ page lt none. dite (ℕ_discrete page h.page.0)
      (λ e. absurd (let a = sum_by_replaced (λ x. holds_page page x.held) views i v w at in let b = member_le_sum_by (λ x. holds_page page x.held) views i v at in
      let c = holds_page-same page w.held g is (same ∙ sym e) in let d = holds_page-same page v.held h holds (sym e) in omega arith))
      (λ ne. subst (λ (x : ℕ). FreeShows o words x (page_now o words views page)) (sym (entry_word-other words h.page.0 n page ne))
      (s.free page lt (sym (sum_by_kept (λ x. holds_page page x.held) views i v w at
      (holds_page-other page w.held g is (λ q. ne (sym q ∙ same)) ∙ sym (holds_page-other page v.held h holds (λ q. ne (sym q))))) ∙ none))))
      (λ f held. subst (λ (y : Held). HeldShows o words y (page_now o words views y.page.0)) (same_Some _ _ (sym is ∙ held))
      (subst (λ (p : ℕ). HeldShows o words g (page_now o words views p)) (sym same) shown))

module _ (k : Keeper) (o : Opening) (words : List ℕ) (views : List View) (seat : ℕ) (v : View) (at : Has views seat v) (room : FramesFit o) (s : Shaped o words) (t : Turn o words views) (f : Frames o words views) (g : Pages o words views) where
  -- what the step leaves, where the view holds this page
  abbrev after : MoveStep → Option Held → Type 0
  after step m = Pages o (words_after_move words (record v { held = m }) step) (views_after_move k views seat (record v { held = m }) step)

  was : (h : Held) → v.held ≡ Some h → HeldShows o words h (page_now o words views h.page.0)
  was h holds = g.held seat v h at holds

  -- the length of the cells of a frame in hand
  long : (frame : ℕ) (x : HandFrame) → IsSeated o v → hand_frame v frame ≡ Some x → length (cells_of_frame o words frame) ≡ o.cells
  long frame x seated is = length-cells_of_frame o words frame s (in_range o v frame x seated is)

  pages-step : (step : MoveStep) → AllowedMove k o v step → Pages o (words_after_move words v step) (views_after_move k views seat v step)
  pages-step Moving may = let p = for_some v.held (MayBegin v) may.1 in
      subst (after Moving) (sym p.1)
      (pages-at_held o words views seat v g at t p.0 p.1 _ (after_begin v p.0) (begun v p.0) refl refl refl (begin_shows o words v p.0 _ p.2.mapped (was p.0 p.1)))
  pages-step (Remap frame) may =
      let p = for_some v.held (λ h. InHand v frame.0 (MayRemap k o h)) may.1 in
      let x = for_some_in (hand_frame v frame.0) (MayRemap k o p.0) p.2.1 in
      let on = moving_is_mapped (p.0).word _ (was p.0 p.1).shows.flags x.2.moving in
      subst (after (Remap frame)) (sym p.1)
      (pages-at_held o words views seat v g at t p.0 p.1 _ (after_remap k v p.0 frame.0) (remapped p.0 frame.0) refl refl refl
      (remap_shows o words p.0 _ frame.0 on (fits o v frame.0 x.0 room may.0 x.1)
      (copied_cells o words p.0 x.0 frame.0 _ on (g.sized (p.0).page.0 (t.held_word seat v p.0 at p.1).0) (long frame.0 x.0 may.0 x.1) x.2.copied (f.stored seat v frame.0 x.0 at x.1) (was p.0 p.1))
      (was p.0 p.1)))
  pages-step (Map frame kind) may =
      let p = for_some v.held (λ h. InHand v frame.0 (λ x. MayMap k o h x kind)) may.1 in
      let x = for_some_in (hand_frame v frame.0) (λ x. MayMap k o p.0 x kind) p.2.1 in
      subst (after (Map frame kind)) (sym p.1)
      (pages-at_held o words views seat v g at t p.0 p.1 _ (after_map v p.0 frame.0 kind) (mapped v p.0 frame.0 kind) refl refl refl
      (map_shows o words v p.0 _ frame.0 kind may.0.cells (fits o v frame.0 x.0 room may.0 x.1)
      (all_zeros o.cells (cells_of_frame o words frame.0) (long frame.0 x.0 may.0 x.1) (subst (λ (l : List (Option ℕ)). Agrees l (cells_of_frame o words frame.0)) x.2.zeros (f.stored seat v frame.0 x.0 at x.1)))
      (was p.0 p.1)))
  pages-step Unmap may = let p = for_some v.held MayUnmap may.1 in
      subst (after Unmap) (sym p.1)
      (pages-at_held o words views seat v g at t p.0 p.1 _ (after_unmap k v p.0) (unmapped v p.0) refl refl refl (unmap_shows o words v p.0 _ may.0.cells (was p.0 p.1)))

pub moves_keep_pages : (k : Keeper) (o : Opening) (words : List ℕ) (views : List View) (seat : ℕ) (v : View) (step : MoveStep) → Has views seat v → FramesFit o → Shaped o words → Turn o words views → Frames o words views → Tickets o words views → Bounds o words views → Pages o words views → AllowedMove k o v step
    → Pages o (words_after_move words v step) (views_after_move k views seat v step)
moves_keep_pages k o words views seat v step at room s t f u b g may = pages-step k o words views seat v at room s t f g step may
