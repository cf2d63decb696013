-- `Image` is kept by each step of a call.
use Rattle.std.proofs.Common.{◌≡◌, ℕ, eqb, ◌<◌, ◌≤◌, ◌≢◌, List, length, get_or-set_same, get_or-set_other, set, take, sym, refl, ap, ◌∙◌, subst, ⊎_elim, arith, Option, Some, None}
use Rattle.std.specs.Prelude.{is_some}
use Rattle.std.proofs.lemmas.List.{set-get_or}
use mathlib.Core.Logic.{dite}
use native.Mathlib.Decide.{ℕ_discrete}
use Rattle.evac_model.specs.declared.names.FrameNo.{FrameNo}
use Rattle.evac_words.specs.Word.{bit_of}
use Rattle.evac_words.specs.Table.{entry_index, dirty_index, cell_index}
use Rattle.core_state.specs.declared.held.Held.{Held}
use Rattle.core_state.specs.declared.keeper.Keeper.{Keeper}
use Rattle.core_state.specs.declared.opening.Opening.{Opening}
use Rattle.core_state.specs.declared.scan.Scan.{Scan}
use Rattle.core_state.specs.declared.step.CallDone.{CallDone}
use Rattle.core_state.specs.declared.step.Step.{Step}
use Rattle.core_state.specs.declared.step.Step.TheVariants.{Take, Draw, Load, Store, Mark, Release}
use Rattle.core_state.specs.declared.view.View.{View}
use Rattle.core_state.specs.Words.{next_ticket_of, dirty_word_of, cells_of_frame}
use Rattle.core_state.specs.Views.{Has, times_unmarked, times_unmarked_in, scans}
use Rattle.core_state.specs.Parts.{Shaped, Turn}
use Rattle.core_state.specs.Frames.{Frames}
use Rattle.core_state.specs.Image.{copy_of, Image}
use Rattle.core_state.specs.Steps.{MayLetGo, MayEnd, held_page, after_take, after_draw, after_load, after_store, after_mark, after_release, word_after_release, Allowed}
use Rattle.core_state.specs.Stepped.{words_after, views_after}
use Rattle.core_state.proofs.Lists.{at_set, sum_by_kept, member_le_sum_by, set_here, within}
use Rattle.core_state.proofs.WordsAt.{cells_of_frame-before}
use Rattle.core_state.proofs.Holding.{for_some}
use Rattle.core_state.proofs.Cells.{cells_of_frame-other, dirty_word-cell}
use Rattle.core_state.proofs.Frames.{owned_in_range}
use Rattle.core_state.proofs.FrameSteps.{count_of-without_other, unmarked-store_other, unmarked-store_same}
use Rattle.core_state.proofs.Pages.{SameCells}

pub dirty_within : (o : Opening) (words : List ℕ) (f : ℕ) → Shaped o words → f < o.frames → dirty_index o.pages f < length words
dirty_within o words f s lt = let a = s.long in omega arith

-- a seat that isn't the scanner's more than it was
scans-kept : (v w : View) → w.scan ≡ v.scan → scans w ≡ scans v
scans-kept v w e = ap (λ (m : Option Scan). bit_of (is_some m)) e

module _ (o : Opening) (words : List ℕ) (views : List View) (i : ℕ) (v : View) (g : Image o words views) (at : Has views i v) where
  -- Each frame that is clean afterwards was clean before, and has its cells.
  pub image-kept : (j n : ℕ) (w : View) → w.scan ≡ v.scan
      → ((f : ℕ) → f < o.frames → dirty_word_of o (set words j n) f ≤ 1)
      → ((f : ℕ) → f < o.frames → dirty_word_of o (set words j n) f ≡ 0 → times_unmarked_in f (set views i w) ≡ 0
      → (dirty_word_of o words f ≡ 0) × (times_unmarked_in f views ≡ 0) × (cells_of_frame o (set words j n) f ≡ cells_of_frame o words f))
      → Image o (set words j n) (set views i w)
  image-kept j n w scan dirty clean = record {
    one_scanner = (let a = sum_by_kept scans views i v w at (scans-kept v w scan) in let b = g.one_scanner in omega arith);
    dirty = dirty;
    copied = λ m y s f has is lt zero_word none. let c = clean f lt zero_word none in
        subst (λ (l : List ℕ). copy_of s f ≡ take (length (copy_of s f)) l) (sym c.2)
        (⊎_elim
        (λ q. g.copied i v s f at (sym scan ∙ ap (λ (z : View). z.scan) q.1 ∙ is) lt c.0 c.1)
        (λ q. g.copied m y s f q.1 is lt c.0 c.1)
        (at_set views i m w y has));
  }

  -- a step on a word that is no dirty word and no cell
  pub image-elsewhere : (j n : ℕ) (w : View) → w.scan ≡ v.scan → w.unmarked ≡ v.unmarked
      → ((f : ℕ) → f < o.frames → dirty_word_of o (set words j n) f ≡ dirty_word_of o words f) → SameCells o words (set words j n)
      → Image o (set words j n) (set views i w)
  image-elsewhere j n w scan marks dirty cells = image-kept j n w scan
      (λ f lt. let a = dirty f lt in let b = g.dirty f lt in omega arith)
      (λ f lt zero_word none. (
        sym (dirty f lt) ∙ zero_word,
        sym (sum_by_kept (λ x. times_unmarked f x) views i v w at (ap (λ (l : List FrameNo). Rattle.std.specs.List.count_by (λ x. eqb x.0 f) l) marks)) ∙ none,
        cells f,
      ))

  pub image-at_entry : (p n : ℕ) (w : View) → p < o.pages → w.scan ≡ v.scan → w.unmarked ≡ v.unmarked → Image o (set words (entry_index p) n) (set views i w)
  image-at_entry p n w lt scan marks = image-elsewhere (entry_index p) n w scan marks
      (λ f l. get_or-set_other words (entry_index p) (dirty_index o.pages f) n 0 (λ e. absurd (omega arith)))
      (λ f. cells_of_frame-before o words (entry_index p) n f (omega arith))

  pub image-draw : (n : ℕ) → Image o (set words 0 n) (set views i (after_draw v (next_ticket_of words)))
  image-draw n = image-elsewhere 0 n (after_draw v (next_ticket_of words)) refl refl
      (λ f l. get_or-set_other words 0 (dirty_index o.pages f) n 0 (λ e. absurd (omega arith)))
      (λ f. cells_of_frame-before o words 0 n f (omega arith))

  pub image-load : (j cell x : ℕ) → set words j x ≡ words → Image o (set words j x) (set views i (after_load v cell x))
  image-load j cell x same = image-elsewhere j x (after_load v cell x) refl refl
      (λ f l. ap (λ (m : List ℕ). dirty_word_of o m f) same) (λ f. ap (λ (m : List ℕ). cells_of_frame o m f) same)

  -- a frame that the step makes unmarked isn't clean afterwards
  pub image-store : (frame : FrameNo) (c x : ℕ) → c < o.cells → Image o (set words (cell_index o.pages o.frames o.cells frame.0 c) x) (set views i (after_store v frame c x))
  image-store frame c x low = image-kept (cell_index o.pages o.frames o.cells frame.0 c) x (after_store v frame c x) refl
      (λ f lt. let a = dirty_word-cell o words frame.0 c x low f lt in let b = g.dirty f lt in omega arith)
      (λ f lt zero_word none. dite (ℕ_discrete f frame.0)
      (λ e. absurd (let a = member_le_sum_by (λ y. times_unmarked f y) (set views i (after_store v frame c x)) i (after_store v frame c x) (set_here views i (after_store v frame c x) (within views i v at)) in
      let b : 0 < times_unmarked f (after_store v frame c x) = subst (λ (q : ℕ). 0 < times_unmarked q (after_store v frame c x)) (sym e) (unmarked-store_same v frame) in omega arith))
      (λ ne. (
        sym (dirty_word-cell o words frame.0 c x low f lt) ∙ zero_word,
        sym (sum_by_kept (λ y. times_unmarked f y) views i v (after_store v frame c x) at (unmarked-store_other v frame f ne)) ∙ none,
        cells_of_frame-other o words frame.0 c x low f ne,
      )))

  pub image-mark : (frame : FrameNo) → Shaped o words → frame.0 < o.frames → Image o (set words (dirty_index o.pages frame.0) 1) (set views i (after_mark v frame))
  image-mark frame s low = image-kept (dirty_index o.pages frame.0) 1 (after_mark v frame) refl
      (λ f lt. dite (ℕ_discrete f frame.0)
      (λ e. let a = here f e in omega arith)
      (λ ne. let a = other f ne in let b = g.dirty f lt in omega arith))
      (λ f lt zero_word none. dite (ℕ_discrete f frame.0)
      (λ e. absurd (let a = here f e in omega arith))
      (λ ne. (
        sym (other f ne) ∙ zero_word,
        sym (sum_by_kept (λ y. times_unmarked f y) views i v (after_mark v frame) at (count_of-without_other frame.0 f v.unmarked ne)) ∙ none,
        cells_of_frame-before o words (dirty_index o.pages frame.0) 1 f (omega arith),
      ))) where
        here : (f : ℕ) → f ≡ frame.0 → dirty_word_of o (set words (dirty_index o.pages frame.0) 1) f ≡ 1
        here f e = ap (λ (q : ℕ). dirty_word_of o (set words (dirty_index o.pages frame.0) 1) q) e ∙ get_or-set_same words (dirty_index o.pages frame.0) 1 0 (dirty_within o words frame.0 s low)

        other : (f : ℕ) → f ≢ frame.0 → dirty_word_of o (set words (dirty_index o.pages frame.0) 1) f ≡ dirty_word_of o words f
        other f ne = get_or-set_other words (dirty_index o.pages frame.0) (dirty_index o.pages f) 1 0 (λ e. ne (omega arith))

module _ (k : Keeper) (o : Opening) (words : List ℕ) (views : List View) (seat : ℕ) (v : View) (g : Image o words views) (at : Has views seat v) (s : Shaped o words) (t : Turn o words views) (f : Frames o words views) where
  release : (h : Held) (end : Option CallDone) → v.held ≡ Some h → (after_release v end).scan ≡ v.scan → (after_release v end).unmarked ≡ v.unmarked
      → Image o (set words (entry_index (held_page v.held)) (word_after_release v.held end)) (set views seat (after_release v end))
  release h end holds scan marks = image-at_entry o words views seat v g at (held_page v.held) _ (after_release v end)
      (subst (λ (m : Option Held). held_page m < o.pages) (sym holds) (t.held_word seat v h at holds).0) scan marks

pub steps_keep_image : (k : Keeper) (o : Opening) (words : List ℕ) (views : List View) (seat : ℕ) (v : View) (step : Step) → Has views seat v → Shaped o words → Turn o words views → Frames o words views → Image o words views → Allowed o v step
    → Image o (words_after o words v step) (views_after k o words views seat v step)
steps_keep_image k o words views seat v (Take page) at s t f g may = image-at_entry o words views seat v g at page.0 _ (after_take k v page _) may.in_range refl refl
steps_keep_image k o words views seat v Draw at s t f g may = image-draw o words views seat v g at _
steps_keep_image k o words views seat v (Load cell) at s t f g may = image-load o words views seat v g at _ cell _ (set-get_or words _ 0)
steps_keep_image k o words views seat v (Store frame cell value) at s t f g may = image-store o words views seat v g at frame cell value may.in_range
steps_keep_image k o words views seat v (Mark frame) at s t f g may = image-mark o words views seat v g at frame s (owned_in_range o words views s t f seat v frame.0 at may)
steps_keep_image k o words views seat v (Release None) at s t f g may = let p = for_some v.held (MayLetGo o v) may.1 in release k o words views seat v g at s t f p.0 None p.1 refl refl
steps_keep_image k o words views seat v (Release (Some d)) at s t f g may = let p = for_some v.held (MayEnd o d) may.1 in release k o words views seat v g at s t f p.0 (Some d) p.1 refl refl
