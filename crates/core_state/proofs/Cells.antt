-- The cells of a frame after one cell was written.
use Rattle.std.proofs.Common.{◌≡◌, ℕ, ◌+◌, ◌-◌, ◌*◌, ◌<◌, ◌≢◌, List, length, get_or, get_or-set_other, set, take, drop, sym, ap, ◌∙◌, arith, Some}
use Rattle.std.proofs.lemmas.List.{drop-set-lt, drop-set-add, take-set-le, get_or-take, get_or-drop, length-take, length-drop}
use Rattle.std.proofs.lemmas.Nat.{row_fits}
use Rattle.std.proofs.Math.Seq.{take-set-lt}
use Rattle.std.proofs.lemmas.Option.{slice_get-get_or}
use Rattle.std.specs.List.{slice_get}
use mathlib.Core.Logic.{dite}
use native.Mathlib.Decide.{dec_le}
use Rattle.evac_words.specs.Table.{entry_index, dirty_index, cell_index}
use Rattle.core_state.specs.declared.opening.Opening.{Opening}
use Rattle.core_state.specs.Words.{next_ticket_of, entry_word_of, dirty_word_of, cells_of_frame}
use Rattle.core_state.specs.Parts.{Shaped}
use Rattle.core_state.specs.Frames.{all_entry_words}

module _ (o : Opening) (words : List ℕ) (f c x : ℕ) (lt : c < o.cells) where
  -- the frame's own cells
  pub cells_of_frame-same : cells_of_frame o (set words (cell_index o.pages o.frames o.cells f c) x) f ≡ set (cells_of_frame o words f) c x
  cells_of_frame-same =
      let q : cell_index o.pages o.frames o.cells f c ≡ cell_index o.pages o.frames o.cells f 0 + c = omega arith in
      ap (λ (j : ℕ). cells_of_frame o (set words j x) f) q
      ∙ ap (λ (l : List ℕ). take o.cells l) (drop-set-add (cell_index o.pages o.frames o.cells f 0) words c x)
      ∙ take-set-lt o.cells (drop (cell_index o.pages o.frames o.cells f 0) words) c x lt

  -- the cells of another frame
  pub cells_of_frame-other : (g : ℕ) → g ≢ f → cells_of_frame o (set words (cell_index o.pages o.frames o.cells f c) x) g ≡ cells_of_frame o words g
  cells_of_frame-other g ne = dite (dec_le f g)
      (λ le. ap (λ (l : List ℕ). take o.cells l) (drop-set-lt (cell_index o.pages o.frames o.cells g 0) words (cell_index o.pages o.frames o.cells f c) x (let a = row_fits f o.cells g o.cells (omega arith) (omega arith) in omega arith)))
      (λ no. let a = row_fits g o.cells f o.cells (omega arith) (omega arith) in
      let q : cell_index o.pages o.frames o.cells f c ≡ cell_index o.pages o.frames o.cells g 0 + (cell_index o.pages o.frames o.cells f c - cell_index o.pages o.frames o.cells g 0) = omega arith in
      ap (λ (j : ℕ). cells_of_frame o (set words j x) g) q
      ∙ ap (λ (l : List ℕ). take o.cells l) (drop-set-add (cell_index o.pages o.frames o.cells g 0) words (cell_index o.pages o.frames o.cells f c - cell_index o.pages o.frames o.cells g 0) x)
      ∙ take-set-le o.cells (drop (cell_index o.pages o.frames o.cells g 0) words) (cell_index o.pages o.frames o.cells f c - cell_index o.pages o.frames o.cells g 0) x (omega arith))

  pub next_ticket-cell : next_ticket_of (set words (cell_index o.pages o.frames o.cells f c) x) ≡ next_ticket_of words
  next_ticket-cell = get_or-set_other words (cell_index o.pages o.frames o.cells f c) 0 x 0 (λ e. absurd (omega arith))

  pub entry_word-cell : (page : ℕ) → page < o.pages → entry_word_of (set words (cell_index o.pages o.frames o.cells f c) x) page ≡ entry_word_of words page
  entry_word-cell page l = get_or-set_other words (cell_index o.pages o.frames o.cells f c) (entry_index page) x 0 (λ e. absurd (omega arith))

  pub dirty_word-cell : (frame : ℕ) → frame < o.frames → dirty_word_of o (set words (cell_index o.pages o.frames o.cells f c) x) frame ≡ dirty_word_of o words frame
  dirty_word-cell frame l = get_or-set_other words (cell_index o.pages o.frames o.cells f c) (dirty_index o.pages frame) x 0 (λ e. absurd (omega arith))

  pub all_entry_words-cell : all_entry_words o (set words (cell_index o.pages o.frames o.cells f c) x) ≡ all_entry_words o words
  all_entry_words-cell =
      let q : cell_index o.pages o.frames o.cells f c ≡ 1 + (o.pages + o.frames + f * o.cells + c) = omega arith in
      ap (λ (j : ℕ). take o.pages (drop 1 (set words j x))) q
      ∙ ap (λ (l : List ℕ). take o.pages l) (drop-set-add 1 words (o.pages + o.frames + f * o.cells + c) x)
      ∙ take-set-le o.pages (drop 1 words) (o.pages + o.frames + f * o.cells + c) x (omega arith)

-- a cell is read from the words
pub cell_read : (o : Opening) (words : List ℕ) (f c : ℕ) → c < o.cells → get_or words (cell_index o.pages o.frames o.cells f c) 0 ≡ get_or (cells_of_frame o words f) c 0
cell_read o words f c lt =
    let q : cell_index o.pages o.frames o.cells f c ≡ cell_index o.pages o.frames o.cells f 0 + c = omega arith in
    ap (λ (j : ℕ). get_or words j 0) q
    ∙ sym (get_or-take o.cells (drop (cell_index o.pages o.frames o.cells f 0) words) c 0 lt ∙ get_or-drop (cell_index o.pages o.frames o.cells f 0) words c 0)

-- an entry word among all entry words
pub at_entry : (o : Opening) (words : List ℕ) (page : ℕ) → Shaped o words → page < o.pages → slice_get (all_entry_words o words) page ≡ Some (entry_word_of words page)
at_entry o words page s lt =
    let long = s.long in
    let a : length (take o.pages (drop 1 words)) ≡ o.pages = length-take o.pages (drop 1 words) ∙ (let b = length-drop 1 words in omega arith) in
    slice_get-get_or (all_entry_words o words) page 0 (omega arith)
    ∙ ap (λ (x : ℕ). Some x) (get_or-take o.pages (drop 1 words) page 0 lt ∙ get_or-drop 1 words page 0)

pub all_entry_words-set : (o : Opening) (words : List ℕ) (p n : ℕ) → p < o.pages → all_entry_words o (set words (entry_index p) n) ≡ set (all_entry_words o words) p n
all_entry_words-set o words p n lt = ap (λ (l : List ℕ). take o.pages l) (drop-set-add 1 words p n) ∙ take-set-lt o.pages (drop 1 words) p n lt
