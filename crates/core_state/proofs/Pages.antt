-- What shows a page goes on showing it.
use Rattle.std.proofs.Common.{◌≡◌, ℕ, eqb, zero, suc, ◌<◌, List, [], ◌∷◌, length, get_or, set, replicate, sym, refl, ap, ◌∙◌, arith, Option, Some, None}
use Rattle.std.proofs.lemmas.Option.{same_Some, none-some}
use Rattle.std.proofs.lemmas.List.{length-replicate}
use Rattle.std.proofs.lemmas.Grind.{common_steps}
use Rattle.evac_model.specs.Page.{Page, kind_of}
use Rattle.evac_words.specs.Word.{mapped_bit, frame_of}
use Rattle.core_state.specs.declared.held.Change.{Change}
use Rattle.core_state.specs.declared.held.Held.{Held}
use Rattle.core_state.specs.declared.opening.Opening.{Opening}
use Rattle.core_state.specs.Words.{cells_of_frame}
use Rattle.core_state.specs.Pages.{Flagged, page_cells, Shows, number_or, patched, Agrees, mapped_as, with_stores, with_pins, left_as, HeldShows, FreeShows, CouldBe}
use Rattle.core_state.proofs.EntryWords.{SameFlags}

-- ---- patched cells

pub patched-nothing : (n : ℕ) (xs : List ℕ) → patched (replicate n None) xs ≡ xs
patched-nothing zero xs = refl
patched-nothing (suc n) [] = refl
patched-nothing (suc n) (x ∷ xs) = ap (λ (l : List ℕ). x ∷ l) (patched-nothing n xs)

pub agrees-nothing : (n : ℕ) (xs : List ℕ) → Agrees (replicate n None) xs
agrees-nothing zero xs c x e = absurd (none-some (Some x) e)
agrees-nothing (suc n) xs zero x e = absurd (none-some x (same_Some None (Some x) e))
agrees-nothing (suc n) [] (suc c) x e = agrees-nothing n [] c x e
agrees-nothing (suc n) (y ∷ ys) (suc c) x e = agrees-nothing n ys c x e

pub length-patched : (ms : List (Option ℕ)) (xs : List ℕ) → length (patched ms xs) ≡ length xs
length-patched [] xs = refl
length-patched (m ∷ ms) [] = refl
length-patched (m ∷ ms) (x ∷ xs) = omega (arith, length-patched ms xs)

pub patched-set : (ms : List (Option ℕ)) (xs : List ℕ) (c x : ℕ) → c < length ms → patched (set ms c (Some x)) xs ≡ set (patched ms xs) c x
patched-set [] xs c x lt = absurd (omega arith)
patched-set (m ∷ ms) [] zero x lt = refl
patched-set (m ∷ ms) [] (suc c) x lt = refl
patched-set (m ∷ ms) (y ∷ ys) zero x lt = refl
patched-set (m ∷ ms) (y ∷ ys) (suc c) x lt = ap (λ (l : List ℕ). number_or m y ∷ l) (patched-set ms ys c x (omega arith))

-- a cell that wasn't stored is the one below
pub patched-unset : (ms : List (Option ℕ)) (xs : List ℕ) (c : ℕ) → c < length ms → get_or ms c None ≡ None → get_or (patched ms xs) c 0 ≡ get_or xs c 0
patched-unset [] xs c lt e = absurd (omega arith)
patched-unset (m ∷ ms) [] c lt e = refl
patched-unset (m ∷ ms) (x ∷ xs) zero lt e = ap (λ (o : Option ℕ). number_or o x) e
patched-unset (m ∷ ms) (x ∷ xs) (suc c) lt e = patched-unset ms xs c (omega arith) e

-- ---- pages with stores and pins

pub with_stores-nothing : (n : ℕ) (m : Page) → with_stores (replicate n None) m ≡ m
with_stores-nothing n None = refl
with_stores-nothing n (Some m) = ap (λ (l : List ℕ). Some (record m { cells = l })) (patched-nothing n m.cells)

pub page_cells-pins : (n pins : ℕ) (m : Page) → page_cells n (with_pins pins m) ≡ page_cells n m
page_cells-pins n pins m = grind (arith, common_steps)

pub length-page_cells-stores : (n : ℕ) (stores : List (Option ℕ)) (m : Page) → length (page_cells n m) ≡ n → length (page_cells n (with_stores stores m)) ≡ n
length-page_cells-stores n stores None e = e
length-page_cells-stores n stores (Some m) e = length-patched stores m.cells ∙ e

pub length-page_cells-mapped : (n : ℕ) (c : Change) (m : Page) → length (page_cells n m) ≡ n → length (page_cells n (mapped_as n c m)) ≡ n
length-page_cells-mapped n c m e = grind (arith, common_steps, length-replicate {A = ℕ} n 0)

pub length-left_as : (n : ℕ) (h : Held) (m : Page) → length (page_cells n m) ≡ n → length (page_cells n (left_as n h m)) ≡ n
length-left_as n h m e = length-page_cells-stores n h.stores (mapped_as n h.change m) (length-page_cells-mapped n h.change m e)

-- where the word is mapped, so is the page
page_cells-stores : (n : ℕ) (stores : List (Option ℕ)) (m : Page) (w : ℕ) → Flagged w (with_stores stores m) → mapped_bit w ≡ 1 → page_cells n (with_stores stores m) ≡ patched stores (page_cells n m)
page_cells-stores n stores None w f on = absurd (omega arith)
page_cells-stores n stores (Some m) w f on = refl

-- the cells of the held page
pub cells-held : (o : Opening) (words : List ℕ) (h : Held) (m : Page) → HeldShows o words h m → mapped_bit h.word ≡ 1
    → cells_of_frame o words (frame_of h.word) ≡ patched h.stores (page_cells o.cells (mapped_as o.cells h.change m))
cells-held o words h m s on = s.shows.cells on ∙ page_cells-stores o.cells h.stores (mapped_as o.cells h.change m) h.word s.shows.flags on

-- ---- flags

pub flagged-same : (w x : ℕ) (m : Page) → SameFlags w x → Flagged x m → Flagged w m
flagged-same w x None s f = s.low ∙ f
flagged-same w x (Some m) s f = (s.mapped ∙ f.0, ap (λ (u : ℕ). kind_of (eqb u 0)) s.unmovable ∙ f.1, s.pins ∙ f.2)

pub shows-same : (o : Opening) (words : List ℕ) (w x : ℕ) (m : Page) → SameFlags w x → Shows o words x m → Shows o words w m
shows-same o words w x m s p = record {
  flags = flagged-same w x m s p.flags;
  cells = λ on. ap (λ (f : ℕ). cells_of_frame o words f) s.frame ∙ p.cells (sym s.mapped ∙ on);
}

-- ---- other words

-- the cells of the frames are those of other words
abbrev pub SameCells : Opening → List ℕ → List ℕ → Type 0
SameCells o words other = (frame : ℕ) → cells_of_frame o other frame ≡ cells_of_frame o words frame

pub shows-elsewhere : (o : Opening) (words other : List ℕ) (w : ℕ) (m : Page) → SameCells o words other → Shows o words w m → Shows o other w m
shows-elsewhere o words other w m same s = record { flags = s.flags; cells = λ on. same (frame_of w) ∙ s.cells on }

pub free_shows-elsewhere : (o : Opening) (words other : List ℕ) (w : ℕ) (m : Page) → SameCells o words other → FreeShows o words w m → FreeShows o other w m
free_shows-elsewhere o words other w m same s = record { still = s.still; shows = shows-elsewhere o words other w m same s.shows }

pub held_shows-elsewhere : (o : Opening) (words other : List ℕ) (h : Held) (m : Page) → SameCells o words other → HeldShows o words h m → HeldShows o other h m
held_shows-elsewhere o words other h m same s = record { word = s.word; found = s.found; loads = s.loads; sized = s.sized; shows = shows-elsewhere o words other h.word _ same s.shows }

pub could_be : (o : Opening) (words : List ℕ) (h : Held) (m : Page) → HeldShows o words h m → length (page_cells o.cells m) ≡ o.cells → CouldBe o h m
could_be o words h m s sized = record { flags = s.found; loads = s.loads; sized = sized }
