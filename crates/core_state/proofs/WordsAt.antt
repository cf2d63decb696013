-- The words of the table after one was written.
use Rattle.std.proofs.Common.{◌≡◌, ℕ, ◌+◌, ◌<◌, ◌≢◌, List, length, length-set, set, take, sym, ap, ◌∙◌, arith, get_or-set_same, get_or-set_other}
use Rattle.std.proofs.lemmas.List.{drop-set-lt}
use Rattle.evac_words.specs.Table.{entry_index, cell_index}
use Rattle.core_state.specs.declared.opening.Opening.{Opening}
use Rattle.core_state.specs.Words.{next_ticket_of, entry_word_of, cells_of_frame}
use Rattle.core_state.specs.Parts.{Shaped}

pub next_ticket-elsewhere : (words : List ℕ) (j n : ℕ) → j ≢ 0 → next_ticket_of (set words j n) ≡ next_ticket_of words
next_ticket-elsewhere words j n ne = get_or-set_other words j 0 n 0 (λ e. ne (sym e))

pub next_ticket-here : (words : List ℕ) (n : ℕ) → 0 < length words → next_ticket_of (set words 0 n) ≡ n
next_ticket-here words n in_words = get_or-set_same words 0 n 0 in_words

pub entry_word-elsewhere : (words : List ℕ) (j n page : ℕ) → entry_index page ≢ j → entry_word_of (set words j n) page ≡ entry_word_of words page
entry_word-elsewhere words j n page ne = get_or-set_other words j (entry_index page) n 0 ne

pub entry_word-here : (words : List ℕ) (n page : ℕ) → entry_index page < length words → entry_word_of (set words (entry_index page) n) page ≡ n
entry_word-here words n page lt = get_or-set_same words (entry_index page) n 0 lt

pub entry_apart : (p q : ℕ) → q ≢ p → entry_index q ≢ entry_index p
entry_apart p q ne e = ne (omega arith)

pub entry_word-other : (words : List ℕ) (p n q : ℕ) → q ≢ p → entry_word_of (set words (entry_index p) n) q ≡ entry_word_of words q
entry_word-other words p n q ne = entry_word-elsewhere words (entry_index p) n q (entry_apart p q ne)

pub next_ticket-entry : (words : List ℕ) (p n : ℕ) → next_ticket_of (set words (entry_index p) n) ≡ next_ticket_of words
next_ticket-entry words p n = next_ticket-elsewhere words (entry_index p) n (λ e. absurd (omega arith))

-- a write before the cells leaves them all
pub cells_of_frame-before : (o : Opening) (words : List ℕ) (j n frame : ℕ) → j < 1 + o.pages + o.frames → cells_of_frame o (set words j n) frame ≡ cells_of_frame o words frame
cells_of_frame-before o words j n frame lt = ap (λ (l : List ℕ). take o.cells l) (drop-set-lt (cell_index o.pages o.frames o.cells frame 0) words j n (omega arith))

-- ---- the shape

pub entry_within : (o : Opening) (words : List ℕ) (p : ℕ) → Shaped o words → p < o.pages → entry_index p < length words
entry_within o words p s lt = let a = s.long in omega arith

pub first_within : (o : Opening) (words : List ℕ) → Shaped o words → 0 < length words
first_within o words s = let a = s.long in omega arith

pub shaped-set : (o : Opening) (words : List ℕ) (j n : ℕ) → Shaped o words → Shaped o (set words j n)
shaped-set o words j n s = record { long = length-set words j n ∙ s.long }
