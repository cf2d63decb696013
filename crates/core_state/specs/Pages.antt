-- Each page is what the calls answer in the order of their tickets.
use Rattle.std.specs.Prelude.{◌≡◌, ℕ, ◌+◌, ◌-◌, ◌*◌, ◌/◌, ◌%◌, ◌<◌, zero, suc, ◌==◌, if◌then◌else◌, List, [], ◌∷◌, length, slice_get, slice_index, slice_index_or, Option, Some, None}
use Rattle.evac_model.specs.declared.call.Call.{Call}
use Rattle.evac_model.specs.declared.reply.Reply.{Reply}
use Rattle.evac_model.specs.declared.entry.Entry.{Entry}
use Rattle.evac_model.specs.Page.{Page, zeros, new_page}
use Rattle.evac_model.specs.Answer.{answer, refusal}
use Rattle.evac_words.specs.Word.{taken_bit, moving_bit, mapped_bit, pins_of, frame_of, bound_of}
use Rattle.core_state.specs.declared.held.Change.{Change}
use Rattle.core_state.specs.declared.held.Change.TheVariants.{Kept, Moved, Mapped, Unmapped}
use Rattle.core_state.specs.declared.held.Held.{Held}
use Rattle.core_state.specs.declared.opening.Opening.{Opening}
use Rattle.core_state.specs.declared.view.View.{View}
use Rattle.core_state.specs.Words.{next_ticket_of, entry_word_of, cells_of_frame, kind_in}
use Rattle.core_state.specs.Views.{Has, holders}

-- ---- the history

abbrev pub or_else : Option Entry → Option Entry → Option Entry
or_else None b = b
or_else (Some e) b = Some e

-- the entry with the ticket
abbrev pub entry_in : ℕ → List Entry → Option Entry
entry_in t [] = None
entry_in t (e ∷ es) = if e.ticket == t then Some e else entry_in t es

abbrev pub entry_with : ℕ → List View → Option Entry
entry_with t [] = None
entry_with t (v ∷ vs) = or_else (entry_in t v.entries) (entry_with t vs)

-- what the entry's call answers at a page, with n cells in a page
abbrev pub answer_at : ℕ → Page → Call → Reply → Reply × Page
answer_at n m call reply = answer n m call (refusal reply)

-- the page after an entry of it; an entry of another page leaves it as it was
abbrev pub page_after_entry : ℕ → ℕ → Page → Option Entry → Page
page_after_entry n page m None = m
page_after_entry n page m (Some e) = if e.page.0 == page then (answer_at n m e.call e.reply).1 else m

-- the page after the first k tickets
abbrev pub page_after : Opening → List View → ℕ → ℕ → Page
page_after o views page zero = slice_index_or o.start page None
page_after o views page (suc k) = page_after_entry o.cells page (page_after o views page k) (entry_with (o.first + k) views)

-- the page after the entries with tickets below t
abbrev pub page_before : Opening → List View → ℕ → ℕ → Page
page_before o views page t = page_after o views page (t - o.first)

-- the page after all its entries
abbrev pub page_now : Opening → List ℕ → List View → ℕ → Page
page_now o words views page = page_before o views page (next_ticket_of words)

-- ---- words and cells that show a page

-- the word's flags are those of the page; bits 1 to 29 of an unmapped page's word are 0
abbrev pub Flagged : ℕ → Page → Type 0
Flagged w None = w / 2 % 536870912 ≡ 0
Flagged w (Some m) = (mapped_bit w ≡ 1) × (kind_in w ≡ m.kind) × (pins_of w ≡ m.pins)

-- the cells of a page; those of an unmapped one are zeros
abbrev pub page_cells : ℕ → Page → List ℕ
page_cells n None = zeros n
page_cells n (Some m) = m.cells

-- the word's flags and the cells of its frame are those of the page
pub record Shows (o : Opening) (words : List ℕ) (w : ℕ) (m : Page) : Type 0 where
  pub flags : Flagged w m
  pub cells : mapped_bit w ≡ 1 → cells_of_frame o words (frame_of w) ≡ page_cells o.cells m

-- ---- what a holder changed

abbrev pub number_or : Option ℕ → ℕ → ℕ
number_or None n = n
number_or (Some m) n = m

-- the cells, with the numbers that are there in place of theirs
abbrev pub patched : List (Option ℕ) → List ℕ → List ℕ
patched [] cells = cells
patched (m ∷ ms) [] = []
patched (m ∷ ms) (x ∷ xs) = number_or m x ∷ patched ms xs

-- each number that is there is the cell's
abbrev pub Agrees : List (Option ℕ) → List ℕ → Type 0
Agrees known cells = (c x : ℕ) → slice_get known c ≡ Some (Some x) → slice_index cells c ≡ x

-- the page as the holder mapped or unmapped it
abbrev pub mapped_as : ℕ → Change → Page → Page
mapped_as n Kept m = m
mapped_as n Moved m = m
mapped_as n (Mapped kind) m = Some (new_page n kind)
mapped_as n Unmapped m = None

abbrev pub with_stores : List (Option ℕ) → Page → Page
with_stores stores None = None
with_stores stores (Some m) = Some (record m { cells = patched stores m.cells })

abbrev pub with_pins : ℕ → Page → Page
with_pins pins None = None
with_pins pins (Some m) = Some (record m { pins = pins })

-- the page as its holder leaves it, where it was taken as m
abbrev pub left_as : ℕ → Held → Page → Page
left_as n h m = with_stores h.stores (mapped_as n h.change m)

-- The word that the holder has is the one found but for the taken bit, and the moving bit while a move
-- is under way, until the mapping is changed; the bound stays in any case.
pub record IsHeldWord (h : Held) : Type 0 where
  pub found_free : taken_bit h.found ≡ 0
  pub found_still : moving_bit h.found ≡ 0
  pub kept : h.change ≡ Kept → h.word ≡ h.found + 1 + 2 * moving_bit h.word
  pub bound : bound_of h.word ≡ bound_of h.found

-- the page was taken as m, and its word and cells are as the holder left them
pub record HeldShows (o : Opening) (words : List ℕ) (h : Held) (m : Page) : Type 0 where
  pub word : IsHeldWord h
  pub found : Flagged h.found m
  pub loads : Agrees h.loads (page_cells o.cells (mapped_as o.cells h.change m))
  pub sized : length h.stores ≡ o.cells
  pub shows : Shows o words h.word (left_as o.cells h m)

-- a page that nobody holds: its word isn't moving
pub record FreeShows (o : Opening) (words : List ℕ) (w : ℕ) (m : Page) : Type 0 where
  pub still : moving_bit w ≡ 0
  pub shows : Shows o words w m

-- Every reply is the answer to its call, in ticket order. The flags and the cells of a page are those
-- after its entries, changed by what its holder did since the take.
pub record Pages (o : Opening) (words : List ℕ) (views : List View) : Type 0 where
  pub replies : (k : ℕ) (e : Entry) → o.first + k < next_ticket_of words → entry_with (o.first + k) views ≡ Some e → (answer_at o.cells (page_after o views e.page.0 k) e.call e.reply).0 ≡ e.reply
  pub sized : (page : ℕ) → page < o.pages → length (page_cells o.cells (page_now o words views page)) ≡ o.cells
  pub free : (page : ℕ) → page < o.pages → holders page views ≡ 0 → FreeShows o words (entry_word_of words page) (page_now o words views page)
  pub held : (i : ℕ) (v : View) (h : Held) → Has views i v → v.held ≡ Some h → HeldShows o words h (page_now o words views h.page.0)

-- ---- what a holder may answer

-- the page could be the one that was taken, as far as the holder knows
pub record CouldBe (o : Opening) (h : Held) (m : Page) : Type 0 where
  pub flags : Flagged h.found m
  pub loads : Agrees h.loads (page_cells o.cells (mapped_as o.cells h.change m))
  pub sized : length (page_cells o.cells m) ≡ o.cells

-- Whatever page was taken, the call answers the reply, and leaves the page as the holder leaves it with
-- these pins.
abbrev pub Answered : Opening → Held → Call → Reply → ℕ → Type 0
Answered o h call reply pins = (m : Page) → CouldBe o h m → answer_at o.cells m call reply ≡ (reply, with_pins pins (left_as o.cells h m))

-- Whatever page was taken, the holder leaves it as it was taken.
abbrev pub Untouched : Opening → Held → Type 0
Untouched o h = (m : Page) → CouldBe o h m → left_as o.cells h m ≡ m
