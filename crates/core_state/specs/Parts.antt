-- Turn, tickets and bounds.
use Rattle.std.specs.Prelude.{◌≡◌, ℕ, ◌+◌, ◌<◌, ◌≤◌, ◌^◌, max, ◌==◌, if◌then◌else◌, List, [], ◌∷◌, length, slice_index, Option, Some, None, IsSome}
use Rattle.std.specs.List.{sum_by, count_by}
use Rattle.evac_model.specs.declared.entry.Entry.{Entry}
use Rattle.evac_words.specs.Word.{taken_bit, bound_of}
use Rattle.evac_words.specs.Table.{table_length}
use Rattle.core_state.specs.declared.held.Held.{Held}
use Rattle.core_state.specs.declared.opening.Opening.{Opening}
use Rattle.core_state.specs.declared.view.View.{View}
use Rattle.core_state.specs.Words.{next_ticket_of, entry_word_of}
use Rattle.core_state.specs.Views.{Has, holders, movers}

-- The table has its words, and no others.
pub record Shaped (o : Opening) (words : List ℕ) : Type 0 where
  pub long : length words ≡ table_length o.pages o.frames o.cells

-- A word has the taken bit exactly where one view holds its page, and that view has the word as it is.
-- No two views have the right to move one page.
pub record Turn (o : Opening) (words : List ℕ) (views : List View) : Type 0 where
  pub taken_by_one : (page : ℕ) → page < o.pages → holders page views ≡ taken_bit (entry_word_of words page)
  pub held_word : (i : ℕ) (v : View) (h : Held) → Has views i v → v.held ≡ Some h → (h.page.0 < o.pages) × (entry_word_of words h.page.0 ≡ h.word)
  pub one_mover : (page : ℕ) → movers page views ≤ 1

-- one where the number that is there is this one, else 0
abbrev pub is_at : ℕ → Option ℕ → ℕ
is_at n None = 0
is_at n (Some m) = if m == n then 1 else 0

-- one where the ticket was drawn for the held page, else 0
abbrev pub drawn_as : ℕ → Option Held → ℕ
drawn_as t None = 0
drawn_as t (Some h) = is_at t h.ticket

-- how often the view has the ticket, in its entries and in a call under way
abbrev pub uses_of : ℕ → View → ℕ
uses_of t v = count_by (λ e. e.ticket == t) v.entries + drawn_as t v.held

abbrev pub uses : ℕ → List View → ℕ
uses t views = sum_by (λ v. uses_of t v) views

-- the tickets left of all views
abbrev pub all_left : List View → ℕ
all_left views = sum_by (λ v. v.left) views

-- The tickets of all entries and of all calls under way are the numbers from the first ticket and below
-- word 0, each once. Word 0 and all tickets left are the first ticket and the budget. A view with a
-- ticket left, or with one drawn, has the number of its caller.
pub record Tickets (o : Opening) (words : List ℕ) (views : List View) : Type 0 where
  pub from_first : o.first ≤ next_ticket_of words
  pub each_once : (t : ℕ) → o.first ≤ t → t < next_ticket_of words → uses t views ≡ 1
  pub none_before : (t : ℕ) → t < o.first → uses t views ≡ 0
  pub none_from : (t : ℕ) → next_ticket_of words ≤ t → uses t views ≡ 0
  pub budget_is : next_ticket_of words + all_left views ≡ o.first + o.budget
  pub budget_small : o.first + o.budget < 2 ^ 33
  pub caller_with_left : (i : ℕ) (v : View) → Has views i v → 0 < v.left → IsSome v.caller
  pub caller_with_drawn : (i : ℕ) (v : View) (h : Held) (t : ℕ) → Has views i v → v.held ≡ Some h → h.ticket ≡ Some t → IsSome v.caller

-- one more than the entry's ticket, where it is of the page, else 0
abbrev pub bound_by : ℕ → Entry → ℕ
bound_by page e = if e.page.0 == page then e.ticket + 1 else 0

-- one more than the greatest ticket among the entries of the page, or 0
abbrev pub latest_in : ℕ → List Entry → ℕ
latest_in page [] = 0
latest_in page (e ∷ es) = max (bound_by page e) (latest_in page es)

abbrev pub latest : ℕ → List View → ℕ
latest page [] = 0
latest page (v ∷ vs) = max (latest_in page v.entries) (latest page vs)

-- A page's bound is one more than the greatest ticket among its entries, or its opening bound. A ticket
-- drawn by its holder isn't below the bound. No bound and no view's `seen` is above word 0.
pub record Bounds (o : Opening) (words : List ℕ) (views : List View) : Type 0 where
  pub bound_is : (page : ℕ) → page < o.pages → bound_of (entry_word_of words page) ≡ max (slice_index o.bounds page) (latest page views)
  pub drawn_late : (i : ℕ) (v : View) (h : Held) (t : ℕ) → Has views i v → v.held ≡ Some h → h.ticket ≡ Some t → bound_of h.word ≤ t
  pub bound_low : (page : ℕ) → page < o.pages → bound_of (entry_word_of words page) ≤ next_ticket_of words
  pub seen_low : (i : ℕ) (v : View) → Has views i v → v.seen ≤ next_ticket_of words
