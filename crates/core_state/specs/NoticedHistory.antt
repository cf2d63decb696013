-- What noticed words tell of the plain history, whose entry number k has the ticket that is k more than
-- the first.
use Rattle.std.specs.Prelude.{◌≡◌, ◌⊎◌, ℕ, ◌+◌, ◌-◌, ◌<◌, ◌≤◌, List, length, take, slice_get, slice_index, Some}
use Rattle.evac_model.specs.declared.entry.Entry.{Entry}
use Rattle.evac_model.specs.Page.{Page}
use Rattle.evac_model.specs.State.{PlainState, page_at}
use Rattle.evac_model.specs.History.{after_entries}
use Rattle.evac_words.specs.Word.{taken_bit, moving_bit, bound_of}
use Rattle.core_state.specs.declared.noticed.Notice.{Notice}
use Rattle.core_state.specs.declared.opening.Opening.{Opening}
use Rattle.core_state.specs.declared.view.View.{View}
use Rattle.core_state.specs.Pages.{Flagged}
use Rattle.core_state.specs.Rearranged.{HasNotice}

-- the word is one that a take of the view found: by the right to move, or the last by a ticket
abbrev pub WasNoticed : View → Notice → Type 0
WasNoticed v c = HasNotice v c ⊎ (v.noticed.last ≡ Some c)

-- the entries with tickets below this one
abbrev pub entries_below : Opening → ℕ → List Entry → List Entry
entries_below o t entries = take (t - o.first) entries

-- the plain page of a noticed word, after the entries with tickets below the word's bound
abbrev pub page_then : Opening → PlainState → List Entry → Notice → Page
page_then o start entries c = page_at (after_entries o.cells start (entries_below o (bound_of c.word) entries)) c.page.0

-- the word's bound is one more than the ticket of an entry of its page
pub record BoundByEntry (entries : List Entry) (c : Notice) : Type 0 where
  pub place : ℕ
  pub entry : Entry
  pub at : slice_get entries place ≡ Some entry
  pub on : entry.page.0 ≡ c.page.0
  pub next : bound_of c.word ≡ entry.ticket + 1

-- an entry of the word's page has a ticket not below the word's bound
pub record AnsweredSince (entries : List Entry) (c : Notice) : Type 0 where
  pub place : ℕ
  pub entry : Entry
  pub at : slice_get entries place ≡ Some entry
  pub on : entry.page.0 ≡ c.page.0
  pub late : bound_of c.word ≤ entry.ticket

-- The word isn't moving and has the flags of the page: both are mapped or neither is, with the same kind
-- and pins.
pub record ShowsPage (w : ℕ) (m : Page) : Type 0 where
  pub still : moving_bit w ≡ 0
  pub flags : Flagged w m

-- The word's bound is one more than the ticket of an entry of its page, or the page's opening bound, and
-- none above the tickets drawn. A word that wasn't taken shows the page as the entries with tickets below
-- its bound leave it.
pub record TellsHistory (o : Opening) (start : PlainState) (entries : List Entry) (c : Notice) : Type 0 where
  pub in_range : c.page.0 < o.pages
  pub bound_is : (bound_of c.word ≡ slice_index o.bounds c.page.0) ⊎ BoundByEntry entries c
  pub bound_low : bound_of c.word ≤ o.first + length entries
  pub free : taken_bit c.word ≡ 0 → ShowsPage c.word (page_then o start entries c)
