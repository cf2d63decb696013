-- What an entry word that was found for a page tells of the plain history at the end.
use Rattle.std.specs.Prelude.{◌≡◌, ◌⊎◌, ◌<◌, ◌≤◌, ℕ, List, length, take}
use Rattle.evac_model.specs.declared.entry.Entry.{Entry}
use Rattle.evac_model.specs.declared.names.PageNo.{PageNo}
use Rattle.evac_model.specs.Geometry.{Sizes}
use Rattle.evac_model.specs.History.{after_entries}
use Rattle.evac_model.specs.Page.{Page}
use Rattle.evac_model.specs.State.{PlainState, page_at}
use Rattle.evac_words.specs.Word.{taken_bit, bound_of}
use Rattle.core_state.specs.declared.noticed.Notice.{Notice}
use Rattle.core_state.specs.NoticedHistory.{BoundByEntry, AnsweredSince, ShowsPage}
use Rattle.host_work.specs.Truth.{Finds}

-- the word as one that a take found; how much of the frame space's journal was known then doesn't count
abbrev pub word_notice : PageNo → (word : ℕ) → Notice
word_notice page word = record { page = page; word = word; known = 0 }

-- the plain page behind the entries with tickets below the word's bound
abbrev pub page_before : Sizes → PlainState → List Entry → PageNo → (word : ℕ) → Page
page_before s start entries page word = page_at (after_entries s.cells start (take (bound_of word) entries)) page.0

-- The word's bound is one more than the ticket of an entry of the page, or 0, and none above the tickets drawn. A word that
-- wasn't taken isn't moving, and has the flags of the page as the entries with tickets below its bound leave it. One that was taken
-- was taken for a call: the page has an entry with a ticket not below the word's bound.
pub record IsWordOf (s : Sizes) (start : PlainState) (entries : List Entry) (page : PageNo) (word : ℕ) : Type 0 where
  pub in_range : page.0 < s.pages
  pub bound_is : (bound_of word ≡ 0) ⊎ BoundByEntry entries (word_notice page word)
  pub bound_low : bound_of word ≤ length entries
  pub free : taken_bit word ≡ 0 → ShowsPage word (page_before s start entries page word)
  pub taken : taken_bit word ≡ 1 → AnsweredSince entries (word_notice page word)

-- the same, whichever take found the word
abbrev pub AreWordsOf : Sizes → PlainState → List Entry → Finds
AreWordsOf s start entries number page word = IsWordOf s start entries page word
