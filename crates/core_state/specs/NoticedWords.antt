-- What the entry words say that takes found.
use Rattle.std.specs.Prelude.{◌≡◌, ◌⊎◌, ℕ, ◌+◌, ◌<◌, ◌≤◌, List, slice_get, slice_index, Some, IsSome}
use Rattle.evac_model.specs.declared.entry.Entry.{Entry}
use Rattle.evac_words.specs.Word.{taken_bit, moving_bit, bound_of}
use Rattle.core_state.specs.declared.held.Held.{Held}
use Rattle.core_state.specs.declared.noticed.Notice.{Notice}
use Rattle.core_state.specs.declared.opening.Opening.{Opening}
use Rattle.core_state.specs.declared.view.View.{View}
use Rattle.core_state.specs.Words.{entry_word_of}
use Rattle.core_state.specs.Views.{Has, right_to}
use Rattle.core_state.specs.Pages.{Flagged, page_before}

-- some view has the entry
pub record HasEntry (views : List View) (e : Entry) : Type 0 where
  pub seat : ℕ
  pub view : View
  pub place : ℕ
  pub has : Has views seat view
  pub at : slice_get view.entries place ≡ Some e

-- some view holds the page
pub record HasHolder (views : List View) (page : ℕ) : Type 0 where
  pub seat : ℕ
  pub view : View
  pub hold : Held
  pub has : Has views seat view
  pub is : view.held ≡ Some hold
  pub on : hold.page.0 ≡ page

-- the word's bound is one more than the ticket of an entry of that page
pub record EntryBefore (views : List View) (c : Notice) : Type 0 where
  pub entry : Entry
  pub has : HasEntry views entry
  pub on : entry.page.0 ≡ c.page.0
  pub next : bound_of c.word ≡ entry.ticket + 1

-- an entry of that page has a ticket not below the word's bound
pub record EntrySince (views : List View) (c : Notice) : Type 0 where
  pub entry : Entry
  pub has : HasEntry views entry
  pub on : entry.page.0 ≡ c.page.0
  pub late : bound_of c.word ≤ entry.ticket

-- a view holds that page and has drawn a ticket not below the word's bound
pub record HolderDrew (views : List View) (c : Notice) : Type 0 where
  pub holder : HasHolder views c.page.0
  pub ticket : ℕ
  pub drawn : holder.hold.ticket ≡ Some ticket
  pub late : bound_of c.word ≤ ticket

-- a view holds that page, has a ticket left, and hasn't the right to move that page
pub record HolderMayDraw (views : List View) (c : Notice) : Type 0 where
  pub holder : HasHolder views c.page.0
  pub left : 0 < holder.view.left
  pub no_right : right_to c.page.0 holder.view ≡ 0

-- what follows a word that was found taken
abbrev pub IsFollowed : List View → Notice → Type 0
IsFollowed views c = EntrySince views c ⊎ (HolderDrew views c ⊎ HolderMayDraw views c)

-- The bound of a noticed word is one more than the ticket of an entry of its page, or the page's opening
-- bound, and isn't above the bound in the page's word. A word that wasn't taken has the flags of the page
-- after the entries with tickets below its bound.
pub record IsNoticed (o : Opening) (words : List ℕ) (views : List View) (c : Notice) : Type 0 where
  pub in_range : c.page.0 < o.pages
  pub bound_is : (bound_of c.word ≡ slice_index o.bounds c.page.0) ⊎ EntryBefore views c
  pub bound_low : bound_of c.word ≤ bound_of (entry_word_of words c.page.0)
  pub flags : taken_bit c.word ≡ 0 → (moving_bit c.word ≡ 0) × Flagged c.word (page_before o views c.page.0 (bound_of c.word))

-- the holder has drawn its ticket, has a ticket left, or has the right to move the page
abbrev pub MayHold : View → Held → Type 0
MayHold v h = IsSome h.ticket ⊎ ((0 < v.left) ⊎ (0 < right_to h.page.0 v))

-- Each view that holds a page may hold it. Each noticed word says what it should, and one that a take by
-- the right to move found taken is followed by an entry, or by a call under way.
pub record NoticedWords (o : Opening) (words : List ℕ) (views : List View) : Type 0 where
  pub may_hold : (i : ℕ) (v : View) (h : Held) → Has views i v → v.held ≡ Some h → MayHold v h
  pub by_right : (i : ℕ) (v : View) (k : ℕ) (c : Notice) → Has views i v → slice_get v.noticed.by_right k ≡ Some c → IsNoticed o words views c
  pub last : (i : ℕ) (v : View) (c : Notice) → Has views i v → v.noticed.last ≡ Some c → IsNoticed o words views c
  pub followed : (i : ℕ) (v : View) (k : ℕ) (c : Notice) → Has views i v → slice_get v.noticed.by_right k ≡ Some c → taken_bit c.word ≡ 1 → IsFollowed views c
