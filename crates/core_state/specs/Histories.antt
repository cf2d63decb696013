-- The history that entries make in the order of their tickets.
use Rattle.std.specs.Prelude.{◌≡◌, ℕ, ◌+◌, List, length, slice_get, slice_index_or, Some, None}
use Rattle.evac_model.specs.declared.entry.Entry.{Entry}
use Rattle.evac_model.specs.State.{PlainState, page_at}
use Rattle.core_state.specs.declared.opening.Opening.{Opening}
use Rattle.core_state.specs.declared.view.View.{View}
use Rattle.core_state.specs.Words.{next_ticket_of}
use Rattle.core_state.specs.Views.{Has}
use Rattle.core_state.specs.Pages.{entry_with}

-- the plain state has the opening's pages
abbrev pub IsOpeningState : Opening → PlainState → Type 0
IsOpeningState o state = (page : ℕ) → page_at state page ≡ slice_index_or o.start page None

-- The entries of all views, from the first ticket on, in the order of their tickets; there are as many as
-- tickets were drawn.
pub record IsHistoryOf (o : Opening) (words : List ℕ) (views : List View) (entries : List Entry) : Type 0 where
  pub count : o.first + length entries ≡ next_ticket_of words
  pub each : (k : ℕ) (e : Entry) → slice_get entries k ≡ Some e → entry_with (o.first + k) views ≡ Some e

-- no view holds a page
abbrev pub AllLetGo : List View → Type 0
AllLetGo views = (i : ℕ) (v : View) → Has views i v → v.held ≡ None
