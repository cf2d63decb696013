-- The plain state: a finite map from page numbers to mapped pages. It has no frames, blocks or words.
use Rattle.std.specs.Prelude.{ℕ, List, map, None, Some}
use Rattle.std.specs.Ordering.{nat_cmp}
use Rattle.std.specs.FinMap.{FinMap, get, insert, remove, from_entries}
use Rattle.evac_model.specs.declared.scenario.StartPage.{StartPage}
use Rattle.evac_model.specs.Page.{PlainPage, Page, new_page}

abbrev pub PlainState : Type 0
PlainState = FinMap nat_cmp PlainPage

-- the page with that number, None where it is unmapped
abbrev pub page_at : PlainState → ℕ → Page
page_at state page = get state page

-- the state with that page so
abbrev pub with_page : PlainState → ℕ → Page → PlainState
with_page state page None = remove state page
with_page state page (Some m) = insert state page m

-- the start pages, with n zeros and no pins each
abbrev pub start_state : ℕ → List StartPage → PlainState
start_state n start = from_entries (map (λ p. (p.page.0, new_page n p.kind)) start)
