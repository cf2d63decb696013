-- The pages of a plain state as the report has them, and back.
use Rattle.std.specs.Prelude.{ℕ, zero, suc, List, [], ◌∷◌, ◌++◌, map, None, Some}
use Rattle.std.specs.FinMap.{from_entries}
use Rattle.evac_model.specs.Page.{PlainPage, Page}
use Rattle.evac_model.specs.State.{PlainState, page_at}
use Rattle.report.specs.declared.report.FinalPage.{FinalPage}

-- a page as the report has it, if it is mapped
abbrev pub final_page : ℕ → Page → List FinalPage
final_page page None = []
final_page page (Some m) = (record { page = record { 0 = page }; kind = m.kind; pins = m.pins; cells = m.cells }) ∷ []

-- the mapped pages with numbers below n, rising
abbrev pub pages_below : PlainState → ℕ → List FinalPage
pages_below state zero = []
pages_below state (suc n) = pages_below state n ++ final_page n (page_at state n)

-- a page of the report as a plain page
abbrev pub plain_page : FinalPage → PlainPage
plain_page p = record { cells = p.cells; kind = p.kind; pins = p.pins }

-- the pages of the report as a plain state
abbrev pub pages_state : List FinalPage → PlainState
pages_state pages = from_entries (map (λ p. (p.page.0, plain_page p)) pages)
