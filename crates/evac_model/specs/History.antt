-- A legal history: entries whose replies are those of pages that never move.
use Rattle.std.specs.Prelude.{◌≡◌, ℕ, ◌+◌, List, [], ◌∷◌}
use Rattle.evac_model.specs.declared.entry.Entry.{Entry}
use Rattle.evac_model.specs.declared.reply.Reply.{Reply}
use Rattle.evac_model.specs.Page.{Page}
use Rattle.evac_model.specs.Answer.{answer, refusal}
use Rattle.evac_model.specs.State.{PlainState, page_at, with_page}

-- what the entry's call answers in a state, with n cells in a page
abbrev pub answer_in : ℕ → PlainState → Entry → Reply × Page
answer_in n state e = answer n (page_at state e.page.0) e.call (refusal e.reply)

-- the state that an entry leaves
abbrev pub after_entry : ℕ → PlainState → Entry → PlainState
after_entry n state e = with_page state e.page.0 (answer_in n state e).1

-- the state that entries leave, one after another
abbrev pub after_entries : ℕ → PlainState → List Entry → PlainState
after_entries n state [] = state
after_entries n state (e ∷ es) = after_entries n (after_entry n state e) es

-- The tickets count up from `ticket`, and each reply is one that its call may have in the state that
-- the entries before it leave.
abbrev pub IsLegalFrom : ℕ → ℕ → PlainState → List Entry → Type 0
IsLegalFrom n ticket state [] = Unit {0}
IsLegalFrom n ticket state (e ∷ es) =
    (e.ticket ≡ ticket) × ((answer_in n state e).0 ≡ e.reply) × IsLegalFrom n (ticket + 1) (after_entry n state e) es

-- entry i has ticket i
abbrev pub IsLegal : ℕ → PlainState → List Entry → Type 0
IsLegal n start entries = IsLegalFrom n 0 start entries
