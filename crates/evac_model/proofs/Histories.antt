-- Laws of legal histories.
use Rattle.std.proofs.Common.{◌≡◌, ℕ, suc, zero, ◌+◌, List, [], ◌∷◌, ◌++◌, length, Some, refl, sym, ap, ◌∙◌, arith}
use Rattle.std.specs.List.{slice_get}
use Rattle.evac_model.specs.declared.entry.Entry.{Entry}
use Rattle.evac_model.specs.State.{PlainState}
use Rattle.evac_model.specs.History.{answer_in, after_entry, after_entries, IsLegalFrom, IsLegal}

-- the state after two lists of entries is that of the second from that of the first
pub after_entries-append : (n : ℕ) (state : PlainState) (es fs : List Entry) → after_entries n state (es ++ fs) ≡ after_entries n (after_entries n state es) fs
after_entries-append n state [] fs = refl
after_entries-append n state (e ∷ es) fs = after_entries-append n (after_entry n state e) es fs

-- the state after one more entry
pub after_entries_push : (n : ℕ) (state : PlainState) (es : List Entry) (e : Entry) → after_entries n state (es ++ e ∷ []) ≡ after_entry n (after_entries n state es) e
after_entries_push n state es e = after_entries-append n state es (e ∷ [])

pub legal_from_push : (n ticket : ℕ) (state : PlainState) (es : List Entry) (e : Entry) → IsLegalFrom n ticket state es → e.ticket ≡ ticket + length es → (answer_in n (after_entries n state es) e).0 ≡ e.reply → IsLegalFrom n ticket state (es ++ e ∷ [])
legal_from_push n ticket state [] e h t r = (omega arith, r, tt)
legal_from_push n ticket state (f ∷ es) e h t r =
    (h.0, h.1, legal_from_push n (ticket + 1) (after_entry n state f) es e h.2 (omega arith) r)

-- an entry with the next ticket, whose reply is its answer, makes a longer legal history
pub legal_push : (n : ℕ) (start : PlainState) (es : List Entry) (e : Entry) → IsLegal n start es → e.ticket ≡ length es → (answer_in n (after_entries n start es) e).0 ≡ e.reply → IsLegal n start (es ++ e ∷ [])
legal_push n start es e h t r = legal_from_push n 0 start es e h (omega arith) r

legal_from_tickets : (n ticket : ℕ) (state : PlainState) (es : List Entry) → IsLegalFrom n ticket state es → (i : ℕ) (e : Entry) → slice_get es i ≡ Some e → e.ticket ≡ ticket + i
legal_from_tickets n ticket state [] h i e g = absurd (cc)
legal_from_tickets n ticket state (f ∷ es) h zero e g =
    let same : f ≡ e = cc in ap (λ x. x.ticket) (sym same) ∙ h.0 ∙ omega arith
legal_from_tickets n ticket state (f ∷ es) h (suc i) e g =
    legal_from_tickets n (ticket + 1) (after_entry n state f) es h.2 i e g ∙ omega arith

-- entry i of a legal history has ticket i
pub legal_tickets : (n : ℕ) (start : PlainState) (es : List Entry) → IsLegal n start es → (i : ℕ) (e : Entry) → slice_get es i ≡ Some e → e.ticket ≡ i
legal_tickets n start es h i e g = legal_from_tickets n 0 start es h i e g ∙ omega arith

-- the first entries of a legal history are one
pub legal_prefix : (n ticket : ℕ) (state : PlainState) (es fs : List Entry) → IsLegalFrom n ticket state (es ++ fs) → IsLegalFrom n ticket state es
legal_prefix n ticket state [] fs h = tt
legal_prefix n ticket state (e ∷ es) fs h = (h.0, h.1, legal_prefix n (ticket + 1) (after_entry n state e) es fs h.2)
