-- What entries made, part by part, and which actions are whose in a journal that has one more.
use Rattle.std.proofs.Common.{◌≡◌, ◌≢◌, ℕ, ◌<◌, ◌≤◌, ◌==◌, nat_lt, cond, Bool, true, false, List, [], ◌∷◌, ◌++◌, length, take, drop, filter, Contains, append_assoc, append-nil, refl, sym, ap, ◌∙◌, subst, arith, eq-eqb, ne_eqb}
use Rattle.std.specs.List.{AllByRecursion}
use Rattle.std.proofs.lemmas.Bool.Decides.{nat_tests}
use Rattle.std.proofs.lemmas.List.{take-append-le, drop-append-le}
use Rattle.std.proofs.lemmas.List.Elements.{filter-append}
use Rattle.evac_model.specs.declared.entry.Entry.{Entry}
use Rattle.evac_model.specs.declared.space.SpaceAction.{SpaceAction}
use Rattle.evac_model.specs.Pairing.{caller_of, actions_of, IsMadeBy, AreMadeBy}
use Rattle.evac_model.proofs.Lists.{all_at}
use Rattle.evac_model.proofs.Pushes.{own_push, other_push}

-- ---- what entries made

pub made_append : (es fs : List Entry) (xs ys : List SpaceAction) → AreMadeBy es xs → AreMadeBy fs ys → AreMadeBy (es ++ fs) (xs ++ ys)
made_append [] fs xs ys h g = subst (λ (l : List SpaceAction). AreMadeBy fs (l ++ ys)) (sym h) g
made_append (e ∷ es) fs xs ys h g =
    (h.0, h.1 ++ ys, ap (λ (l : List SpaceAction). l ++ ys) h.2 ∙ append_assoc h.0 h.1 ys, h.3, made_append es fs h.1 ys h.4 g)

pub made_push : (es : List Entry) (e : Entry) (xs ys : List SpaceAction) → AreMadeBy es xs → IsMadeBy e ys → AreMadeBy (es ++ e ∷ []) (xs ++ ys)
made_push es e xs ys h g = made_append es (e ∷ []) xs ys h (ys, [], sym (append-nil ys), g, refl)

-- ---- whose actions

-- the first actions of a journal stay, and those behind them get one more
module _ (who at : ℕ) (journal : List SpaceAction) (x : SpaceAction) (in_journal : at ≤ length journal) where
  pub first_push : actions_of who (take at (journal ++ x ∷ [])) ≡ actions_of who (take at journal)
  first_push = ap (λ (l : List SpaceAction). actions_of who l) (take-append-le at journal (x ∷ []) in_journal)

  pub behind_push_own : caller_of x ≡ who → actions_of who (drop at (journal ++ x ∷ [])) ≡ actions_of who (drop at journal) ++ x ∷ []
  behind_push_own own = ap (λ (l : List SpaceAction). actions_of who l) (drop-append-le at journal (x ∷ []) in_journal) ∙ own_push who (drop at journal) x own

  pub behind_push_other : caller_of x ≢ who → actions_of who (drop at (journal ++ x ∷ [])) ≡ actions_of who (drop at journal)
  behind_push_other other = ap (λ (l : List SpaceAction). actions_of who l) (drop-append-le at journal (x ∷ []) in_journal) ∙ other_push who (drop at journal) x other

-- ---- entries before and behind a ticket

-- an entry of a list whose tickets are below one
pub ticket_below : (t : ℕ) (es : List Entry) (e : Entry) → AllByRecursion (λ x. x.ticket < t) es → Contains es e → e.ticket < t
ticket_below t es e below has = subst (λ (x : Entry). x.ticket < t) has.2 (all_at (λ (x : Entry). x.ticket < t) es below has.0 e has.1)

pub earlier_push : (es : List Entry) (e : Entry) (t : ℕ) → t ≤ e.ticket → filter (λ x. nat_lt x.ticket t) (es ++ e ∷ []) ≡ filter (λ x. nat_lt x.ticket t) es
earlier_push es e t le =
    let b : nat_lt e.ticket t ≡ false = grind (arith, nat_tests) in
    filter-append (λ (x : Entry). nat_lt x.ticket t) es (e ∷ [])
    ∙ (ap (λ (b : Bool). filter (λ (x : Entry). nat_lt x.ticket t) es ++ cond b (e ∷ []) []) b
    ∙ append-nil (filter (λ (x : Entry). nat_lt x.ticket t) es))

pub later_push : (es : List Entry) (e : Entry) (t : ℕ) → t < e.ticket → filter (λ x. nat_lt t x.ticket) (es ++ e ∷ []) ≡ filter (λ x. nat_lt t x.ticket) es ++ e ∷ []
later_push es e t lt =
    let b : nat_lt t e.ticket ≡ true = grind (arith, nat_tests) in
    filter-append (λ (x : Entry). nat_lt t x.ticket) es (e ∷ [])
    ∙ ap (λ (b : Bool). filter (λ (x : Entry). nat_lt t x.ticket) es ++ cond b (e ∷ []) []) b

pub all_earlier : (es : List Entry) (t : ℕ) → AllByRecursion (λ x. x.ticket < t) es → filter (λ x. nat_lt x.ticket t) es ≡ es
all_earlier [] t below = refl
all_earlier (e ∷ es) t below =
    let lt = below.0 in
    let b : nat_lt e.ticket t ≡ true = grind (arith, nat_tests) in
    ap (λ (b : Bool). cond b (e ∷ filter (λ (x : Entry). nat_lt x.ticket t) es) (filter (λ (x : Entry). nat_lt x.ticket t) es)) b
    ∙ ap (λ (l : List Entry). e ∷ l) (all_earlier es t below.1)

pub none_later : (es : List Entry) (t : ℕ) → AllByRecursion (λ x. x.ticket < t) es → filter (λ x. nat_lt t x.ticket) es ≡ []
none_later [] t below = refl
none_later (e ∷ es) t below =
    let lt = below.0 in
    let b : nat_lt t e.ticket ≡ false = grind (arith, nat_tests) in
    ap (λ (b : Bool). cond b (e ∷ filter (λ (x : Entry). nat_lt t x.ticket) es) (filter (λ (x : Entry). nat_lt t x.ticket) es)) b
    ∙ none_later es t below.1
