-- `Tickets` is kept by each step of a call.
use Rattle.std.proofs.Common.{◌≡◌, ℕ, eqb, cond, Bool, eq-eqb, ◌+◌, ◌^◌, ◌<◌, ◌≤◌, List, length, set, sym, refl, ap, ◌∙◌, subst, ⊎_elim, arith, Option, Some, None, IsSome}
use Rattle.std.specs.List.{count_by}
use Rattle.std.proofs.lemmas.List.Sums.{sum_by_push}
use Rattle.std.proofs.lemmas.Option.{same_Some, none-some}
use Rattle.std.proofs.lemmas.Grind.{common_steps}
use mathlib.Core.Logic.{dite}
use native.Mathlib.Decide.{ℕ_discrete, dec_le}
use Rattle.evac_model.specs.declared.names.PageNo.{PageNo}
use Rattle.evac_model.specs.declared.entry.Entry.{Entry}
use Rattle.evac_words.specs.Word.{taken_bit}
use Rattle.evac_words.specs.Table.{entry_index}
use Rattle.core_state.specs.declared.held.Held.{Held}
use Rattle.core_state.specs.declared.keeper.Keeper.{Keeper}
use Rattle.core_state.specs.declared.opening.Opening.{Opening}
use Rattle.core_state.specs.declared.step.CallDone.{CallDone}
use Rattle.core_state.specs.declared.step.Step.{Step}
use Rattle.core_state.specs.declared.step.Step.TheVariants.{Take, Draw, Load, Store, Mark, Release}
use Rattle.core_state.specs.declared.view.View.{View}
use Rattle.core_state.specs.Words.{next_ticket_of, entry_word_of}
use Rattle.core_state.specs.Views.{Has}
use Rattle.core_state.specs.Pages.{number_or}
use Rattle.core_state.specs.Parts.{Shaped, Tickets, is_at, drawn_as, uses_of, uses}
use Rattle.core_state.specs.Steps.{MayTake, MayLetGo, MayEnd, held_after_take, held_page, held_ticket, word_after_release, entry_of, after_take, after_draw, after_release, Allowed}
use Rattle.core_state.specs.Stepped.{words_after, views_after}
use Rattle.core_state.proofs.Lists.{at_set, sum_by_replaced, member_le_sum_by}
use Rattle.core_state.proofs.WordsAt.{next_ticket-elsewhere, next_ticket-here, next_ticket-entry, first_within}
use Rattle.core_state.proofs.Holding.{for_some, some_is, Drawing, drawing, with_ticket-some, held_after_take-free, held_after_take-busy, drawn_as-take, Alike}
use Rattle.core_state.proofs.TurnSteps.{alike-load, alike-store, alike-mark}

-- no ticket was drawn in a page that was just taken
pub undrawn-take : (cells : ℕ) (page : PageNo) (found : ℕ) (h : Held) (t : ℕ) → held_after_take cells page found ≡ Some h → h.ticket ≡ Some t → ⊥
undrawn-take cells page found h t is drawn = dite (ℕ_discrete (taken_bit found) 0)
    (λ free. let s = same_Some _ _ (sym (held_after_take-free cells page found free) ∙ is) in none-some t (ap (λ (x : Held). x.ticket) s ∙ drawn))
    (λ busy. none-some h (sym (held_after_take-busy cells page found busy) ∙ is))

-- a ticket drawn by a holder is used, and so is below word 0
pub drawn-used : (views : List View) (i : ℕ) (v : View) (h : Held) (u : ℕ) → Has views i v → v.held ≡ Some h → h.ticket ≡ Some u → 1 ≤ uses u views
drawn-used views i v h u at holds drawn = let c = member_le_sum_by (λ x. uses_of u x) views i v at in
    let d : drawn_as u v.held ≡ 1 = ap (λ m. drawn_as u m) holds ∙ ap (λ m. is_at u m) drawn ∙ ap (λ (t : Bool). cond t 1 0) (eq-eqb u u refl) in omega arith

-- a ticket that is used is one of those drawn
pub used-drawn : (o : Opening) (words : List ℕ) (views : List View) (t : ℕ) → Tickets o words views → 1 ≤ uses t views → (o.first ≤ t) × (t < next_ticket_of words)
used-drawn o words views t k used = (
  dite (dec_le o.first t) (λ low. low) (λ before. absurd (let a = k.none_before t (omega arith) in omega arith)),
  dite (dec_le (next_ticket_of words) t) (λ high. absurd (let a = k.none_from t high in omega arith)) (λ below. omega arith),
)

module _ (o : Opening) (words : List ℕ) (views : List View) (i : ℕ) (v : View) (k : Tickets o words views) (at : Has views i v) where
  -- a step with which word 0 grows by g, by a seat that uses the tickets in between, and has g less of those left
  tickets-grown : (g j n : ℕ) (w : View) (new : ℕ → ℕ) → next_ticket_of (set words j n) ≡ next_ticket_of words + g
      → ((t : ℕ) → (uses_of t w ≡ uses_of t v + new t) × (t < next_ticket_of words → new t ≡ 0) × (next_ticket_of words + g ≤ t → new t ≡ 0) × (next_ticket_of words ≤ t → t < next_ticket_of words + g → new t ≡ 1))
      → w.left + g ≡ v.left → w.caller ≡ v.caller
      → ((h : Held) (t : ℕ) → w.held ≡ Some h → h.ticket ≡ Some t → IsSome v.caller)
      → Tickets o (set words j n) (set views i w)
  tickets-grown g j n w new z used left caller drawn = record {
    from_first = (let a = k.from_first in omega arith);
    each_once = λ t low high. let a = total t in let e = (used t).1 in let f = (used t).3 in dite (dec_le (next_ticket_of words) t)
        (λ from. let c = k.none_from t from in let d = f from (omega arith) in omega arith)
        (λ before. let c = k.each_once t low (omega arith) in let d = e (omega arith) in omega arith);
    none_before = λ t low. let a = total t in let c = k.none_before t low in let f = k.from_first in let d = (used t).1 (omega arith) in omega arith;
    none_from = λ t high. let a = total t in let c = k.none_from t (omega arith) in let d = (used t).2 (omega arith) in omega arith;
    budget_is = (let a = k.budget_is in let l = sum_by_replaced (λ x. x.left) views i v w at in omega arith);
    budget_small = k.budget_small;
    caller_with_left = λ x y has some. ⊎_elim
        (λ q. subst (λ (y : View). IsSome y.caller) q.1 (subst (λ (c : Option ℕ). IsSome c) (sym caller) (k.caller_with_left i v at (let e : y.left ≡ w.left = ap (λ (u : View). u.left) (sym q.1) in omega arith))))
        (λ q. k.caller_with_left x y q.1 some)
        (at_set views i x w y has);
    caller_with_drawn = λ x y h t has is on. ⊎_elim
        (λ q. subst (λ (u : View). IsSome u.caller) q.1 (subst (λ (c : Option ℕ). IsSome c) (sym caller) (drawn h t (ap (λ (u : View). u.held) q.1 ∙ is) on)))
        (λ q. k.caller_with_drawn x y h t q.1 is on)
        (at_set views i x w y has);
  } where
    total : (t : ℕ) → uses t (set views i w) ≡ uses t views + new t
    total t = let a = sum_by_replaced (λ x. uses_of t x) views i v w at in let e = (used t).0 in omega arith

  -- a step that leaves word 0, by a seat that goes on using the tickets that it used
  pub tickets-elsewhere : (j n : ℕ) (w : View) → next_ticket_of (set words j n) ≡ next_ticket_of words
      → ((t : ℕ) → uses_of t w ≡ uses_of t v) → w.left ≡ v.left → w.caller ≡ v.caller
      → ((h : Held) (t : ℕ) → w.held ≡ Some h → h.ticket ≡ Some t → IsSome v.caller)
      → Tickets o (set words j n) (set views i w)
  tickets-elsewhere j n w z same left caller drawn = tickets-grown 0 j n w (λ t. 0) (omega arith)
      (λ t. let e = same t in (omega arith, λ low. refl, λ high. refl, λ low high. absurd (omega arith))) (omega arith) caller drawn

  pub tickets-alike : (j n : ℕ) (w : View) → next_ticket_of (set words j n) ≡ next_ticket_of words → Alike v w → Tickets o (set words j n) (set views i w)
  tickets-alike j n w z a = tickets-elsewhere j n w z
      (λ t. let d = a.held.drawn t in let b = ap (λ (es : List Entry). count_by (λ e. eqb e.ticket t) es) a.entries in omega arith)
      a.left a.caller
      (λ h t is on. let q = a.held.before h is in k.caller_with_drawn i v q.0 t at q.1 (sym q.4 ∙ on))

  pub tickets-take : (w : Keeper) (page : PageNo) (n : ℕ) → MayTake o v page.0 → Tickets o (set words (entry_index page.0) n) (set views i (after_take w v page (entry_word_of words page.0)))
  tickets-take w page n may = tickets-elsewhere (entry_index page.0) n (after_take w v page (entry_word_of words page.0)) (next_ticket-entry words page.0 n)
      (λ t. let a = drawn_as-take v.cells t page (entry_word_of words page.0) in let b : drawn_as t v.held ≡ 0 = ap (λ m. drawn_as t m) may.holds_none in omega arith)
      refl refl
      (λ h t is on. absurd (undrawn-take v.cells page (entry_word_of words page.0) h t is on))

  -- the next ticket is far from wrapping
  pub next_ticket_small : 0 < v.left → next_ticket_of words + 1 < 2 ^ 33
  next_ticket_small some_left = let a = k.budget_is in let b = k.budget_small in let c = member_le_sum_by (λ x. x.left) views i v at in omega arith

  pub tickets-draw : (h : Held) → Drawing v h → 0 < length words → Tickets o (set words 0 (next_ticket_of words + 1)) (set views i (after_draw v (next_ticket_of words)))
  tickets-draw h may in_words = tickets-grown 1 0 (next_ticket_of words + 1) (after_draw v (next_ticket_of words)) (λ t. is_at t (Some (next_ticket_of words))) (next_ticket-here words (next_ticket_of words + 1) in_words)
      (λ t. let b : drawn_as t v.held ≡ 0 = ap (λ m. drawn_as t m) may.holds ∙ ap (λ m. is_at t m) may.undrawn in
      let c = ap (λ m. drawn_as t m) (with_ticket-some v.held h (next_ticket_of words) may.holds) in
      (omega arith, λ low. grind (arith, common_steps), λ high. grind (arith, common_steps), λ low high. grind (arith, common_steps)))
      (let own = may.leave in omega arith) refl (λ g t is on. k.caller_with_left i v at may.leave)

  -- a release without an entry
  pub tickets-let_go : (h : Held) (n : ℕ) → v.held ≡ Some h → h.ticket ≡ None → Tickets o (set words (entry_index h.page.0) n) (set views i (after_release v None))
  tickets-let_go h n holds undrawn = tickets-elsewhere (entry_index h.page.0) n (after_release v None) (next_ticket-entry words h.page.0 n)
      (λ t. let a : drawn_as t v.held ≡ 0 = ap (λ m. drawn_as t m) holds ∙ ap (λ m. is_at t m) undrawn in omega arith)
      refl refl
      (λ g t is on. absurd (none-some g is))

  -- a release with an entry
  pub tickets-end : (h : Held) (u n : ℕ) (d : CallDone) → v.held ≡ Some h → h.ticket ≡ Some u → Tickets o (set words (entry_index h.page.0) n) (set views i (after_release v (Some d)))
  tickets-end h u n d holds drawn = tickets-elsewhere (entry_index h.page.0) n (after_release v (Some d)) (next_ticket-entry words h.page.0 n)
      (λ t. let a = sum_by_push (λ (x : Entry). cond (eqb x.ticket t) 1 0) v.entries (entry_of v d) in
      let b : drawn_as t v.held ≡ is_at t (Some u) = ap (λ m. drawn_as t m) holds ∙ ap (λ m. is_at t m) drawn in
      let c : is_at t (Some (held_ticket v.held)) ≡ is_at t (Some u) = ap (λ (m : ℕ). is_at t (Some m)) (ticket_is) in omega arith)
      refl refl
      (λ g t is on. absurd (none-some g is)) where
        ticket_is : held_ticket v.held ≡ u
        ticket_is = ap (λ m. held_ticket m) holds ∙ ap (λ m. number_or m 0) drawn

pub steps_keep_tickets : (k : Keeper) (o : Opening) (words : List ℕ) (views : List View) (seat : ℕ) (v : View) (step : Step) → Has views seat v → Shaped o words → Tickets o words views → Allowed o v step
    → Tickets o (words_after o words v step) (views_after k o words views seat v step)
steps_keep_tickets k o words views seat v (Take page) at s t may = tickets-take o words views seat v t at k page _ may
steps_keep_tickets k o words views seat v Draw at s t may = let d = drawing v may in tickets-draw o words views seat v t at d.0 d.1 (first_within o words s)
steps_keep_tickets k o words views seat v (Load cell) at s t may = tickets-alike o words views seat v t at _ _ _ (next_ticket-elsewhere words _ _ (λ e. absurd (omega arith))) (alike-load v cell _)
steps_keep_tickets k o words views seat v (Store frame cell value) at s t may = tickets-alike o words views seat v t at _ _ _ (next_ticket-elsewhere words _ _ (λ e. absurd (omega arith))) (alike-store v frame cell value)
steps_keep_tickets k o words views seat v (Mark frame) at s t may = tickets-alike o words views seat v t at _ _ _ (next_ticket-elsewhere words _ _ (λ e. absurd (omega arith))) (alike-mark v frame)
steps_keep_tickets k o words views seat v (Release None) at s t may = let p = for_some v.held (MayLetGo o v) may.1 in
    subst (λ (q : ℕ). Tickets o (set words (entry_index q) (word_after_release v.held None)) (set views seat (after_release v None))) (sym (ap (λ m. held_page m) p.1))
    (tickets-let_go o words views seat v t at p.0 _ p.1 p.2.undrawn)
steps_keep_tickets k o words views seat v (Release (Some d)) at s t may = let p = for_some v.held (MayEnd o d) may.1 in let u = some_is (p.0).ticket p.2.drawn in
    subst (λ (q : ℕ). Tickets o (set words (entry_index q) (word_after_release v.held (Some d))) (set views seat (after_release v (Some d)))) (sym (ap (λ m. held_page m) p.1))
    (tickets-end o words views seat v t at p.0 u.0 _ d p.1 u.1)
