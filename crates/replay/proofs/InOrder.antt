-- The tickets of a view's entries rise, before and after each of its steps.
use Rattle.std.proofs.Common.{◌≡◌, ℕ, ◌+◌, ◌<◌, ◌≤◌, List, [], ◌∷◌, ◌++◌, sym, ap, ◌∙◌, subst, arith, Option, Some, None}
use Rattle.std.specs.List.{AllByRecursion}
use Rattle.std.proofs.lemmas.Option.{same_Some, none-some}
use Rattle.evac_model.specs.declared.entry.Entry.{Entry}
use Rattle.evac_model.proofs.Lists.{all_push, all_weaker}
use Rattle.core_state.specs.declared.held.Held.{Held}
use Rattle.core_state.specs.declared.keeper.Keeper.{Keeper}
use Rattle.core_state.specs.declared.opening.Opening.{Opening}
use Rattle.core_state.specs.declared.step.CallDone.{CallDone}
use Rattle.core_state.specs.declared.step.Step.{Step}
use Rattle.core_state.specs.declared.step.Step.TheVariants.{Take, Draw, Load, Store, Mark, Release}
use Rattle.core_state.specs.declared.view.View.{View}
use Rattle.core_state.specs.Pages.{number_or}
use Rattle.core_state.specs.Parts.{Bounds}
use Rattle.core_state.specs.Steps.{with_ticket, held_ticket, entry_of, MayEnd, Allowed, view_after, after_draw, after_release}
use Rattle.core_state.specs.Stepped.{word_found}
use Rattle.core_state.specs.Views.{Has}
use Rattle.core_state.proofs.TicketSteps.{undrawn-take}
use Rattle.core_state.proofs.Holding.{for_some, some_is, held_alike-load, held_alike-store}
use Rattle.replay.specs.Keeping.{AreRising, IsInOrder}

-- ---- a view without entries

-- one that has drawn no ticket
pub undrawn_in_order : (v : View) → v.entries ≡ [] → ((h : Held) (t : ℕ) → v.held ≡ Some h → ¬ (h.ticket ≡ Some t)) → IsInOrder v
undrawn_in_order v none undrawn = record {
  rising = subst (λ (es : List Entry). AreRising es) (sym none) tt;
  seen = subst (λ (es : List Entry). AllByRecursion (λ e. e.ticket < v.seen) es) (sym none) tt;
  drawn = λ h t is ticket. absurd (undrawn h t is ticket);
}

-- one that holds no page
pub none_in_order : (v : View) → v.entries ≡ [] → v.held ≡ None → IsInOrder v
none_in_order v none free = undrawn_in_order v none (λ h t is ticket. none-some h (sym free ∙ is))

-- ---- one more entry, behind all others

rising_push : (es : List Entry) (e : Entry) → AreRising es → AllByRecursion (λ x. x.ticket < e.ticket) es → AreRising (es ++ e ∷ [])
rising_push [] e rising below = (tt, tt)
rising_push (x ∷ xs) e rising below = (all_push (λ (y : Entry). x.ticket < y.ticket) xs rising.0 e below.0, rising_push xs e rising.1 below.1)

-- ---- the ticket held after a step

ticket_drawn : (m : Option Held) (found : ℕ) (h : Held) (t : ℕ) → with_ticket m found ≡ Some h → h.ticket ≡ Some t → found ≡ t
ticket_drawn None found h t is ticket = absurd (none-some h is)
ticket_drawn (Some x) found h t is ticket = same_Some found t (ap (λ (y : Held). y.ticket) (same_Some (record x { ticket = Some found }) h is) ∙ ticket)

-- ---- each step

module _ (o : Opening) (words : List ℕ) (v : View) (r : IsInOrder v) where
  draw_in_order : (found : ℕ) → v.seen ≤ found → IsInOrder (after_draw v found)
  draw_in_order found low = record {
    rising = r.rising;
    seen = all_weaker (λ (e : Entry). e.ticket < v.seen) (λ e. e.ticket < found + 1) (λ e lt. omega arith) v.entries r.seen;
    drawn = λ h t is ticket. let same = ticket_drawn v.held found h t is ticket in
        (omega arith, all_weaker (λ (e : Entry). e.ticket < v.seen) (λ e. e.ticket < t) (λ e lt. omega arith) v.entries r.seen);
  }

  end_in_order : (d : CallDone) (h : Held) (t : ℕ) → v.held ≡ Some h → h.ticket ≡ Some t → IsInOrder (after_release v (Some d))
  end_in_order d h t is ticket =
      let now : held_ticket v.held ≡ t = ap (λ (m : Option Held). held_ticket m) is ∙ ap (λ (n : Option ℕ). number_or n 0) ticket in
      let low = r.drawn h t is ticket in
      record {
        rising = rising_push v.entries (entry_of v d) r.rising (all_weaker (λ (e : Entry). e.ticket < t) (λ e. e.ticket < held_ticket v.held) (λ e lt. omega arith) v.entries low.1);
        seen = all_push (λ (e : Entry). e.ticket < v.seen) v.entries r.seen (entry_of v d) (let lt = low.0 in omega arith);
        drawn = λ g u none. absurd (none-some g none);
      }

  pub step_in_order : (k : Keeper) (views : List View) (seat : ℕ) → Has views seat v → Bounds o words views → (step : Step) → Allowed o v step → IsInOrder (view_after k v step (word_found o words v step))
  step_in_order k views seat has b (Take page) may = record {
    rising = r.rising;
    seen = r.seen;
    drawn = λ h t is ticket. absurd (undrawn-take v.cells page _ h t is ticket);
  }
  step_in_order k views seat has b Draw may = draw_in_order _ (b.seen_low seat v has)
  step_in_order k views seat has b (Load cell) may = record {
    rising = r.rising;
    seen = r.seen;
    drawn = λ h t is ticket. let g = (held_alike-load v.held cell _).before h is in r.drawn g.0 t g.1 (sym g.4 ∙ ticket);
  }
  step_in_order k views seat has b (Store frame cell value) may = record {
    rising = r.rising;
    seen = r.seen;
    drawn = λ h t is ticket. let g = (held_alike-store v.held frame.0 cell value).before h is in r.drawn g.0 t g.1 (sym g.4 ∙ ticket);
  }
  step_in_order k views seat has b (Mark frame) may = record { rising = r.rising; seen = r.seen; drawn = r.drawn }
  step_in_order k views seat has b (Release None) may = record { rising = r.rising; seen = r.seen; drawn = λ h t none. absurd (none-some h none) }
  step_in_order k views seat has b (Release (Some d)) may =
      let p = for_some v.held (MayEnd o d) may.1 in
      let u = some_is (p.0).ticket p.2.drawn in
      end_in_order d p.0 u.0 p.1 u.1
