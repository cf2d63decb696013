-- The tickets of a view's entries rise after each step on a mapping and each hand-over, too: neither gives a ticket
-- or an entry.
use Rattle.std.proofs.Common.{◌≡◌, List, refl, sym, ap, ◌∙◌, Option, Some, None}
use Rattle.std.proofs.lemmas.Option.{same_Some, none-some}
use Rattle.core_state.specs.declared.hand.HandFrame.{HandFrame}
use Rattle.core_state.specs.declared.held.Held.{Held}
use Rattle.core_state.specs.declared.keeper.Keeper.{Keeper}
use Rattle.core_state.specs.declared.step.MoveStep.{MoveStep}
use Rattle.core_state.specs.declared.step.MoveStep.TheVariants.{Moving, Remap, Map, Unmap}
use Rattle.core_state.specs.declared.view.View.{View}
use Rattle.core_state.specs.MoveSteps.{held_after_begin, held_after_remap, held_after_map, held_after_unmap, view_after_move}
use Rattle.replay.specs.Keeping.{IsInOrder}

-- the view with what it holds, with a ticket or without
record IsSameTicket (held : Option Held) (h : Held) : Type 0 where
  pub before : Held
  pub holds : held ≡ Some before
  pub ticket : before.ticket ≡ h.ticket

pub hand_in_order : (v : View) (hand : List (Option HandFrame)) → IsInOrder v → IsInOrder (record v { hand = hand })
hand_in_order v hand r = record { rising = r.rising; seen = r.seen; drawn = r.drawn }

same_before : (v : View) (step : MoveStep) (held : Option Held) → v.held ≡ held → (k : Keeper) (h : Held) → (view_after_move k v step).held ≡ Some h → IsSameTicket v.held h
same_before v Moving None e k h is = absurd (none-some h (sym (ap (λ (m : Option Held). held_after_begin v m) e) ∙ is))
same_before v Moving (Some g) e k h is = record {
  before = g;
  holds = e;
  ticket = ap (λ (x : Held). x.ticket) (same_Some _ h (sym (ap (λ (m : Option Held). held_after_begin v m) e) ∙ is));
}
same_before v (Remap frame) None e k h is = absurd (none-some h (sym (ap (λ (m : Option Held). held_after_remap m frame.0) e) ∙ is))
same_before v (Remap frame) (Some g) e k h is = record {
  before = g;
  holds = e;
  ticket = ap (λ (x : Held). x.ticket) (same_Some _ h (sym (ap (λ (m : Option Held). held_after_remap m frame.0) e) ∙ is));
}
same_before v (Map frame kind) None e k h is = absurd (none-some h (sym (ap (λ (m : Option Held). held_after_map v m frame.0 kind) e) ∙ is))
same_before v (Map frame kind) (Some g) e k h is = record {
  before = g;
  holds = e;
  ticket = ap (λ (x : Held). x.ticket) (same_Some _ h (sym (ap (λ (m : Option Held). held_after_map v m frame.0 kind) e) ∙ is));
}
same_before v Unmap None e k h is = absurd (none-some h (sym (ap (λ (m : Option Held). held_after_unmap v m) e) ∙ is))
same_before v Unmap (Some g) e k h is = record {
  before = g;
  holds = e;
  ticket = ap (λ (x : Held). x.ticket) (same_Some _ h (sym (ap (λ (m : Option Held). held_after_unmap v m) e) ∙ is));
}

pub move_in_order : (v : View) (k : Keeper) (step : MoveStep) → IsInOrder v → IsInOrder (view_after_move k v step)
move_in_order v k Moving r = record {
  rising = r.rising;
  seen = r.seen;
  drawn = λ h t is ticket. let g = same_before v Moving v.held refl k h is in r.drawn g.before t g.holds (g.ticket ∙ ticket);
}
move_in_order v k (Remap frame) r = record {
  rising = r.rising;
  seen = r.seen;
  drawn = λ h t is ticket. let g = same_before v (Remap frame) v.held refl k h is in r.drawn g.before t g.holds (g.ticket ∙ ticket);
}
move_in_order v k (Map frame kind) r = record {
  rising = r.rising;
  seen = r.seen;
  drawn = λ h t is ticket. let g = same_before v (Map frame kind) v.held refl k h is in r.drawn g.before t g.holds (g.ticket ∙ ticket);
}
move_in_order v k Unmap r = record {
  rising = r.rising;
  seen = r.seen;
  drawn = λ h t is ticket. let g = same_before v Unmap v.held refl k h is in r.drawn g.before t g.holds (g.ticket ∙ ticket);
}
