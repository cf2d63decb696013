-- The slots of the plain machine as the map of its pages.
use Rattle.std.proofs.Common.{◌≡◌, ℕ, suc, zero, ◌+◌, ◌<◌, List, [], ◌∷◌, length, map, set, get_or, drop, ◌-◌, ◌≤◌, Option, None, Some, refl, sym, ap, subst, ◌∙◌, add-one, drop-cons, arith}
use Rattle.std.proofs.lemmas.List.{map-set, length-map}
use Rattle.std.specs.List.{AllByRecursion}
use Rattle.std.specs.FinMap.{empty, insert, from_entries}
use Rattle.evac_model.specs.declared.slot.Slot.{Slot}
use Rattle.evac_model.specs.declared.scenario.StartPage.{StartPage}
use Rattle.evac_model.specs.declared.call.Call.{Call}
use Rattle.evac_model.specs.Geometry.{Sizes}
use Rattle.evac_model.specs.Page.{Page, new_page}
use Rattle.evac_model.specs.Answer.{answer}
use Rattle.evac_model.specs.PlainMachine.{PlainMachine}
use Rattle.evac_model.proofs.Lists.{all_at, all_set}
use Rattle.evac_model.specs.State.{PlainState, page_at, with_page, start_state}
use Rattle.evac_model.specs.StartPages.{IsStartPage, AreStartPages}
use Rattle.evac_model.specs.Slots.{page_of, IsSlot, IsEmptySlot}
use Rattle.evac_model.specs.Tables.{with_entry, numbered, table_map}
use Rattle.evac_model.proofs.Tables.{get-table_map, table_map-set_some, table_map-set_none}

-- the plain state of a list of slots
abbrev pub slots_state : List Slot → PlainState
slots_state slots = table_map (map page_of slots)

table_map-set : (xs : List Page) (k : ℕ) (x : Page) → k < length xs → table_map (set xs k x) ≡ with_page (table_map xs) k x
table_map-set xs k None h = table_map-set_none xs k h
table_map-set xs k (Some m) h = table_map-set_some xs k m h

abbrev pub machine : Sizes → List Slot → PlainMachine
machine g slots = record { sizes = g; state = slots_state slots }

-- a new slot in a place is that page's new value
pub slots_state-set : (slots : List Slot) (k : ℕ) (s : Slot) → k < length slots → slots_state (set slots k s) ≡ with_page (slots_state slots) k (page_of s)
slots_state-set slots k s h =
    ap table_map (map-set page_of slots k s) ∙ table_map-set (map page_of slots) k (page_of s) (omega (arith, length-map slots page_of))

page_at_place : (slots : List Slot) (k : ℕ) (s : Slot) → k < length slots → s ≡ get_or slots k s → get_or (map page_of slots) k None ≡ page_of s
page_at_place [] k s h e = absurd (omega arith)
page_at_place (x ∷ slots) zero s h e = ap page_of (sym e)
page_at_place (x ∷ slots) (suc k) s h e = page_at_place slots k s (omega arith) e

-- a page is that of its slot
pub page_at-slots_state : (slots : List Slot) (k : ℕ) (s : Slot) → k < length slots → s ≡ get_or slots k s → page_at (slots_state slots) k ≡ page_of s
page_at-slots_state slots k s h e = get-table_map (map page_of slots) k ∙ page_at_place slots k s h e

numbered_empty : (n k : ℕ) (slots : List Slot) → AllByRecursion (IsEmptySlot n) slots → numbered k (map page_of slots) ≡ []
numbered_empty n k [] h = refl
numbered_empty n k (s ∷ slots) h =
    ap (λ x. with_entry k x (numbered (k + 1) (map page_of slots))) h.0.unmapped ∙ numbered_empty n (k + 1) slots h.1

-- empty slots make the state without pages
pub slots_state_empty : (n : ℕ) (slots : List Slot) → AllByRecursion (IsEmptySlot n) slots → slots_state slots ≡ empty
slots_state_empty n slots h = ap from_entries (numbered_empty n 0 slots h)

-- One more start page. They are mapped from the last one on, as the map of their entries is made.
pub start_page_mapped : (n : ℕ) (slots : List Slot) (start : List StartPage) (j : ℕ) (p d : StartPage) (s : Slot) → j < length start → p ≡ get_or start j d → p.page.0 < length slots → page_of s ≡ Some (new_page n p.kind) → slots_state slots ≡ start_state n (drop (j + 1) start) → slots_state (set slots p.page.0 s) ≡ start_state n (drop j start)
start_page_mapped n slots start j p d s h e k m r =
    let whole : drop j start ≡ p ∷ drop (j + 1) start = rw (add-one, drop-cons start j d) (ap (λ x. x ∷ drop (suc j) start) (sym e)) in
    slots_state-set slots p.page.0 s k ∙ ap (with_page (slots_state slots) p.page.0) m ∙ ap (λ t. insert t p.page.0 (new_page n p.kind)) r ∙ ap (start_state n) (sym whole)

-- a step of the loop that maps the start pages
pub record IsMappedFrom (g : Sizes) (slots : List Slot) (start : List StartPage) (left : ℕ) : Type 0 where
  pub each : AllByRecursion (IsSlot g.cells) slots
  pub state : slots_state slots ≡ start_state g.cells (drop left start)

pub start_step : (g : Sizes) (slots : List Slot) (start : List StartPage) (left : ℕ) (p d : StartPage) (own new : Slot) → AreStartPages g start → length slots ≡ g.pages → 0 < left → left ≤ length start → IsMappedFrom g slots start left → p ≡ get_or start (left - 1) d → page_of new ≡ Some (new_page (length (get_or slots p.page.0 own).cells.items) p.kind) → IsSlot (length (get_or slots p.page.0 own).cells.items) new → IsMappedFrom g (set slots p.page.0 new) start (left - 1)
start_step g slots start left p d own new are count more within done e page slot =
    let here : IsStartPage g p = subst (IsStartPage g) (sym e) (all_at (IsStartPage g) start are.each (left - 1) d (omega arith)) in
    let lt : p.page.0 < length slots = omega (arith, here.page) in
    let size : length (get_or slots p.page.0 own).cells.items ≡ g.cells = (all_at (IsSlot g.cells) slots done.each p.page.0 own lt).cells in
    let next : left ≡ left - 1 + 1 = omega arith in
    record {
      each = all_set (IsSlot g.cells) slots done.each p.page.0 new (subst (λ n. IsSlot n new) size slot);
      state =
          start_page_mapped g.cells slots start (left - 1) p d new (omega arith) e lt
          (page ∙ ap (λ n. Some (new_page n p.kind)) size)
          (done.state ∙ ap (λ j. start_state g.cells (drop j start)) next);
    }

-- the answer of a slot is that of the machine whose slot it is
pub answer_of_slot : (a : PlainMachine) (g : Sizes) (slots : List Slot) (k : ℕ) (s : Slot) (call : Call) (refused : Option ℕ) → machine g slots ≡ a → AllByRecursion (IsSlot g.cells) slots → k < length slots → s ≡ get_or slots k s → answer (length s.cells.items) (page_of s) call refused ≡ answer a.sizes.cells (page_at a.state k) call refused
answer_of_slot a g slots k s call refused v each lt e =
    let own : IsSlot g.cells s = subst (IsSlot g.cells) (sym e) (all_at (IsSlot g.cells) slots each k s lt) in
    ap (λ n. answer n (page_of s) call refused) own.cells
    ∙ ap (λ m. answer g.cells m call refused) (sym (page_at-slots_state slots k s lt e))
    ∙ ap (λ b. answer b.sizes.cells (page_at b.state k) call refused) v

-- the state after a new slot holds the page that the answer leaves
pub state_after : (a : PlainMachine) (g : Sizes) (slots : List Slot) (k : ℕ) (new : Slot) (p : Page) → machine g slots ≡ a → k < length slots → page_of new ≡ p → slots_state (set slots k new) ≡ with_page a.state k p
state_after a g slots k new p v lt e =
    slots_state-set slots k new lt ∙ ap (with_page (slots_state slots) k) e ∙ ap (λ b. with_page b.state k p) v
