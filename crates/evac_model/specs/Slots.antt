-- What a slot of the plain machine holds, and what a call does to it.
use Rattle.std.specs.Prelude.{◌≡◌, ℕ, ◌≤◌, cond, length, Option, None, Some}
use Rattle.evac_model.specs.declared.slot.Slot.{Slot}
use Rattle.evac_model.specs.declared.call.Call.{Call}
use Rattle.evac_model.specs.declared.reply.Reply.{Reply}
use Rattle.evac_model.specs.Page.{Page}
use Rattle.evac_model.specs.Answer.{answer}

-- the page that a slot holds
abbrev pub page_of : Slot → Page
page_of s = cond s.mapped (Some (record { cells = s.cells.items; kind = s.kind; pins = s.pins })) None

-- a slot of a machine with n cells in a page
pub record IsSlot (n : ℕ) (s : Slot) : Type 0 where
  pub cells : length s.cells.items ≡ n
  pub pins : s.pins ≤ 63

-- a slot whose page is unmapped
pub record IsEmptySlot (n : ℕ) (s : Slot) : Type 0 where
  pub slot : IsSlot n s
  pub unmapped : page_of s ≡ None

-- The reply is the call's answer at the page that the slot held, and the slot holds the page that the
-- answer leaves, with as many cells.
pub record IsAnswered (old new : Slot) (call : Call) (refused : Option ℕ) (r : Reply) : Type 0 where
  pub reply : r ≡ (answer (length old.cells.items) (page_of old) call refused).0
  pub page : page_of new ≡ (answer (length old.cells.items) (page_of old) call refused).1
  pub slot : IsSlot (length old.cells.items) new
