-- Laws of the answers of calls.
use Rattle.std.proofs.Common.{◌≡◌, ℕ, ◌+◌, ◌-◌, ◌==◌, Bool, true, false, cond, Option, None, Some, refl}
use Rattle.evac_model.specs.declared.call.Call.{Call}
use Rattle.evac_model.specs.declared.call.Call.TheVariants.{Alloc, Free, Read, Write, Add, Pin, Unpin}
use Rattle.evac_model.specs.declared.reply.Reply.{Reply}
use Rattle.evac_model.specs.declared.reply.Reply.TheVariants.{Done, Pinned, PinLimit, NotPinned}
use Rattle.evac_model.specs.Page.{Page, PlainPage}
use Rattle.evac_model.specs.Answer.{answer}
use Rattle.evac_model.specs.Laws.{AsksForFrame, IsRefusal}

abbrev either : Bool → Reply × Page → Reply × Page → Reply × Page
either b x y = cond b x y

pub one_answer : (n : ℕ) (page : Page) (call : Call) (refused : Option ℕ) → ¬ AsksForFrame page call → answer n page call refused ≡ answer n page call None
one_answer n (Some m) call refused h = refl
one_answer n None (Alloc kind) refused h = absurd (h tt)
one_answer n None Free refused h = refl
one_answer n None (Read first count) refused h = refl
one_answer n None (Write first values) refused h = refl
one_answer n None (Add cell value) refused h = refl
one_answer n None Pin refused h = refl
one_answer n None Unpin refused h = refl

pub unchanged : (n : ℕ) (page : Page) (call : Call) (refused : Option ℕ) → IsRefusal (answer n page call refused).0 → (answer n page call refused).1 ≡ page
unchanged n None (Alloc kind) None h = absurd h
unchanged n None (Alloc kind) (Some at) h = refl
unchanged n None Free refused h = refl
unchanged n None (Read first count) refused h = refl
unchanged n None (Write first values) refused h = refl
unchanged n None (Add cell value) refused h = refl
unchanged n None Pin refused h = refl
unchanged n None Unpin refused h = refl
unchanged n (Some m) (Alloc kind) refused h = refl
unchanged n (Some m) Free refused h =
    elim (m.pins == 0) as (λ b. IsRefusal (either b (Done, None) (Pinned, Some m)).0 → (either b (Done, None) (Pinned, Some m)).1 ≡ Some m) [ true ↦ λ r. absurd r | false ↦ λ r. refl ] h
unchanged n (Some m) (Read first count) refused h = absurd h
unchanged n (Some m) (Write first values) refused h = absurd h
unchanged n (Some m) (Add cell value) refused h = absurd h
unchanged n (Some m) Pin refused h =
    let more : PlainPage = record m { pins = m.pins + 1 } in
    elim (m.pins == 63) as (λ b. IsRefusal (either b (PinLimit, Some m) (Done, Some more)).0 → (either b (PinLimit, Some m) (Done, Some more)).1 ≡ Some m) [ true ↦ λ r. refl | false ↦ λ r. absurd r ] h
unchanged n (Some m) Unpin refused h =
    let fewer : PlainPage = record m { pins = m.pins - 1 } in
    elim (m.pins == 0) as (λ b. IsRefusal (either b (NotPinned, Some m) (Done, Some fewer)).0 → (either b (NotPinned, Some m) (Done, Some fewer)).1 ≡ Some m) [ true ↦ λ r. refl | false ↦ λ r. absurd r ] h
