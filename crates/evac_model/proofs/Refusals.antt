-- When the lease of a frame is named in a reply.
use Rattle.std.proofs.Common.{◌≡◌, ℕ, ◌==◌, ◌↔◌, Bool, true, false, cond, Option, None, Some, sym, subst}
use Rattle.evac_model.specs.declared.call.Call.{Call}
use Rattle.evac_model.specs.declared.call.Call.TheVariants.{Alloc, Free, Read, Write, Add, Pin, Unpin}
use Rattle.evac_model.specs.declared.reply.Reply.{Reply}
use Rattle.evac_model.specs.declared.reply.Reply.TheVariants.{NoFrame}
use Rattle.evac_model.specs.Page.{Page, PlainPage}
use Rattle.evac_model.specs.Answer.{answer, of_mapped}
use Rattle.evac_model.specs.Laws.{AsksForFrame}

neither : (b : Bool) (x y : Reply × Page) (at : ℕ) → (x.0 ≡ NoFrame at → ⊥) → (y.0 ≡ NoFrame at → ⊥) → (cond b x y).0 ≡ NoFrame at → ⊥
neither true x y at p q = p
neither false x y at p q = q

no_frame_of_mapped : (m : PlainPage) (call : Call) (at : ℕ) → (of_mapped m call).0 ≡ NoFrame at → ⊥
no_frame_of_mapped m (Alloc kind) at e = cc
no_frame_of_mapped m Free at e = neither (m.pins == 0) _ _ at (λ p. cc) (λ p. cc) e
no_frame_of_mapped m (Read first count) at e = cc
no_frame_of_mapped m (Write first values) at e = cc
no_frame_of_mapped m (Add cell value) at e = cc
no_frame_of_mapped m Pin at e = neither (m.pins == 63) _ _ at (λ p. cc) (λ p. cc) e
no_frame_of_mapped m Unpin at e = neither (m.pins == 0) _ _ at (λ p. cc) (λ p. cc) e

-- the reply names a refused lease just for a call that asks for a frame whose lease was refused
pub no_frame_answer : (n : ℕ) (page : Page) (call : Call) (refused : Option ℕ) (at : ℕ) → ((answer n page call refused).0 ≡ NoFrame at) ↔ (AsksForFrame page call × (refused ≡ Some at))
no_frame_answer n None (Alloc kind) None at = (λ e. absurd (cc), λ h. absurd (cc))
no_frame_answer n None (Alloc kind) (Some x) at = (λ e. (tt, cc), λ h. cc)
no_frame_answer n None Free refused at = (λ e. absurd (cc), λ h. absurd h.0)
no_frame_answer n None (Read first count) refused at = (λ e. absurd (cc), λ h. absurd h.0)
no_frame_answer n None (Write first values) refused at = (λ e. absurd (cc), λ h. absurd h.0)
no_frame_answer n None (Add cell value) refused at = (λ e. absurd (cc), λ h. absurd h.0)
no_frame_answer n None Pin refused at = (λ e. absurd (cc), λ h. absurd h.0)
no_frame_answer n None Unpin refused at = (λ e. absurd (cc), λ h. absurd h.0)
no_frame_answer n (Some m) call refused at = (λ e. absurd (no_frame_of_mapped m call at e), λ h. absurd h.0)

pub no_frame_replied : (n : ℕ) (page : Page) (call : Call) (refused : Option ℕ) (r : Reply) (at : ℕ) → r ≡ (answer n page call refused).0 → (r ≡ NoFrame at) ↔ (AsksForFrame page call × (refused ≡ Some at))
no_frame_replied n page call refused r at e =
    subst (λ (x : Reply). (x ≡ NoFrame at) ↔ (AsksForFrame page call × (refused ≡ Some at))) (sym e) (no_frame_answer n page call refused at)
