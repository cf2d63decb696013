-- When a device isn't busy.
use Rattle.std.proofs.Common.{◌≡◌, ◌≢◌, ℕ, ◌+◌, ◌*◌, Bool, true, false, not, nat_lt, if◌then◌else◌, length, Option, Some, None, refl, sym, ◌∙◌, arith, inl, inr}
use Rattle.std.specs.Prelude.{◌==◌}
use Rattle.std.proofs.lemmas.Bool.{true≢false}
use Rattle.evac_model.specs.declared.device.Request.{Request}
use Rattle.evac_model.specs.declared.device.Request.TheVariants.{Plug, Unplug, UnplugAll, State}
use Rattle.evac_model.specs.declared.device.Response.{Response}
use Rattle.evac_model.specs.declared.device.Response.TheVariants.{Ack, Nack, Busy, Error}
use Rattle.evac_model.specs.Geometry.{Sizes, block_bytes}
use Rattle.evac_model.specs.DeviceAnswer.{DeviceState, block_at, is_good_range, are_plugged, are_unplugged, device_answer, range_state}
use Rattle.evac_model.specs.Counts.{Calls}
use Rattle.mem_device.specs.Answering.{IsAnswer, IsBusyCause}

after_three : (x y z : Bool) → (if x then Error else if y then Nack else if z then Error else Ack 0) ≢ Busy
after_three true y z e = cc
after_three false true z e = cc
after_three false false true e = cc
after_three false false false e = cc

after_two : (x z : Bool) → (if x then Error else if z then Error else Ack 0) ≢ Busy
after_two true z e = cc
after_two false true e = cc
after_two false false e = cc

after_one : (x : Bool) (state : ℕ) → (if x then Error else Ack state) ≢ Busy
after_one true state e = cc
after_one false state e = cc

always_done : (x : Bool) → (if x then Ack 0 else Ack 0) ≢ Busy
always_done true e = cc
always_done false e = cc

-- no answer is BUSY where nothing refuses
not_busy : (s : Sizes) (d : DeviceState) (request : Option Request) → d.migrating ≡ false → device_answer s d false request ≢ Busy
not_busy s d None m e = cc
not_busy s d (Some (Plug addr count)) m e =
    after_three (not (is_good_range s addr count)) (nat_lt d.requested ((length d.plugged + count) * block_bytes s)) (not (are_unplugged d.plugged (block_at s addr) count)) (rw m at e)
not_busy s d (Some (Unplug addr count)) m e =
    after_two (not (is_good_range s addr count)) (not (are_plugged d.plugged (block_at s addr) count)) (rw m at e)
not_busy s d (Some UnplugAll) m e = always_done (length d.plugged == 0) (rw m at e)
not_busy s d (Some (State addr count)) m e = after_one (not (is_good_range s addr count)) (range_state d.plugged (block_at s addr) count) e

-- an answer that is BUSY has its cause
pub busy_cause : (s : Sizes) (d : DeviceState) (request : Option Request) (before after : ℕ) (told : Option Calls) (response : Response) → IsAnswer s d request before after told response → response ≡ Busy → IsBusyCause s d request before after
busy_cause s d request before after told response a busy = by_flags d.migrating a.refused refl refl
  where
    by_flags : (m r : Bool) → d.migrating ≡ m → a.refused ≡ r → IsBusyCause s d request before after
    by_flags true r migrating refused = inl migrating
    by_flags false true migrating refused = inr (a.asked refused, a.cause refused)
    by_flags false false migrating refused = absurd (not_busy s d request migrating (rw refused at (sym a.answer ∙ busy)))

pub plug_busy : (s : Sizes) (d : DeviceState) (addr count before after : ℕ) (told : Option Calls) (response : Response) → IsAnswer s d (Some (Plug addr count)) before after told response → response ≡ Busy → d.migrating ≡ true
plug_busy s d addr count before after told response a busy =
    elim (busy_cause s d (Some (Plug addr count)) before after told response a busy) [ inl migrating ↦ migrating | inr asked ↦ absurd (true≢false (sym asked.0)) ]

-- a count that stays 0 rises never
pub never_busy : (s : Sizes) (d : DeviceState) (request : Option Request) (told : Option Calls) (response : Response) → d.migrating ≡ false → IsAnswer s d request 0 0 told response → response ≢ Busy
never_busy s d request told response m a busy =
    elim (busy_cause s d request 0 0 told response a busy) [
      | inl migrating ↦ absurd (true≢false (sym migrating ∙ m))
      | inr asked ↦ elim asked.1 [ inl l ↦ absurd (omega (arith, l)) | inr e ↦ absurd (omega (arith, e)) ]
    ]
