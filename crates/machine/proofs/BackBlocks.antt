-- What a device answers whose backing tells its calls, and which blocks come back with the response: those that a PLUG
-- plugged, and those that came with the request where it unplugs none of them.
use Rattle.std.proofs.Common.{◌≡◌, ◌↔◌, ℕ, Bool, true, false, not, ◌&&◌, ◌||◌, List, [], Option, Some, None, refl, sym, ap, subst, ◌∙◌}
use Rattle.std.proofs.Math.Bool.{and-true, or-false, and-not_self}
use Rattle.std.proofs.lemmas.Bool.{false≢true, cond-true}
use Rattle.evac_model.specs.declared.device.Request.{Request}
use Rattle.evac_model.specs.declared.device.Request.TheVariants.{Plug, Unplug, UnplugAll, State}
use Rattle.evac_model.specs.declared.device.Response.{Response}
use Rattle.evac_model.specs.declared.device.Response.TheVariants.{Ack, Nack, Busy, Error}
use Rattle.evac_model.specs.Counts.{Calls, is_listed}
use Rattle.evac_model.specs.DeviceAnswer.{DeviceState, block_at, is_good_range, named_blocks, asks_backing, device_answer}
use Rattle.evac_model.specs.DeviceJournal.{backing_refuses}
use Rattle.evac_model.specs.Geometry.{Sizes}
use Rattle.evac_model.specs.HostCommands.{BlockRange, plugged_by, range_blocks, blocks_of}
use Rattle.evac_model.specs.Numbers.{is_in}
use Rattle.mem_device.specs.Answering.{IsAnswer, IsBack}
use Rattle.mem_device.specs.HandState.{HandState}
use Rattle.space.proofs.BlockFrames.{both_true}
use Rattle.machine.specs.Made.{unplugged_by}

-- ---- the response

-- it is refused where the backing is asked, at a call that fails
refused_where : (asked listed refused : Bool) → (refused ≡ true → asked ≡ true) → (asked ≡ true → (refused ≡ true) ↔ (listed ≡ true)) → refused ≡ (asked && listed)
refused_where true listed refused only exact = both_true refused listed (exact refl).0 (exact refl).1
refused_where false listed true only exact = absurd (false≢true (only refl))
refused_where false listed false only exact = refl

pub told_answer : (s : Sizes) (d : DeviceState) (request : Option Request) (before after : ℕ) (calls : Calls) (response : Response) → IsAnswer s d request before after (Some calls) response
    → response ≡ device_answer s d (backing_refuses s d calls request) request
told_answer s d request before after calls response is =
    is.answer ∙ ap (λ (t : Bool). device_answer s d t request) (refused_where (asks_backing s d request) (is_listed calls) is.refused is.asked is.exact)

-- a PLUG that is acknowledged has a good range
good : (s : Sizes) (d : DeviceState) (refused : Bool) (addr count state : ℕ) (b : Bool) → is_good_range s addr count ≡ b → Ack state ≡ device_answer s d refused (Some (Plug addr count)) → is_good_range s addr count ≡ true
good s d refused addr count state true e is = e
good s d refused addr count state false e is = let error : Ack state ≡ Error = is ∙ rw e refl in cc

-- ---- what comes back

module _ (s : Sizes) (d : DeviceState) (given back : HandState) where
  -- all that came
  all_back : (named : List ℕ) → given.blocks ≡ named → back ≡ given → (b : ℕ) → is_in b back.blocks ≡ (is_in b named && true)
  all_back named has same b =
      ap (λ (h : HandState). is_in b h.blocks) same
      ∙ (ap (λ (l : List ℕ). is_in b l) has
      ∙ sym (and-true (is_in b named)))

  none_back : (named : List ℕ) → back.blocks ≡ [] → (b : ℕ) → is_in b back.blocks ≡ (is_in b named && not (is_in b named))
  none_back named none b = ap (λ (l : List ℕ). is_in b l) none ∙ sym (and-not_self (is_in b named))

  pub back_has : (refused : Bool) (request : Option Request) (response : Response) → given.blocks ≡ named_blocks s d.plugged request → response ≡ device_answer s d refused request → IsBack (λ (h : HandState). h.blocks) s request response given back
      → (b : ℕ) → is_in b back.blocks ≡ (is_in b (blocks_of (plugged_by s request response)) || (is_in b (named_blocks s d.plugged request) && not (is_in b (unplugged_by s d.plugged request response))))
  back_has refused None response has is same b = all_back [] has same b
  back_has refused (Some (Plug addr count)) (Ack state) has is range b =
      let whole : range_blocks s addr count ≡ record { first = block_at s addr; count = count } = cond-true (is_good_range s addr count) _ _ (good s d refused addr count state (is_good_range s addr count) refl is) in
      ap (λ (l : List ℕ). is_in b l) range
      ∙ (ap (λ (r : BlockRange). is_in b (blocks_of r)) (sym whole)
      ∙ sym (or-false (is_in b (blocks_of (range_blocks s addr count)))))
  back_has refused (Some (Plug addr count)) Nack has is same b = all_back [] has same b
  back_has refused (Some (Plug addr count)) Busy has is same b = all_back [] has same b
  back_has refused (Some (Plug addr count)) Error has is same b = all_back [] has same b
  back_has refused (Some (Unplug addr count)) (Ack state) has is none b = none_back (named_blocks s d.plugged (Some (Unplug addr count))) none b
  back_has refused (Some (Unplug addr count)) Nack has is same b = all_back (named_blocks s d.plugged (Some (Unplug addr count))) has same b
  back_has refused (Some (Unplug addr count)) Busy has is same b = all_back (named_blocks s d.plugged (Some (Unplug addr count))) has same b
  back_has refused (Some (Unplug addr count)) Error has is same b = all_back (named_blocks s d.plugged (Some (Unplug addr count))) has same b
  back_has refused (Some UnplugAll) (Ack state) has is none b = none_back d.plugged none b
  back_has refused (Some UnplugAll) Nack has is same b = all_back d.plugged has same b
  back_has refused (Some UnplugAll) Busy has is same b = all_back d.plugged has same b
  back_has refused (Some UnplugAll) Error has is same b = all_back d.plugged has same b
  back_has refused (Some (State addr count)) response has is same b = all_back [] has same b

-- all that came with an UNPLUG_ALL that isn't acknowledged
pub whole_back : (s : Sizes) (given back : HandState) (request : Option Request) (response : Response) → request ≡ Some UnplugAll → ((state : ℕ) → response ≡ Ack state → ⊥) → IsBack (λ (h : HandState). h.blocks) s request response given back → back ≡ given
whole_back s given back request response all never comes = by_response response never (subst (λ (r : Option Request). IsBack (λ (h : HandState). h.blocks) s r response given back) all comes)
  where
    by_response : (r : Response) → ((state : ℕ) → r ≡ Ack state → ⊥) → IsBack (λ (h : HandState). h.blocks) s (Some UnplugAll) r given back → back ≡ given
    by_response (Ack state) none same = absurd (none state refl)
    by_response Nack none same = same
    by_response Busy none same = same
    by_response Error none same = same
