-- The state that a journal leaves.
use Rattle.std.proofs.Common.{◌≡◌, ℕ, ◌*◌, length, List, [], ◌∷◌, ◌++◌, Option, Some, None, Result, Ok, Err, MatchResult, false, refl, sym, ap, ◌∙◌}
use Rattle.std.specs.List.{range_with_len}
use Rattle.std.proofs.lemmas.List.FromFn.{length-range_with_len}
use Rattle.evac_model.specs.declared.device.Request.{Request}
use Rattle.std.specs.Result.{result_ok}
use Rattle.evac_model.specs.declared.device.Response.{Response}
use Rattle.mem_codec.specs.declared.fault.RequestFault.{RequestFault}
use Rattle.evac_model.specs.declared.device_journal.Notice.{Notice}
use Rattle.evac_model.specs.declared.device_journal.DeviceAct.TheVariants as acts
use Rattle.evac_model.specs.declared.device_journal.DeviceAction.{DeviceAction}
use Rattle.evac_model.specs.Geometry.{Sizes, block_bytes}
use Rattle.evac_model.specs.DeviceAnswer.{DeviceState, device_after, device_at_start, after_answer, request_in}
use Rattle.evac_model.proofs.DeviceJournal.{device_after-push}

-- the state at the start
pub started : (s sizes : Sizes) (plugged : List ℕ) (requested : ℕ) (d : DeviceState) → sizes ≡ s → plugged ≡ range_with_len 0 s.plugged → requested ≡ length plugged * block_bytes sizes → d ≡ record { plugged = plugged; requested = requested; migrating = false } → d ≡ device_at_start sizes
started s sizes plugged requested d e p r h =
    let asked : requested ≡ s.plugged * block_bytes s = r ∙ rw (p, e) (ap (λ (n : ℕ). n * block_bytes s) (length-range_with_len 0 s.plugged)) in
    h ∙ rw (e, p, asked) refl

-- the host asked for another size
pub requested_state : (s : Sizes) (journal before after : List DeviceAction) (d : DeviceState) (size : ℕ) (notices : List Notice) → d ≡ device_after s (device_at_start s) journal → before ≡ journal → after ≡ before ++ record { act = acts.Requested size; notices = notices } ∷ [] → record d { requested = size } ≡ device_after s (device_at_start s) after
requested_state s journal before after d size notices e b a =
    ap (λ (x : DeviceState). record x { requested = size }) e
    ∙ sym (ap (device_after s (device_at_start s)) (a ∙ ap (λ (xs : List DeviceAction). xs ++ record { act = acts.Requested size; notices = notices } ∷ []) b) ∙ device_after-push s (device_at_start s) journal (record { act = acts.Requested size; notices = notices }))

-- a request was answered
pub answered_state : (s sizes : Sizes) (journal before after : List DeviceAction) (d later : DeviceState) (request : Option Request) (bytes kept : List ℕ) (response : Response) (notices : List Notice) → sizes ≡ s → d ≡ device_after s (device_at_start s) journal → before ≡ journal → after ≡ before ++ record { act = acts.Request kept response; notices = notices } ∷ [] → kept ≡ bytes → request ≡ request_in bytes → later ≡ after_answer s d request response → later ≡ device_after sizes (device_at_start sizes) after
answered_state s sizes journal before after d later request bytes kept response notices z e b a k r l =
    let pushed : device_after s (device_at_start s) after ≡ after_answer s (device_after s (device_at_start s) journal) (request_in kept) response =
    ap (device_after s (device_at_start s)) (a ∙ ap (λ (xs : List DeviceAction). xs ++ record { act = acts.Request kept response; notices = notices } ∷ []) b) ∙ device_after-push s (device_at_start s) journal (record { act = acts.Request kept response; notices = notices }) in
    l ∙ ap (λ (x : DeviceState). after_answer s x request response) e
    ∙ ap (λ (x : Option Request). after_answer s (device_after s (device_at_start s) journal) x response) (r ∙ ap request_in (sym k))
    ∙ sym pushed ∙ ap (λ (x : Sizes). device_after x (device_at_start x) after) (sym z)

-- what a reader found, as an option
pub read_found : (r : Result Request RequestFault) (o : Option Request) → MatchResult r (λ x. o ≡ Some x) (λ _. o ≡ None) → result_ok r ≡ o
read_found (Ok x) o h = sym h
read_found (Err e) o h = sym h
