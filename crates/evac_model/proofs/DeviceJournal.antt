-- A memory device's journal grown by actions; and requests that unplug nothing, which name no plugged block and don't ask
-- the backing.
use Rattle.std.proofs.Common.{◌≡◌, ℕ, false, List, [], ◌∷◌, ◌++◌, refl, Option, Some, None}
use Rattle.evac_model.specs.declared.device.Request.{Request}
use Rattle.evac_model.specs.declared.device.Request.TheVariants.{Plug, Unplug, UnplugAll, State}
use Rattle.evac_model.specs.declared.device_journal.DeviceAction.{DeviceAction}
use Rattle.evac_model.specs.Counts.{Calls}
use Rattle.evac_model.specs.DeviceAnswer.{DeviceState, named_blocks, asks_backing, after_act, device_after}
use Rattle.evac_model.specs.DeviceJournal.{calls_after_act, calls_after, AreAnswered}
use Rattle.evac_model.specs.Geometry.{Sizes}
use Rattle.evac_model.specs.HostCommands.{unplugs}

-- ---- requests that unplug nothing

pub named_none : (s : Sizes) (plugged : List ℕ) (request : Option Request) → unplugs request ≡ false → named_blocks s plugged request ≡ []
named_none s plugged None none = refl
named_none s plugged (Some (Plug addr count)) none = refl
named_none s plugged (Some (Unplug addr count)) none = absurd (cc)
named_none s plugged (Some UnplugAll) none = absurd (cc)
named_none s plugged (Some (State addr count)) none = refl

pub asks_none : (s : Sizes) (d : DeviceState) (request : Option Request) → unplugs request ≡ false → asks_backing s d request ≡ false
asks_none s d None none = refl
asks_none s d (Some (Plug addr count)) none = refl
asks_none s d (Some (Unplug addr count)) none = absurd (cc)
asks_none s d (Some UnplugAll) none = absurd (cc)
asks_none s d (Some (State addr count)) none = refl

-- ---- one action more

pub device_after-push : (s : Sizes) (d : DeviceState) (journal : List DeviceAction) (a : DeviceAction) → device_after s d (journal ++ a ∷ []) ≡ after_act s (device_after s d journal) a.act
device_after-push s d [] a = refl
device_after-push s d (x ∷ journal) a = device_after-push s (after_act s d x.act) journal a

pub calls_after-push : (s : Sizes) (d : DeviceState) (calls : Calls) (journal : List DeviceAction) (a : DeviceAction) → calls_after s d calls (journal ++ a ∷ []) ≡ calls_after_act s (device_after s d journal) (calls_after s d calls journal) a.act
calls_after-push s d calls [] a = refl
calls_after-push s d calls (x ∷ journal) a = calls_after-push s (after_act s d x.act) (calls_after_act s d calls x.act) journal a

-- ---- more actions

-- the answers of a journal and of what comes behind it
pub answered_more : (s : Sizes) (d : DeviceState) (calls : Calls) (journal more : List DeviceAction) → AreAnswered s d calls journal → AreAnswered s (device_after s d journal) (calls_after s d calls journal) more → AreAnswered s d calls (journal ++ more)
answered_more s d calls [] more h g = g
answered_more s d calls (a ∷ journal) more h g =
    (h.0, answered_more s (after_act s d a.act) (calls_after_act s d calls a.act) journal more h.1 g)
