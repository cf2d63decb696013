-- A request that unplugs nothing empties no block and puts the blocks online that it plugged.
use Rattle.std.proofs.Common.{◌≡◌, ◌≢◌, ℕ, false, List, [], ◌∷◌, ◌++◌, map, reverse, refl, sym, ap, subst, Option, Some, None}
use Rattle.evac_model.specs.declared.device.Request.{Request}
use Rattle.evac_model.specs.declared.device.Request.TheVariants.{Plug, Unplug, UnplugAll, State}
use Rattle.evac_model.specs.declared.device.Response.{Response}
use Rattle.evac_model.specs.declared.device.Response.TheVariants.{Ack, Nack, Busy, Error}
use Rattle.evac_model.specs.declared.device_journal.DeviceAct.TheVariants as acts
use Rattle.evac_model.specs.declared.device_journal.DeviceAction.{DeviceAction}
use Rattle.evac_model.specs.declared.space.SpaceAction.{SpaceAction}
use Rattle.evac_model.specs.DeviceAnswer.{DeviceState, request_in}
use Rattle.evac_model.specs.Geometry.{Sizes}
use Rattle.evac_model.specs.HostCommands.{unplugs, plugged_by, put_online}
use Rattle.evac_model.proofs.DeviceJournal.{named_none}
use Rattle.host_work.specs.PlainCommands.{onlines_of}
use Rattle.host_work.specs.Requests.{Evacuates, WasSent, blocks_to_empty, blocks_back, emptied_lines, AreTakenAway}

-- a list with an element in it isn't empty
pub some_inside : {X : Type 0} (front : List X) (x : X) (behind : List X) → [] ≢ front ++ x ∷ behind
some_inside [] x behind is = absurd (cc)
some_inside (y ∷ front) x behind is = absurd (cc)

module _ (s : Sizes) (d : DeviceState) (request : Option Request) (built : unplugs request ≡ false) where
  pub nothing_to_empty : blocks_to_empty s d request ≡ []
  nothing_to_empty = ap (λ (l : List ℕ). reverse l) (named_none s d.plugged request built)

  pub nothing_taken_away : (E : Evacuates) (before actions : List SpaceAction) → AreTakenAway E before (blocks_to_empty s d request) actions → actions ≡ []
  nothing_taken_away E before actions away = subst (λ (l : List ℕ). AreTakenAway E before l actions) nothing_to_empty away

  -- and so nothing is tried
  pub nothing_tried : [] ≡ emptied_lines (blocks_to_empty s d request)
  nothing_tried = sym (ap (λ (l : List ℕ). emptied_lines l) nothing_to_empty)

pub back_plugged : (s : Sizes) (d : DeviceState) (request : Option Request) (response : Response) → unplugs request ≡ false → put_online (blocks_back s d request response) ≡ onlines_of (plugged_by s request response)
back_plugged s d request (Ack state) built = refl
back_plugged s d None Nack built = refl
back_plugged s d None Busy built = refl
back_plugged s d None Error built = refl
back_plugged s d (Some (Plug addr count)) Nack built = refl
back_plugged s d (Some (Plug addr count)) Busy built = refl
back_plugged s d (Some (Plug addr count)) Error built = refl
back_plugged s d (Some (Unplug addr count)) Nack built = absurd (cc)
back_plugged s d (Some (Unplug addr count)) Busy built = absurd (cc)
back_plugged s d (Some (Unplug addr count)) Error built = absurd (cc)
back_plugged s d (Some UnplugAll) Nack built = absurd (cc)
back_plugged s d (Some UnplugAll) Busy built = absurd (cc)
back_plugged s d (Some UnplugAll) Error built = absurd (cc)
back_plugged s d (Some (State addr count)) Nack built = refl
back_plugged s d (Some (State addr count)) Busy built = refl
back_plugged s d (Some (State addr count)) Error built = refl

-- it was sent, and its blocks were put online
pub sent_alone : (E : Evacuates) (before : List SpaceAction) (s : Sizes) (d : DeviceState) (bytes : List ℕ) (response : Response) (device : List DeviceAction) → unplugs (request_in bytes) ≡ false → map (λ (a : DeviceAction). a.act) device ≡ acts.Request bytes response ∷ []
    → WasSent E before s d bytes response [] (onlines_of (plugged_by s (request_in bytes) response)) device
sent_alone E before s d bytes response device built sent = record {
  emptying = [];
  taken_away = subst (λ (l : List ℕ). AreTakenAway E before l []) (sym (nothing_to_empty s d (request_in bytes) built)) refl;
  made = sym (back_plugged s d (request_in bytes) response built);
  sent = sent;
  tried = nothing_tried s d (request_in bytes) built;
}
