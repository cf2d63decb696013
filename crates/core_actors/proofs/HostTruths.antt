-- What was done is true of a world also where that world has gone on: its journal is longer, and the driver has found more words.
use Rattle.std.proofs.Common.{◌≡◌, ℕ, List, [], ◌∷◌, ◌++◌, sym, subst}
use Rattle.evac_model.specs.declared.device_journal.DeviceAction.{DeviceAction}
use Rattle.evac_model.specs.declared.host.HostCommand.{HostCommand}
use Rattle.evac_model.specs.declared.host.HostResult.{HostResult}
use Rattle.evac_model.specs.declared.host.HostRun.{HostRun}
use Rattle.evac_model.specs.declared.names.PageNo.{PageNo}
use Rattle.evac_model.specs.declared.space.SpaceAction.{SpaceAction}
use Rattle.evac_model.specs.declared.tried.Tried.{Tried}
use Rattle.evac_model.specs.DeviceAnswer.{device_at_start}
use Rattle.evacuate.specs.Tale.{Tale}
use Rattle.host_work.specs.Truth.{by_truth}
use Rattle.host_work.proofs.TruthGrows.{truth_grown, Follows, taken_by, is_done_by, are_done_by}
use Rattle.machine.specs.World.{Setting, World, device_at}
use Rattle.core_actors.specs.declared.host_place.HostPlace.{HostPlace}
use Rattle.core_actors.specs.declared.host_place.HostPlace.TheVariants as places
use Rattle.core_actors.specs.HostDid.{taken_away, HasTaken, IsDoneFor, IsPutting, IsDoingAt, HostDid}
use Rattle.core_actors.specs.HostFound.{space_run, DriverFound, truth, evacuation_did}
use Rattle.core_actors.specs.Hosts.{HostState}

-- the world has all that the other has: its journal, and the words that the driver's takes found, each by the take of its number
pub record Adds (c : Setting) (w x : World) : Type 0 where
  pub more : List SpaceAction
  pub space : x.space ≡ w.space ++ more
  pub found : (number : ℕ) (page : PageNo) (word : ℕ) → DriverFound w number page word → DriverFound x number page word

pub truth_on : (c : Setting) (w x : World) → Adds c w x → Follows (truth c w) (truth c x)
truth_on c w x adds before b cause own met =
    subst (λ (j : List SpaceAction). by_truth (record { sizes = c.sizes; online = c.online; start = c.space; journal = j }) (DriverFound x) before b cause own) (sym adds.space)
    (truth_grown (space_run c w) adds.more (DriverFound w) (DriverFound x) adds.found before b cause own met)

-- ---- what the host did

module _ (c : Setting) (w x v : World) (adds : Adds c w x) (done : List SpaceAction) (sent : List DeviceAction) where
  taken_true : (blocks : List ℕ) (since : List SpaceAction) → HasTaken c w v done sent blocks since → HasTaken c x v done sent blocks since
  taken_true blocks since p = record {
    emptying = p.emptying;
    taken = taken_by (truth c w) (truth c x) (truth_on c w x adds) done blocks p.emptying p.taken;
    made = p.made;
    nothing_sent = p.nothing_sent;
  }

  done_true : (left : List HostCommand) (result : HostResult) (tried : List Tried) (actions : List SpaceAction) (mine : List DeviceAction) → IsDoneFor c w left done sent result tried actions mine → IsDoneFor c x left done sent result tried actions mine
  done_true [] result tried actions mine d = absurd d
  done_true (command ∷ cs) result tried actions mine d = is_done_by (truth c w) (truth c x) (truth_on c w x adds) done c.sizes (device_at c.sizes sent) command result tried actions mine d

  module _ (h : HostState) (t : Tale) where
    putting_true : (result : HostResult) → IsPutting c w v done sent h result → IsPutting c x v done sent h result
    putting_true result p = record {
      before = p.before;
      put = p.put;
      mine = p.mine;
      made = p.made;
      sent_now = p.sent_now;
      whole = done_true h.left result h.tried _ p.mine p.whole;
    }

    doing_true : (place : HostPlace) → IsDoingAt c w v done sent h t place → IsDoingAt c x v done sent h t place
    doing_true places.Asking d = (taken_true (taken_away h) [] d.0, d.1)
    doing_true places.Evacuating d = (taken_true (taken_away h) (evacuation_did h.evacuation t) d.0, d.1)
    doing_true (places.Moving lease at) d = (taken_true (taken_away h) (evacuation_did h.evacuation t) d.0, d.1)
    doing_true places.TakingAway d = (taken_true (taken_away h) (evacuation_did h.evacuation t) d.0, d.1)
    doing_true (places.Zeroing frame cell) d = (taken_true (taken_away h) [] d.0, d.1)
    doing_true (places.MarkingZeros frame) d = (taken_true (taken_away h) [] d.0, d.1)
    doing_true (places.PuttingOnline result) d = putting_true result d

pub did_true_of : (c : Setting) (w x v : World) (runs : List HostRun) (h : HostState) (t : Tale) → Adds c w x → HostDid c w v runs h t → HostDid c x v runs h t
did_true_of c w x v runs h t adds did = record {
  done = did.done;
  sent = did.sent;
  ended = are_done_by (truth c w) (truth c x) (truth_on c w x adds) [] c.sizes (device_at_start c.sizes) runs did.done did.sent did.ended;
  numbers = did.numbers;
  doing = doing_true c w x v adds did.done did.sent h t h.place did.doing;
  no_notices = did.no_notices;
}
