-- What the host's commands have done so far, by what is reported of those that have ended. The causes of evacuations that failed are
-- true of a world that need not be the one that stands: it may be a later one, whose journal has more actions.
use Rattle.std.specs.Prelude.{◌≡◌, ℕ, suc, List, [], ◌∷◌, ◌++◌, map, reverse, drop, Option, None, Some}
use Rattle.std.specs.List.{range_with_len, AllByRecursion}
use Rattle.evac_model.specs.declared.device_journal.DeviceAction.{DeviceAction}
use Rattle.evac_model.specs.declared.host.HostCommand.{HostCommand}
use Rattle.evac_model.specs.declared.host.HostLine.{HostLine}
use Rattle.evac_model.specs.declared.host.HostResult.{HostResult}
use Rattle.evac_model.specs.declared.host.HostRun.{HostRun}
use Rattle.evac_model.specs.declared.space.SpaceAction.{SpaceAction}
use Rattle.evac_model.specs.declared.tried.Tried.{Tried}
use Rattle.evac_model.specs.DeviceAnswer.{device_at_start}
use Rattle.evac_model.specs.HostCommands.{put_online}
use Rattle.evac_model.specs.Pairing.{actions_of}
use Rattle.evacuate.specs.Tale.{Tale}
use Rattle.host_work.specs.Commands.{IsDoneBy, AreDoneBy}
use Rattle.host_work.specs.Requests.{AreTakenAway, emptied_lines}
use Rattle.machine.specs.World.{Setting, World, device_at}
use Rattle.core_actors.specs.declared.host_place.HostPlace.{HostPlace}
use Rattle.core_actors.specs.declared.host_place.HostPlace.TheVariants as places
use Rattle.core_actors.specs.HostFound.{truth, evacuation_did}
use Rattle.core_actors.specs.Hosts.{HostState, away}

-- the command under way, with its line, where it has ended
abbrev pub run_list : List HostCommand → Option HostLine → List HostRun
run_list [] line = []
run_list (c ∷ cs) None = []
run_list (c ∷ cs) (Some line) = record { command = c; line = line } ∷ []

-- ---- the command under way

-- the blocks that it took away, in order: from the highest down
abbrev pub taken_away : HostState → List ℕ
taken_away h = reverse (away h)

-- Behind what the commands before did, it emptied these blocks and took them away, and the driver did this since then. The
-- device wasn't asked.
pub record HasTaken (c : Setting) (true_of w : World) (done : List SpaceAction) (sent : List DeviceAction) (blocks : List ℕ) (since : List SpaceAction) : Type 0 where
  pub emptying : List SpaceAction
  pub taken : AreTakenAway (truth c true_of) done blocks emptying
  pub made : actions_of 0 w.space ≡ done ++ (emptying ++ since)
  pub nothing_sent : w.device ≡ sent

-- all that a command does, behind what the commands before did
abbrev pub IsDoneFor : Setting → World → List HostCommand → (done : List SpaceAction) → (sent : List DeviceAction) → HostResult → List Tried → List SpaceAction → List DeviceAction → Type 0
IsDoneFor c true_of [] done sent result tried actions mine = ⊥
IsDoneFor c true_of (command ∷ cs) done sent result tried actions mine =
    IsDoneBy (truth c true_of) done c.sizes (device_at c.sizes sent) command result tried actions mine

-- It has its result. With these blocks put online, and once those that the driver holds are, it has done what its line says.
pub record IsPutting (c : Setting) (true_of w : World) (done : List SpaceAction) (sent : List DeviceAction) (h : HostState) (result : HostResult) : Type 0 where
  pub before : List SpaceAction
  pub put : List ℕ
  pub mine : List DeviceAction
  pub made : actions_of 0 w.space ≡ done ++ (before ++ put_online put)
  pub sent_now : w.device ≡ sent ++ mine
  pub whole : IsDoneFor c true_of h.left done sent result h.tried (before ++ put_online (put ++ away h)) mine

-- a block is being emptied, behind those that were taken away
abbrev pub IsDoingBlock : Setting → (true_of w : World) → (done : List SpaceAction) → (sent : List DeviceAction) → HostState → Tale → Type 0
IsDoingBlock c true_of w done sent h t = HasTaken c true_of w done sent (taken_away h) (evacuation_did h.evacuation t) × (h.tried ≡ emptied_lines (taken_away h))

-- a block was taken away, and its line is still to be written
abbrev pub IsDoingZeros : Setting → (true_of w : World) → (done : List SpaceAction) → (sent : List DeviceAction) → HostState → Type 0
IsDoingZeros c true_of w done sent h = HasTaken c true_of w done sent (taken_away h) [] × (h.tried ≡ emptied_lines (reverse (drop (suc h.waiting) h.blocks)))

abbrev pub IsDoingAt : Setting → (true_of w : World) → (done : List SpaceAction) → (sent : List DeviceAction) → HostState → Tale → HostPlace → Type 0
IsDoingAt c true_of w done sent h t places.Asking = HasTaken c true_of w done sent (taken_away h) [] × (h.tried ≡ emptied_lines (taken_away h))
IsDoingAt c true_of w done sent h t places.Evacuating = IsDoingBlock c true_of w done sent h t
IsDoingAt c true_of w done sent h t (places.Moving lease at) = IsDoingBlock c true_of w done sent h t
IsDoingAt c true_of w done sent h t places.TakingAway = IsDoingBlock c true_of w done sent h t
IsDoingAt c true_of w done sent h t (places.Zeroing frame cell) = IsDoingZeros c true_of w done sent h
IsDoingAt c true_of w done sent h t (places.MarkingZeros frame) = IsDoingZeros c true_of w done sent h
IsDoingAt c true_of w done sent h t (places.PuttingOnline result) = IsPutting c true_of w done sent h result

-- ---- all commands

-- The commands that have ended, numbered from 0, did this to the frame space and to the device, and the one under way the rest.
-- No listener has joined, so none was told anything.
pub record HostDid (c : Setting) (true_of w : World) (runs : List HostRun) (h : HostState) (t : Tale) : Type 0 where
  pub done : List SpaceAction
  pub sent : List DeviceAction
  pub ended : AreDoneBy (truth c true_of) [] c.sizes (device_at_start c.sizes) runs done sent
  pub numbers : map (λ x. x.line.no) runs ≡ range_with_len 0 h.number
  pub doing : IsDoingAt c true_of w done sent h t h.place
  pub no_notices : AllByRecursion (λ a. a.notices ≡ []) w.device
