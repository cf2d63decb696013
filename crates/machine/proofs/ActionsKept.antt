-- Each action that its actor may make keeps the world consistent.
use Rattle.std.proofs.Common.{ℕ, refl, subst}
use Rattle.evac_model.specs.declared.names.Kind.TheVariants.{Movable}
use Rattle.evac_model.specs.SpaceJournal.{lease_of}
use Rattle.space.specs.Refusals.{first_unmovable, next_out}
use Rattle.machine.specs.declared.action.Action.{Action}
use Rattle.machine.specs.declared.action.Action.TheVariants as actions
use Rattle.machine.specs.declared.action.BlockCall.{BlockCall}
use Rattle.machine.specs.declared.action.BlockCall.TheVariants.{Isolate, Target, Undo, Offline, Online}
use Rattle.machine.specs.declared.action.DeviceCall.{DeviceCall}
use Rattle.machine.specs.declared.action.DeviceCall.TheVariants.{Request, Config}
use Rattle.machine.specs.declared.action.SpaceCall.{SpaceCall}
use Rattle.machine.specs.declared.action.SpaceCall.TheVariants.{Lease, Return}
use Rattle.machine.specs.Consistent.{IsSetting, IsConsistent}
use Rattle.machine.specs.Made.{space_made, block_made, device_made, made}
use Rattle.machine.specs.MayMake.{MayIsolate, MayTarget, MayUndo, MayTakeOffline, MayPutOnline, MayRequest, MayAskSpace, MayAskForBlock, MayAskDevice, MayMake}
use Rattle.machine.specs.World.{Setting, World, space_now}
use Rattle.machine.proofs.LeasesKept.{lease_kept}
use Rattle.machine.proofs.MovesKept.{move_kept}
use Rattle.machine.proofs.NotesKept.{isolate_kept, undo_kept}
use Rattle.machine.proofs.OfflinesKept.{offline_kept}
use Rattle.machine.proofs.OnlinesKept.{online_kept}
use Rattle.machine.proofs.RequestsKept.{request_kept}
use Rattle.machine.proofs.ReturnsKept.{return_kept}
use Rattle.machine.proofs.StepsKept.{step_kept}
use Rattle.machine.proofs.TargetsKept.{target_kept}

-- the seat that asks of a block is the driver's, which is the first
pub driver_asks : (c : Setting) (seat : ℕ) (w : World) (call : BlockCall) → MayAskForBlock c seat w call → MayAskForBlock c 0 w call
driver_asks c seat w (Isolate block) may = subst (λ (n : ℕ). MayIsolate c n w block) may.driver may
driver_asks c seat w (Target block after) may = subst (λ (n : ℕ). MayTarget c n w block) may.driver may
driver_asks c seat w (Undo block) may = subst (λ (n : ℕ). MayUndo c n w block) may.driver may
driver_asks c seat w (Offline block) may = subst (λ (n : ℕ). MayTakeOffline c n w block) may.driver may
driver_asks c seat w (Online block) may = subst (λ (n : ℕ). MayPutOnline c n w block) may.driver may

module _ (c : Setting) (seat : ℕ) (w : World) (set : IsSetting c) (k : IsConsistent c w) where
  space_kept : (call : SpaceCall) → MayAskSpace c seat w call → IsConsistent c (space_made c seat w call).world
  space_kept (Lease page kind) may = lease_kept c seat w page kind (lease_of c.sizes c.online (space_now c w) seat kind) set k may refl
  space_kept (Return frame) may = return_kept c seat w frame set k may

  block_kept : (call : BlockCall) → MayAskForBlock c 0 w call → IsConsistent c (block_made c w call).world
  block_kept (Isolate block) may = isolate_kept c w block (first_unmovable c.sizes (space_now c w) block.0) set k may refl
  block_kept (Target block after) may =
      target_kept c w block after (next_out c.sizes (space_now c w) block.0 after) (lease_of c.sizes c.online (space_now c w) 0 Movable) set k may refl refl
  block_kept (Undo block) may = undo_kept c w block set k may
  block_kept (Offline block) may = offline_kept c w block set k may
  block_kept (Online block) may = online_kept c w block set k may

  device_kept : (call : DeviceCall) → MayAskDevice c seat w call → IsConsistent c (device_made c w call).world
  device_kept (Request bytes) may = request_kept c w bytes set k (subst (λ (n : ℕ). MayRequest c n w bytes) may.driver may)
  device_kept Config may = k

  any_kept : (action : Action) → MayMake c seat w action → IsConsistent c (made c seat w action).world
  any_kept (actions.Step step) may = step_kept c seat w step set k may
  any_kept (actions.Move step) may = move_kept c seat w step set k may
  any_kept (actions.Space call) may = space_kept call may
  any_kept (actions.Block call) may = block_kept call (driver_asks c seat w call may)
  any_kept (actions.Device call) may = device_kept call may
  any_kept actions.Ended may = k

pub action_kept : (c : Setting) (seat : ℕ) (w : World) (action : Action) → IsSetting c → IsConsistent c w → MayMake c seat w action → IsConsistent c (made c seat w action).world
action_kept c seat w action set k may = any_kept c seat w set k action may
