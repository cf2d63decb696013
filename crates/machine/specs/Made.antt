-- What an action of a seat does to the world, and what is heard of it.
use Rattle.std.specs.Prelude.{ℕ, List, [], ◌∷◌, ◌++◌, length, Option, None, Some}
use Rattle.evac_model.specs.declared.device.Response.{Response}
use Rattle.evac_model.specs.declared.device.Request.{Request}
use Rattle.evac_model.specs.declared.device.Response.TheVariants.{Ack, Nack, Busy, Error}
use Rattle.evac_model.specs.declared.names.BlockNo.{BlockNo}
use Rattle.evac_model.specs.declared.names.FrameNo.{FrameNo}
use Rattle.evac_model.specs.declared.names.Kind.{Kind}
use Rattle.evac_model.specs.declared.names.Kind.TheVariants.{Movable}
use Rattle.evac_model.specs.declared.names.PageNo.{PageNo}
use Rattle.evac_model.specs.declared.space.SpaceAction.{SpaceAction}
use Rattle.evac_model.specs.declared.space.SpaceAction.TheVariants as space
use Rattle.evac_model.specs.DeviceAnswer.{request_in, config_of, named_blocks}
use Rattle.evac_model.specs.Geometry.{Sizes, first_frame}
use Rattle.evac_model.specs.DeviceJournal.{answer_to}
use Rattle.evac_model.specs.HostCommands.{request_action, plugged_by, blocks_of}
use Rattle.evac_model.specs.SpaceJournal.{Leased, lease_of}
use Rattle.core_state.specs.declared.keeper.Keeper.TheVariants.{OneOwner}
use Rattle.core_state.specs.declared.snapshot.Snapshot.{Snapshot}
use Rattle.core_state.specs.declared.step.MoveStep.{MoveStep}
use Rattle.core_state.specs.declared.step.Step.{Step}
use Rattle.core_state.specs.declared.step.Step.TheVariants.{Take, Draw, Load, Store, Mark, Release}
use Rattle.core_state.specs.HandOvers.{views_after_hand_over}
use Rattle.core_state.specs.Stepped.{word_found, snapshot_after, snapshot_after_move}
use Rattle.core_state.specs.Views.{view_of}
use Rattle.space.specs.Refusals.{first_unmovable, next_out}
use Rattle.machine.specs.declared.action.Action.{Action}
use Rattle.machine.specs.declared.action.Action.TheVariants as actions
use Rattle.machine.specs.declared.action.BlockCall.{BlockCall}
use Rattle.machine.specs.declared.action.BlockCall.TheVariants.{Isolate, Target, Undo, Offline, Online}
use Rattle.machine.specs.declared.action.BlockHeard.TheVariants as blocks
use Rattle.machine.specs.declared.action.DeviceCall.{DeviceCall}
use Rattle.machine.specs.declared.action.DeviceCall.TheVariants as calls
use Rattle.machine.specs.declared.action.DeviceHeard.TheVariants as device
use Rattle.machine.specs.declared.action.Heard.{Heard}
use Rattle.machine.specs.declared.action.Heard.TheVariants.{Start, Word, Nothing, NoFrame, Block, Device}
use Rattle.machine.specs.declared.action.Heard.TheVariants as heards
use Rattle.machine.specs.declared.action.SpaceCall.{SpaceCall}
use Rattle.machine.specs.declared.action.SpaceCall.TheVariants.{Lease, Return}
use Rattle.machine.specs.World.{Setting, World, free_seat, unplugged_seat, space_now, device_now, calls_now}

-- the world behind an action, and what its actor hears
pub record Made : Type 0 where
  pub world : World
  pub heard : Heard

-- ---- steps on words

-- what a step that found the word gives: that word, if it counts for what the actor does next
abbrev pub heard_by : Step → (found : ℕ) → Heard
heard_by (Take page) found = Word found
heard_by Draw found = Word found
heard_by (Load cell) found = Word found
heard_by (Store frame cell value) found = Nothing
heard_by (Mark frame) found = Nothing
heard_by (Release end) found = Nothing

abbrev pub step_made : Setting → (seat : ℕ) → World → Step → Made
step_made c seat w step = record {
  world = record w { snapshot = snapshot_after OneOwner c.opening w.snapshot seat step };
  heard = heard_by step (word_found c.opening w.snapshot.words (view_of w.snapshot.views seat) step);
}

abbrev pub move_made : (seat : ℕ) → World → MoveStep → Made
move_made seat w step = record { world = record w { snapshot = snapshot_after_move OneOwner w.snapshot seat step }; heard = Nothing }

-- ---- what is asked of the frame space

-- so many frames go from the hand of one seat to that of another
abbrev pub handed_frames : Snapshot → (from to first n : ℕ) → Snapshot
handed_frames s from to first n =
    record s { views = views_after_hand_over s.views from to (view_of s.views from) (view_of s.views to) first n }

abbrev pub handed : Snapshot → (from to frame : ℕ) → Snapshot
handed s from to frame = handed_frames s from to frame 1

-- a lease: the frame that the rules choose comes from the free frames in the actor's hand, if there is one
abbrev pub lease_made : Setting → (seat : ℕ) → World → PageNo → Kind → Option Leased → Made
lease_made c seat w page kind None = record { world = w; heard = NoFrame (length w.space) }
lease_made c seat w page kind (Some l) = record {
  world = record w {
    snapshot = handed w.snapshot (free_seat c) seat l.frame;
    space = w.space ++ space.Lease seat (record { 0 = l.frame }) page kind ∷ [];
  };
  heard = heards.Leased (record { 0 = l.frame });
}

-- a frame given back goes to the free frames
abbrev pub return_made : Setting → (seat : ℕ) → World → FrameNo → Made
return_made c seat w frame = record {
  world = record w {
    snapshot = handed w.snapshot seat (free_seat c) frame.0;
    space = w.space ++ space.Return seat frame ∷ [];
  };
  heard = Nothing;
}

-- the seat is the caller of its leases
abbrev pub space_made : Setting → (seat : ℕ) → World → SpaceCall → Made
space_made c seat w (Lease page kind) = lease_made c seat w page kind (lease_of c.sizes c.online (space_now c w) seat kind)
space_made c seat w (Return frame) = return_made c seat w frame

-- ---- what the driver asks of the frame space of a block

-- the frame space has one action more, and no frame changes hands
abbrev pub noted : World → SpaceAction → Made
noted w action = record { world = record w { space = w.space ++ action ∷ [] }; heard = Nothing }

-- a block is isolated, unless an unmovable page lies in it
abbrev pub isolate_made : World → BlockNo → (unmovable : Option (FrameNo × PageNo)) → Made
isolate_made w block None = noted w (space.Isolate block)
isolate_made w block (Some at) = record { world = w; heard = Block (blocks.Refused at.0 at.1) }

-- The next page of a block gets a target, if there is one: the frame that the rules choose for the driver comes from the
-- free frames in its hand.
abbrev pub target_made : Setting → World → (next : Option (FrameNo × PageNo)) → Option Leased → Made
target_made c w None l = record { world = w; heard = Block blocks.NoneLeft }
target_made c w (Some at) None = record { world = w; heard = Block (blocks.NoTarget at.0 at.1 (length w.space)) }
target_made c w (Some at) (Some l) = record {
  world = record w {
    snapshot = handed w.snapshot (free_seat c) 0 l.frame;
    space = w.space ++ space.MoveLease (record { 0 = l.frame }) at.1 ∷ [];
  };
  heard = Block (blocks.Leased (record { from = at.0; page = at.1; target = record { 0 = l.frame } }));
}

-- a block is taken away: its frames go from the free ones to the driver's hand
abbrev pub offline_made : Setting → World → BlockNo → Made
offline_made c w block = record {
  world = record w {
    snapshot = handed_frames w.snapshot (free_seat c) 0 (first_frame c.sizes block.0) c.sizes.block;
    space = w.space ++ space.Offline block ∷ [];
  };
  heard = Nothing;
}

-- a block is put online: its frames go from the driver's hand to the free ones
abbrev pub online_made : Setting → World → BlockNo → Made
online_made c w block = record {
  world = record w {
    snapshot = handed_frames w.snapshot 0 (free_seat c) (first_frame c.sizes block.0) c.sizes.block;
    space = w.space ++ space.Online block ∷ [];
  };
  heard = Nothing;
}

abbrev pub block_made : Setting → World → BlockCall → Made
block_made c w (Isolate block) = isolate_made w block (first_unmovable c.sizes (space_now c w) block.0)
block_made c w (Target block after) = target_made c w (next_out c.sizes (space_now c w) block.0 after) (lease_of c.sizes c.online (space_now c w) 0 Movable)
block_made c w (Undo block) = noted w (space.Undo block)
block_made c w (Offline block) = offline_made c w block
block_made c w (Online block) = online_made c w block

-- ---- what is asked of the memory device

-- the frames of blocks go from the hand of one seat to that of another
abbrev pub handed_blocks : Sizes → Snapshot → (from to : ℕ) → List ℕ → Snapshot
handed_blocks s x from to [] = x
handed_blocks s x from to (block ∷ more) = handed_blocks s (handed_frames x from to (first_frame s block) s.block) from to more

-- the blocks that a request unplugged: those that it names, where it was acknowledged
abbrev pub unplugged_by : Sizes → (plugged : List ℕ) → Option Request → Response → List ℕ
unplugged_by s plugged request (Ack state) = named_blocks s plugged request
unplugged_by s plugged request Nack = []
unplugged_by s plugged request Busy = []
unplugged_by s plugged request Error = []

-- A request was answered so. The frames of the blocks that it plugged come from who keeps the unplugged ones into the
-- driver's hand, and those of the blocks that it unplugged go back.
abbrev pub request_made : Setting → World → List ℕ → Response → Made
request_made c w bytes response = record {
  world = record w {
    snapshot =
        handed_blocks c.sizes
        (handed_blocks c.sizes w.snapshot (unplugged_seat c) 0 (blocks_of (plugged_by c.sizes (request_in bytes) response)))
        0 (unplugged_seat c) (unplugged_by c.sizes (device_now c w).plugged (request_in bytes) response);
    device = w.device ++ request_action bytes response ∷ [];
  };
  heard = Device (device.Answered response);
}

-- the device answers a request, or tells its configuration
abbrev pub device_made : Setting → World → DeviceCall → Made
device_made c w (calls.Request bytes) = request_made c w bytes (answer_to c.sizes (device_now c w) (calls_now c w) bytes)
device_made c w calls.Config = record { world = w; heard = Device (device.Config (config_of c.sizes (device_now c w))) }

-- ---- any action

-- what an action of the actor on that seat does; one that has ended does nothing
abbrev pub made : Setting → (seat : ℕ) → World → Action → Made
made c seat w (actions.Step step) = step_made c seat w step
made c seat w (actions.Move step) = move_made seat w step
made c seat w (actions.Space call) = space_made c seat w call
made c seat w (actions.Block call) = block_made c w call
made c seat w (actions.Device call) = device_made c w call
made c seat w actions.Ended = record { world = w; heard = Start }
