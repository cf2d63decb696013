-- What a resize keeps, which answers fit what it asked, and what it does next.
use Rattle.std.specs.Prelude.{ℕ, ◌+◌, ◌-◌, ◌*◌, Bool, true, false, ◌==◌, nat_lt, if◌then◌else◌, List, [], ◌∷◌, ◌++◌, length, reverse, Option, None, Some, slice_get}
use Rattle.evac_model.specs.declared.names.BlockNo.{BlockNo}
use Rattle.evac_model.specs.declared.device.Response.{Response}
use Rattle.evac_model.specs.declared.device.Response.TheVariants.{Ack}
use Rattle.evac_model.specs.Geometry.{Sizes, block_bytes}
use Rattle.evac_model.specs.DeviceAnswer.{unplugged_blocks}
use Rattle.resize.specs.declared.action.ResizeAction.{ResizeAction}
use Rattle.resize.specs.declared.action.ResizeAction.TheVariants as action
use Rattle.resize.specs.declared.seen.ResizeSeen.{ResizeSeen}
use Rattle.resize.specs.declared.seen.ResizeSeen.TheVariants as seen
use Rattle.resize.specs.declared.stage.Stage.{Stage}
use Rattle.resize.specs.declared.stage.Stage.TheVariants.{Plugging, Joining, Evacuating, Leaving, Zeroing, Unplugging, Returning, Settled, Short}
use Rattle.evac_model.specs.declared.tried.Tried.{Tried}
use Rattle.evac_model.specs.declared.tried.TriedResult.{TriedResult}
use Rattle.evac_model.specs.declared.tried.TriedResult.TheVariants as result

-- The machine's sizes; the goal, in blocks; the blocks to be tried, in order; how many blocks are plugged
-- now; what came of those that were tried; and where the resize stands.
pub record Resizing : Type 0 where
  pub sizes : Sizes
  pub goal : ℕ
  pub blocks : List ℕ
  pub plugged : ℕ
  pub tried : List Tried
  pub stage : Stage

-- above the goal the plugged blocks, from the highest down; else the others, from the lowest up
abbrev pub to_try : Sizes → (goal : ℕ) (plugged : List ℕ) → List ℕ
to_try s goal plugged = if nat_lt goal (length plugged) then reverse plugged else unplugged_blocks s plugged

-- ---- what it asks

abbrev pub action_at : Resizing → Stage → ResizeAction
action_at st (Plugging b) = action.Plug b 1
action_at st (Joining b state) = action.Online b
action_at st (Evacuating b) = action.Evacuate b
action_at st (Leaving b) = action.Offline b
action_at st (Zeroing b) = action.Zero b
action_at st (Unplugging b) = action.Unplug b 1
action_at st (Returning b response) = action.Online b
action_at st Settled = action.Settled (st.plugged * block_bytes st.sizes) st.tried
action_at st Short = action.Short (st.plugged * block_bytes st.sizes) (st.goal * block_bytes st.sizes) st.tried

abbrev pub action_of : Resizing → ResizeAction
action_of st = action_at st st.stage

-- ---- what may be told of it

abbrev pub answers : Stage → ResizeSeen → Bool
answers (Plugging b) (seen.Answered response) = true
answers (Joining b state) seen.Done = true
answers (Evacuating b) seen.Emptied = true
answers (Evacuating b) (seen.Failed cause) = true
answers (Leaving b) seen.Done = true
answers (Zeroing b) seen.Done = true
answers (Unplugging b) (seen.Answered response) = true
answers (Returning b response) seen.Done = true
answers _ _ = false

-- ---- what it does next

-- the next block is plugged below the goal, and evacuated above it
abbrev pub stage_for : (goal plugged : ℕ) → Option ℕ → Stage
stage_for goal plugged None = if plugged == goal then Settled else Short
stage_for goal plugged (Some b) =
    if plugged == goal then Settled
    else if nat_lt plugged goal then Plugging (record { 0 = b }) else Evacuating (record { 0 = b })

abbrev pub next_try : Resizing → Resizing
next_try st = record st { stage = stage_for st.goal st.plugged (slice_get st.blocks (length st.tried)) }

abbrev pub with_try : Resizing → BlockNo → TriedResult → (plugged : ℕ) → Resizing
with_try st b r plugged = record st { tried = st.tried ++ record { block = b; result = r } ∷ []; plugged = plugged }

-- this came of the block, and so many are plugged now
abbrev pub try_over : Resizing → BlockNo → TriedResult → (plugged : ℕ) → Resizing
try_over st b r plugged = next_try (with_try st b r plugged)

-- a PLUG was answered: after another answer than ACK nothing more is tried
abbrev pub plug_answered : Resizing → BlockNo → Response → Resizing
plug_answered st b (Ack state) = record st { stage = Joining b state }
plug_answered st b response = record (with_try st b (result.Plugged response) st.plugged) { stage = Short }

-- an UNPLUG was answered
abbrev pub unplug_answered : Resizing → BlockNo → Response → Resizing
unplug_answered st b (Ack state) = try_over st b result.Unplugged (st.plugged - 1)
unplug_answered st b response = record st { stage = Returning b response }

abbrev pub after_answer : Resizing → Stage → ResizeSeen → Resizing
after_answer st (Plugging b) (seen.Answered response) = plug_answered st b response
after_answer st (Joining b state) seen.Done = try_over st b (result.Plugged (Ack state)) (st.plugged + 1)
after_answer st (Evacuating b) seen.Emptied = record st { stage = Leaving b }
after_answer st (Evacuating b) (seen.Failed cause) = try_over st b (result.Failed cause) st.plugged
after_answer st (Leaving b) seen.Done = record st { stage = Zeroing b }
after_answer st (Zeroing b) seen.Done = record st { stage = Unplugging b }
after_answer st (Unplugging b) (seen.Answered response) = unplug_answered st b response
after_answer st (Returning b response) seen.Done = try_over st b (result.Answered response) st.plugged
after_answer st _ _ = st

-- what doesn't answer the action changes nothing
abbrev pub resize_after : Resizing → ResizeSeen → Resizing
resize_after st told = after_answer st st.stage told

-- at its end it gives its list away
abbrev pub given_at : Resizing → Stage → Resizing
given_at st Settled = record st { tried = [] }
given_at st Short = record st { tried = [] }
given_at st _ = st

abbrev pub list_given : Resizing → Resizing
list_given st = given_at st st.stage

-- before its first action
abbrev pub at_start : Sizes → (plugged : List ℕ) (goal : ℕ) → Resizing
at_start s plugged goal = next_try (record {
  sizes = s;
  goal = goal;
  blocks = to_try s goal plugged;
  plugged = length plugged;
  tried = [];
  stage = Settled;
})
