-- A resize, and the record of all that it asked and was told.
use Rattle.std.specs.Prelude.{◌≡◌, ◌≢◌, ℕ, ◌*◌, ◌<◌, ◌≤◌, List, [], ◌∷◌, ◌++◌, length, map, reverse}
use Rattle.std.specs.List.{AllByRecursion}
use Rattle.evac_model.specs.declared.names.BlockNo.{BlockNo}
use Rattle.evac_model.specs.declared.device.Response.{Response}
use Rattle.evac_model.specs.declared.device.Response.TheVariants.{Ack}
use Rattle.evac_model.specs.Geometry.{Sizes, block_bytes}
use Rattle.evac_model.specs.Numbers.{IsRisingBelow}
use Rattle.resize.specs.declared.action.ResizeAction.TheVariants as action
use Rattle.resize.specs.declared.seen.ResizeSeen.{ResizeSeen}
use Rattle.resize.specs.declared.seen.ResizeSeen.TheVariants as seen
use Rattle.resize.specs.declared.stage.Stage.{Stage}
use Rattle.resize.specs.declared.stage.Stage.TheVariants.{Plugging, Joining, Evacuating, Leaving, Zeroing, Unplugging, Returning, Settled, Short}
use Rattle.evac_model.specs.declared.tried.Tried.{Tried}
use Rattle.evac_model.specs.declared.tried.TriedResult.TheVariants as result
use Rattle.resize.specs.Tries.{Exchange, gave, emptied_log, IsRefusal, AreTold, plugged_after, NoneAtGoal, IsAdded, WasMet, IsGoneOrKept}
use Rattle.resize.specs.Trying.{Resizing, to_try}

abbrev pub block_of : Tried → ℕ
block_of t = t.block.0

-- A run of a resize to a goal, in blocks, from these plugged blocks on: above the goal it tried plugged
-- blocks, each once, from the highest down, and else unplugged ones, each once, from the lowest up; the rest
-- it didn't try. It tried none at the goal. All that it asked and was told is of these blocks, in order.
pub record IsRun (s : Sizes) (goal : ℕ) (plugged : List ℕ) (tried : List Tried) (log : List Exchange) : Type 0 where
  pub rest : List ℕ
  pub order : to_try s goal plugged ≡ map block_of tried ++ rest
  pub none_at_goal : NoneAtGoal goal (length plugged) tried
  pub told : AreTold tried log

-- ---- the ends

-- So many bytes are plugged at the end, and that is the goal.
pub record HasSettled (s : Sizes) (goal : ℕ) (plugged : List ℕ) (log : List Exchange) (bytes : ℕ) (tried : List Tried) : Type 0 where
  pub run : IsRun s goal plugged tried log
  pub size : bytes ≡ plugged_after (length plugged) tried * block_bytes s
  pub at_goal : plugged_after (length plugged) tried ≡ goal

-- a PLUG was refused, behind others that were acknowledged
pub record IsRefusedAtLast (tried : List Tried) : Type 0 where
  pub before : List Tried
  pub block : BlockNo
  pub response : Response
  pub last : tried ≡ before ++ record { block = block; result = result.Plugged response } ∷ []
  pub added : AllByRecursion (λ t. IsAdded t.result) before
  pub refused : IsRefusal response

-- each block that was plugged at the start was tried, and is unplugged, or stayed for a reason
pub record AreAllTried (s : Sizes) (plugged : List ℕ) (tried : List Tried) : Type 0 where
  pub whole : map block_of tried ≡ reverse plugged
  pub reasons : AllByRecursion (λ t. IsGoneOrKept s t.block t.result) tried

-- So many bytes are plugged at the end, which isn't the goal.
pub record HasShort (s : Sizes) (goal : ℕ) (plugged : List ℕ) (log : List Exchange) (bytes goal_bytes : ℕ) (tried : List Tried) : Type 0 where
  pub run : IsRun s goal plugged tried log
  pub size : bytes ≡ plugged_after (length plugged) tried * block_bytes s
  pub goal_size : goal_bytes ≡ goal * block_bytes s
  pub not_at_goal : plugged_after (length plugged) tried ≢ goal
  pub below : plugged_after (length plugged) tried < goal → IsRefusedAtLast tried
  pub above : goal < plugged_after (length plugged) tried → AreAllTried s plugged tried

-- ---- under way

-- of the block that is being tried
abbrev pub part_log : Stage → List Exchange
part_log (Plugging b) = []
part_log (Joining b state) = gave (action.Plug b 1) (seen.Answered (Ack state)) ∷ []
part_log (Evacuating b) = []
part_log (Leaving b) = gave (action.Evacuate b) seen.Emptied ∷ []
part_log (Zeroing b) = gave (action.Evacuate b) seen.Emptied ∷ gave (action.Offline b) seen.Done ∷ []
part_log (Unplugging b) = emptied_log b
part_log (Returning b response) = emptied_log b ++ gave (action.Unplug b 1) (seen.Answered response) ∷ []
part_log Settled = []
part_log Short = []

-- a block is to be plugged, which is the next one: the PLUGs before were acknowledged
pub record IsAdding (st : Resizing) (b : BlockNo) : Type 0 where
  pub side : st.plugged < st.goal
  pub rest : List ℕ
  pub next : st.blocks ≡ map block_of st.tried ++ b.0 ∷ rest
  pub added : AllByRecursion (λ t. IsAdded t.result) st.tried

-- a block is to be unplugged, which is the next one: those before are unplugged, or stayed for a reason
pub record IsRemoving (st : Resizing) (b : BlockNo) : Type 0 where
  pub side : st.goal < st.plugged
  pub rest : List ℕ
  pub next : st.blocks ≡ map block_of st.tried ++ b.0 ∷ rest
  pub reasons : AllByRecursion (λ t. IsGoneOrKept st.sizes t.block t.result) st.tried

abbrev pub Stands : Resizing → (plugged : List ℕ) → Stage → Type 0
Stands st plugged (Plugging b) = IsAdding st b
Stands st plugged (Joining b state) = IsAdding st b
Stands st plugged (Returning b response) = IsRefusal response × IsRemoving st b
Stands st plugged Settled = st.plugged ≡ st.goal
Stands st plugged Short =
    (st.plugged ≢ st.goal) × (st.plugged < st.goal → IsRefusedAtLast st.tried) × (st.goal < st.plugged → AreAllTried st.sizes plugged st.tried)
Stands st plugged (Evacuating b) = IsRemoving st b
Stands st plugged (Leaving b) = IsRemoving st b
Stands st plugged (Zeroing b) = IsRemoving st b
Stands st plugged (Unplugging b) = IsRemoving st b

-- A resize that began with these plugged blocks goes by what it asked and was told.
pub record GoesBy (st : Resizing) (plugged : List ℕ) (log : List Exchange) : Type 0 where
  pub rising : IsRisingBelow st.sizes.managed plugged
  pub few : st.goal ≤ st.sizes.managed
  pub blocks : st.blocks ≡ to_try st.sizes st.goal plugged
  pub counted : st.plugged ≡ plugged_after (length plugged) st.tried
  pub done : List Exchange
  pub run : IsRun st.sizes st.goal plugged st.tried done
  pub whole : log ≡ done ++ part_log st.stage
  pub stands : Stands st plugged st.stage

-- a cause that is told of an evacuation was met in it
abbrev pub IsTrueAt : Sizes → Stage → ResizeSeen → Type 0
IsTrueAt s (Evacuating b) (seen.Failed cause) = WasMet s b cause
IsTrueAt s _ _ = Unit {0}

abbrev pub IsTrue : Resizing → ResizeSeen → Type 0
IsTrue st told = IsTrueAt st.sizes st.stage told
