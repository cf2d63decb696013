-- What listeners are told by an action of a memory device, after QEMU's RamDiscardManager.
use Rattle.std.specs.Prelude.{ℕ, nat_lt, List, [], ◌∷◌, ◌++◌, map, flat_map, filter, Option, None, Some}
use Rattle.evac_model.specs.declared.device.Request.{Request}
use Rattle.evac_model.specs.declared.device.Request.TheVariants as requests
use Rattle.evac_model.specs.declared.device.Response.{Response}
use Rattle.evac_model.specs.declared.device.Response.TheVariants.{Ack, Busy}
use Rattle.evac_model.specs.declared.device_journal.DeviceAct.{DeviceAct}
use Rattle.evac_model.specs.declared.device_journal.DeviceAct.TheVariants as acts
use Rattle.evac_model.specs.declared.device_journal.Notice.{Notice}
use Rattle.evac_model.specs.declared.device_journal.Told.{Told}
use Rattle.evac_model.specs.declared.device_journal.Told.TheVariants.{PopulateOk, PopulateRefused, Discard}
use Rattle.evac_model.specs.Geometry.{Sizes}
use Rattle.evac_model.specs.DeviceAnswer.{block_at, request_in}

-- the listener of a key is told something of n blocks from first on; a listener that was refused has no key
abbrev pub notice : Option ℕ → (first n : ℕ) → Told → Notice
notice key first n told = record { key = key; first = record { 0 = first }; n = n; told = told }

-- each listener is told the same of one range
abbrev pub told_each : (keys : List ℕ) → (first n : ℕ) → Told → List Notice
told_each keys first n told = map (λ key. notice (Some key) first n told) keys

-- one listener is told the same of each block
abbrev pub told_blocks : Option ℕ → (blocks : List ℕ) → Told → List Notice
told_blocks key blocks told = map (λ b. notice key b 1 told) blocks

-- the numbers of a list below one
abbrev pub below : ℕ → List ℕ → List ℕ
below end xs = filter (λ x. nat_lt x end) xs

-- A PLUG tells each listener, by rising key, to map the range. Where one refuses, those told before are told to
-- discard it, and the rest are told nothing.
abbrev pub plug_notices : (keys : List ℕ) → (first n : ℕ) → (refused : Option ℕ) → List Notice
plug_notices keys first n None = told_each keys first n PopulateOk
plug_notices keys first n (Some key) =
    told_each (below key keys) first n PopulateOk
    ++ notice (Some key) first n PopulateRefused
    ∷ told_each (below key keys) first n Discard

-- an UNPLUG tells each listener to discard the range, an UNPLUG_ALL tells each of them to discard each plugged block
abbrev pub unplug_notices : (keys : List ℕ) → (first n : ℕ) → List Notice
unplug_notices keys first n = told_each keys first n Discard

abbrev pub unplug_all_notices : (keys plugged : List ℕ) → List Notice
unplug_all_notices keys plugged = flat_map (λ key. told_blocks (Some key) plugged Discard) keys

-- Who joins is told to map each plugged block. Where it refuses one, it is told to discard those before.
abbrev pub join_notices : (key : ℕ) → (plugged : List ℕ) → List Notice
join_notices key plugged = told_blocks (Some key) plugged PopulateOk

abbrev pub refused_join_notices : (plugged : List ℕ) → (refused : ℕ) → List Notice
refused_join_notices plugged refused =
    told_blocks None (below refused plugged) PopulateOk
    ++ notice None refused 1 PopulateRefused
    ∷ told_blocks None (below refused plugged) Discard

-- who leaves is told to discard each plugged block
abbrev pub leave_notices : (key : ℕ) → (plugged : List ℕ) → List Notice
leave_notices key plugged = told_blocks (Some key) plugged Discard

-- The notices of a request that was answered. `refused` is the key that refused a PLUG, where one did.
abbrev pub request_notices : Sizes → (keys plugged : List ℕ) → (refused : Option ℕ) → Option Request → Response → List Notice
request_notices s keys plugged refused (Some (requests.Plug addr count)) (Ack state) = plug_notices keys (block_at s addr) count None
request_notices s keys plugged (Some key) (Some (requests.Plug addr count)) Busy = plug_notices keys (block_at s addr) count (Some key)
request_notices s keys plugged refused (Some (requests.Unplug addr count)) (Ack state) = unplug_notices keys (block_at s addr) count
request_notices s keys plugged refused (Some requests.UnplugAll) (Ack state) = unplug_all_notices keys plugged
request_notices s keys plugged refused request response = []

-- The notices of a join that was refused at that block.
abbrev pub notices_of_refused_join : (plugged : List ℕ) → (refused : Option ℕ) → List Notice
notices_of_refused_join plugged None = []
notices_of_refused_join plugged (Some b) = refused_join_notices plugged b

-- The notices of an action of a device that has these plugged blocks and listeners with these keys. `refused` is the key
-- that refused a PLUG, or the block at which a join was refused.
abbrev pub action_notices : Sizes → (keys plugged : List ℕ) → (refused : Option ℕ) → DeviceAct → List Notice
action_notices s keys plugged refused (acts.Requested size) = []
action_notices s keys plugged refused (acts.Request bytes response) = request_notices s keys plugged refused (request_in bytes) response
action_notices s keys plugged refused (acts.Join key) = join_notices key plugged
action_notices s keys plugged refused acts.JoinRefused = notices_of_refused_join plugged refused
action_notices s keys plugged refused (acts.Leave key) = leave_notices key plugged
action_notices s keys plugged refused acts.Begin = []
action_notices s keys plugged refused acts.Cancel = []
action_notices s keys plugged refused acts.Finish = []
