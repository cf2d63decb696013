-- A run between two turns, and what a turn does.
use Rattle.std.specs.Prelude.{ℕ, zero, suc, ◌-◌, if◌then◌else◌, List, [], ◌∷◌, ◌++◌, slice_index_or, slice_set, Option, None, Some}
use Rattle.evac_model.specs.declared.host.HostLine.{HostLine}
use Rattle.evac_model.specs.declared.scenario.Actor.{Actor}
use Rattle.evac_model.specs.declared.scenario.Actor.TheVariants.{Owner, Host, Scanner}
use Rattle.core_actors.specs.HostHears.{host_after, line_after}
use Rattle.core_actors.specs.Hosts.{HostState, host_ended, host_action}
use Rattle.core_actors.specs.Owners.{OwnerState, owner_at_start, owner_ended, next_action, owner_after}
use Rattle.machine.specs.Made.{Made, made}
use Rattle.machine.specs.World.{Setting, World, device_now}

-- the world, how each owner stands, that of owner 1 first, how the host stands, and the lines of its commands that
-- have ended
pub record Running : Type 0 where
  pub world : World
  pub owners : List OwnerState
  pub host : HostState
  pub lines : List HostLine

-- what the run began with, and how it stands
pub record Run : Type 0 where
  pub setting : Setting
  pub running : Running

-- the owner with that number; one that isn't there has ended
abbrev pub owner_of : List OwnerState → ℕ → OwnerState
owner_of owners zero = owner_at_start 0 0 []
owner_of owners (suc i) = slice_index_or owners i (owner_at_start 0 0 [])

-- an owner's action did that, and the owner hears of it
abbrev pub owner_acted : Running → (owner : ℕ) → Made → Running
owner_acted m k x = record m { world = x.world; owners = slice_set m.owners (k - 1) (owner_after (owner_of m.owners k) x.heard) }

-- a turn of an owner; its seat has its number
abbrev pub after_owner_turn : Setting → Running → (owner : ℕ) → Running
after_owner_turn c m k =
    if owner_ended (owner_of m.owners k) then m
    else owner_acted m k (made c k m.world (next_action (owner_of m.owners k)))

abbrev pub line_list : Option HostLine → List HostLine
line_list None = []
line_list (Some line) = line ∷ []

-- the blocks that are plugged behind an action
abbrev pub plugged_behind : Setting → Made → List ℕ
plugged_behind c x = (device_now c x.world).plugged

-- the host's action did that, and the host hears of it, and which blocks are plugged then; its command may end there
abbrev pub host_acted : Setting → Running → Made → Running
host_acted c m x = record m {
  world = x.world;
  host = host_after (plugged_behind c x) m.host x.heard;
  lines = m.lines ++ line_list (line_after (plugged_behind c x) m.host x.heard);
}

-- a turn of the host; the driver's seat is its own
abbrev pub after_host_turn : Setting → Running → Running
after_host_turn c m =
    if host_ended m.host then m
    else host_acted c m (made c 0 m.world (host_action m.host))

-- A turn of an owner or of the host makes its next action, and nothing where it has ended. The scanner has ended
-- from the beginning.
abbrev pub after_turn : Setting → Running → Actor → Running
after_turn c m (Owner k) = after_owner_turn c m k
after_turn c m Host = after_host_turn c m
after_turn c m Scanner = m

-- turns, one after another
abbrev pub after_turns : Setting → Running → List Actor → Running
after_turns c m [] = m
after_turns c m (a ∷ rest) = after_turns c (after_turn c m a) rest

-- the run after turns, one after another
abbrev pub run_after : Run → List Actor → Run
run_after r turns = record r { running = after_turns r.setting r.running turns }
