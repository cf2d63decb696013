-- How a host is kept: its commands, the place in them, and where the one under way stands.
use Rattle.std.specs.Prelude.{◌≡◌, ℕ, ◌<◌, ◌≤◌, Bool, nat_lt, List, length, drop, Option, ⊤, vec_len, vec_capacity}
use Rattle.std.specs.List.{AllByRecursion}
use Rattle.evac_model.specs.declared.host.HostLine.{HostLine}
use Rattle.evac_model.specs.Geometry.{Sizes, frame_count}
use Rattle.core_actors.specs.declared.host.Host.TheInside.{Inside}
use Rattle.core_actors.specs.declared.host_place.HostPlace.{HostPlace}
use Rattle.core_actors.specs.declared.host_place.HostPlace.TheVariants as places
use Rattle.core_actors.specs.declared.host_place.MovePlace.{MovePlace}
use Rattle.core_actors.specs.declared.host_place.MovePlace.TheVariants.{Taking, Beginning, Loading, Storing, Marking, Remapping, Releasing}
use Rattle.core_actors.specs.Hosts.{HostState}

-- a host, the line that it gives next, if any, and whether it has room for what comes of one block more
pub record HostView : Type 0 where
  pub state : HostState
  pub line : Option HostLine
  pub has_room : Bool

abbrev pub host_state : Inside → HostState
host_state a = record {
  sizes = a.geometry;
  left = drop a.at a.commands;
  number = a.at;
  place = a.place;
  evacuation = a.evacuation;
  blocks = a.blocks.items;
  waiting = a.waiting;
  tried = a.tried.items;
}

abbrev pub host_view : Inside → HostView
host_view a = record { state = host_state a; line = a.line; has_room = nat_lt (vec_len a.tried) (vec_capacity a.tried) }

-- a cell of a page
abbrev pub IsMoveInside : Sizes → MovePlace → Type 0
IsMoveInside s Taking = ⊤
IsMoveInside s Beginning = ⊤
IsMoveInside s (Loading cell) = cell < s.cells
IsMoveInside s (Storing cell value) = cell < s.cells
IsMoveInside s Marking = ⊤
IsMoveInside s Remapping = ⊤
IsMoveInside s (Releasing found) = ⊤

-- a frame and a cell of the machine; blocks are put online where there are some
abbrev pub IsPlaceInside : Sizes → (blocks : List ℕ) → (waiting : ℕ) → HostPlace → Type 0
IsPlaceInside s blocks waiting places.Asking = ⊤
IsPlaceInside s blocks waiting places.Evacuating = ⊤
IsPlaceInside s blocks waiting (places.Moving lease at) = IsMoveInside s at
IsPlaceInside s blocks waiting places.TakingAway = ⊤
IsPlaceInside s blocks waiting (places.Zeroing frame cell) = (frame.0 < frame_count s) × (cell < s.cells)
IsPlaceInside s blocks waiting (places.MarkingZeros frame) = frame.0 < frame_count s
IsPlaceInside s blocks waiting (places.PuttingOnline result) = waiting < length blocks

pub record IsHostInside (a : Inside) : Type 0 where
  pub at : a.at ≤ length a.commands
  pub waiting : a.waiting ≤ length a.blocks.items
  pub managed : AllByRecursion (λ b. b < a.geometry.managed) a.blocks.items
  pub roomy : a.geometry.managed ≤ vec_capacity a.blocks
  pub evacuation : a.evacuation.sizes ≡ a.geometry
  pub place : IsPlaceInside a.geometry a.blocks.items a.waiting a.place
