-- The two kinds of places at which the frame space, the device and what was done stand: while a block is being emptied, page by page, and
-- at the rest of a command.
use Rattle.std.specs.Prelude.{⊤}
use Rattle.core_actors.specs.declared.host_place.HostPlace.{HostPlace}
use Rattle.core_actors.specs.declared.host_place.HostPlace.TheVariants as places

-- the evacuation of a block waits for an action, or a page of it is being moved
abbrev pub IsRoundPlace : HostPlace → Type 0
IsRoundPlace places.Asking = ⊥
IsRoundPlace places.Evacuating = ⊤
IsRoundPlace (places.Moving lease at) = ⊤
IsRoundPlace places.TakingAway = ⊥
IsRoundPlace (places.Zeroing frame cell) = ⊥
IsRoundPlace (places.MarkingZeros frame) = ⊥
IsRoundPlace (places.PuttingOnline result) = ⊥

-- the device is asked, an emptied block is taken away, or its frames zeroed, or blocks are put online
abbrev pub IsBlockPlace : HostPlace → Type 0
IsBlockPlace places.Asking = ⊤
IsBlockPlace places.Evacuating = ⊥
IsBlockPlace (places.Moving lease at) = ⊥
IsBlockPlace places.TakingAway = ⊤
IsBlockPlace (places.Zeroing frame cell) = ⊤
IsBlockPlace (places.MarkingZeros frame) = ⊤
IsBlockPlace (places.PuttingOnline result) = ⊤
