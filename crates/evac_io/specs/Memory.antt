-- What is seen of a source and a sink in memory that fail at listed calls.
use Rattle.std.specs.Prelude.{◌≡◌, ℕ, ◌<◌, ◌⊎◌, List, []}
use Rattle.evac_model.specs.Counts.{Calls, first_of_calls, IsListed}

-- a source: the bytes left, the calls so far and those that fail, and how many failed
pub record SourceState : Type 0 where
  pub left : List ℕ
  pub calls : Calls
  pub faults : ℕ

-- a source before its first call
abbrev pub fresh_source : List ℕ → List ℕ → SourceState
fresh_source bytes fails = record { left = bytes; calls = first_of_calls fails; faults = 0 }

-- a sink: the bytes taken, the room left in bytes, the calls so far and those that fail, and how many failed
pub record SinkState : Type 0 where
  pub taken : List ℕ
  pub room : ℕ
  pub calls : Calls
  pub faults : ℕ

-- a sink before its first call
abbrev pub fresh_sink : ℕ → List ℕ → SinkState
fresh_sink room fails = record { taken = []; room = room; calls = first_of_calls fails; faults = 0 }

-- a write of so many bytes is a listed call, or has bytes and finds no room
abbrev pub FailsAt : SinkState → ℕ → Type 0
FailsAt sink count = IsListed sink.calls ⊎ ((0 < count) × (sink.room ≡ 0))
