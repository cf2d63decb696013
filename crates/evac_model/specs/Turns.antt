-- What the turns of a scenario are.
use Rattle.std.specs.Prelude.{ℕ, ◌^◌, ◌<◌, ◌≤◌, List, sum_by}
use Rattle.evac_model.specs.declared.scenario.Actor.{Actor}
use Rattle.evac_model.specs.declared.scenario.Actor.TheVariants.{Owner, Host, Scanner}
use Rattle.evac_model.specs.declared.scenario.Turn.{Turn}
use Rattle.evac_model.specs.declared.scenario.Drawn.{Drawn}

-- an owner has a number from 1 to 16, whether it has a script or not
abbrev pub IsActor : Actor → Type 0
IsActor (Owner k) = (1 ≤ k) × (k ≤ 16)
IsActor Host = Unit {0}
IsActor Scanner = Unit {0}

-- 1 to 2^24 turns of an actor
pub record IsTurn (t : Turn) : Type 0 where
  pub actor : IsActor t.actor
  pub some : 1 ≤ t.count
  pub most : t.count ≤ 2 ^ 24

-- the named turns, one by one
abbrev pub turn_count : List Turn → ℕ
turn_count turns = sum_by (λ t. t.count) turns

-- at most 2^24 turns, drawn from a number of 64 bits
pub record IsDraw (d : Drawn) : Type 0 where
  pub number : d.number < 2 ^ 64
  pub most : d.count ≤ 2 ^ 24
