-- How an owner is kept: its script, and the place in it.
use Rattle.std.specs.Prelude.{◌≤◌, length, drop}
use Rattle.std.specs.List.{AllByRecursion}
use Rattle.core_actors.specs.declared.owner.Owner.TheInside.{Inside}
use Rattle.core_actors.specs.CallSteps.{IsCallOf}
use Rattle.core_actors.specs.Counts.{IsUnderWay}
use Rattle.core_actors.specs.Owners.{OwnerState}

abbrev pub state_of : Inside → OwnerState
state_of a = record { owner = a.owner; cells = a.geometry.cells; left = drop a.at a.calls; place = a.place }

pub record IsOwnerInside (a : Inside) : Type 0 where
  pub cells : a.geometry.cells ≤ 512
  pub calls : AllByRecursion (λ c. IsCallOf a.geometry c) a.calls
  pub place : a.at ≤ length a.calls
  pub under_way : IsUnderWay (state_of a)
