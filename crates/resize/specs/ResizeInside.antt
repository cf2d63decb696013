-- What the fields of a resize keep.
use Rattle.std.specs.Prelude.{ℕ, ◌<◌, ◌≤◌, Bool, true, false, vec_len, vec_capacity}
use Rattle.evac_model.specs.Geometry.{IsWithinLimits}
use Rattle.resize.specs.declared.stage.Stage.{Stage}
use Rattle.resize.specs.declared.stage.Stage.TheVariants.{Plugging, Joining, Settled, Short}
use Rattle.resize.specs.declared.resize.Resize.TheInside.{Inside}

-- below the goal blocks are plugged, above it they are unplugged
abbrev pub IsOnSide : (goal plugged : ℕ) → Stage → Type 0
IsOnSide goal plugged (Plugging b) = plugged < goal
IsOnSide goal plugged (Joining b state) = plugged < goal
IsOnSide goal plugged Settled = Unit {0}
IsOnSide goal plugged Short = Unit {0}
IsOnSide goal plugged _ = goal < plugged

-- whether it is at its end
abbrev pub is_over : Stage → Bool
is_over Settled = true
is_over Short = true
is_over _ = false

-- while a block is tried, there is room for what comes of it
abbrev pub HasRoom : (used blocks room : ℕ) → Stage → Type 0
HasRoom used blocks room Settled = Unit {0}
HasRoom used blocks room Short = Unit {0}
HasRoom used blocks room _ = (used < blocks) × (blocks ≤ room)

pub record IsResizeInside (a : Inside) : Type 0 where
  pub within : IsWithinLimits a.geometry
  pub goal : a.goal ≤ a.geometry.managed
  pub plugged : a.plugged ≤ a.geometry.managed
  pub side : IsOnSide a.goal a.plugged a.stage
  pub room : HasRoom (vec_len a.tried) (vec_len a.blocks) (vec_capacity a.tried) a.stage
