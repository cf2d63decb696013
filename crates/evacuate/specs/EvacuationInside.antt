-- What the fields of an evacuation keep.
use Rattle.std.specs.Prelude.{◌≡◌, ℕ, ◌<◌, ◌≤◌, true, Option, None, Some}
use Rattle.evac_model.specs.declared.names.BlockNo.{BlockNo}
use Rattle.evac_model.specs.declared.evacuation.MoveLease.{MoveLease}
use Rattle.evac_model.specs.Geometry.{Sizes}
use Rattle.evac_model.specs.SpaceJournal.{is_frame_of}
use Rattle.evacuate.specs.declared.stage.Stage.{Stage}
use Rattle.evacuate.specs.declared.stage.Stage.TheVariants.{Moving, Returning}

-- the page that is being moved lies in the block
abbrev pub IsInBlock : Sizes → BlockNo → Stage → Type 0
IsInBlock s b (Moving lease) = is_frame_of s b.0 lease.from.0 ≡ true
IsInBlock s b (Returning a) = is_frame_of s b.0 a.lease.from.0 ≡ true
IsInBlock s b _ = Unit {0}

-- the first busy page lies in it
abbrev pub IsBusyInBlock : Sizes → BlockNo → Option MoveLease → Type 0
IsBusyInBlock s b None = Unit {0}
IsBusyInBlock s b (Some lease) = is_frame_of s b.0 lease.from.0 ≡ true

pub record IsEvacuationInside (s : Sizes) (b : BlockNo) (stage : Stage) (round : ℕ) (busy : Option MoveLease) : Type 0 where
  pub managed : b.0 < s.managed
  pub few : round ≤ 4
  pub stage_in : IsInBlock s b stage
  pub busy_in : IsBusyInBlock s b busy
