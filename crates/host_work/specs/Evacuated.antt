-- What an evacuation of a block does to the frame space.
use Rattle.std.specs.Prelude.{◌≡◌, List, [], ◌∷◌, Option, None, Some}
use Rattle.std.specs.List.{flat_map}
use Rattle.evac_model.specs.declared.names.BlockNo.{BlockNo}
use Rattle.evac_model.specs.declared.evacuation.EvacCause.{EvacCause}
use Rattle.evac_model.specs.declared.space.SpaceAction.{SpaceAction}
use Rattle.evac_model.specs.declared.space.SpaceAction.TheVariants as space
use Rattle.evac_model.specs.Geometry.{Sizes}
use Rattle.evacuate.specs.declared.action.EvacAction.{EvacAction}
use Rattle.evacuate.specs.declared.action.EvacAction.TheVariants.{Isolate, Lease, GiveBack, Undo}
use Rattle.evacuate.specs.declared.seen.EvacSeen.{EvacSeen}
use Rattle.evacuate.specs.declared.seen.EvacSeen.TheVariants.{Isolated, Leased, Done}
use Rattle.evacuate.specs.declared.stage.Stage.{Stage}
use Rattle.evacuate.specs.declared.stage.Stage.TheVariants.{Emptied, Failed}
use Rattle.evacuate.specs.Evacuating.{Evacuating}
use Rattle.evacuate.specs.Tale.{Exchange, Tale}
use Rattle.evacuate.specs.UnderWay.{GoesBy, log_of}

-- The action of the frame space that an exchange stands for, if any. What is refused makes none, and a move is one of
-- steps on words.
abbrev pub space_action : EvacAction → EvacSeen → List SpaceAction
space_action (Isolate block) Isolated = space.Isolate block ∷ []
space_action (Lease block after) (Leased lease) = space.MoveLease lease.target lease.page ∷ []
space_action (GiveBack frame) Done = space.Return 0 frame ∷ []
space_action (Undo block) Done = space.Undo block ∷ []
space_action asked told = []

abbrev pub space_actions : List Exchange → List SpaceAction
space_actions log = flat_map (λ x. space_action x.asked x.told) log

-- where an evacuation ends: with no cause the block is empty
abbrev pub end_by : Option EvacCause → Stage
end_by None = Emptied
end_by (Some cause) = Failed cause

-- An evacuation of the block went by a tale of rounds and attempts to that end, and did this to the frame space. A cause was met
-- by what the evacuation was told: that this was true is said by `Truth`.
pub record WasEvacuated (s : Sizes) (b : BlockNo) (cause : Option EvacCause) (actions : List SpaceAction) : Type 0 where
  pub evacuation : Evacuating
  pub tale : Tale
  pub sizes : evacuation.sizes ≡ s
  pub block : evacuation.block ≡ b
  pub ended : evacuation.stage ≡ end_by cause
  pub goes_by : GoesBy evacuation tale
  pub made : actions ≡ space_actions (log_of evacuation tale)

-- whatever the driver had done before
abbrev pub by_tale : Sizes → (before : List SpaceAction) → BlockNo → Option EvacCause → List SpaceAction → Type 0
by_tale s before b cause actions = WasEvacuated s b cause actions
