use Rattle.std.proofs.Common.{◌≡◌, refl}
use Rattle.evac_model.specs.declared.names.BlockNo.{BlockNo}
use Rattle.evac_model.specs.declared.space.SpaceAction.TheVariants as space
use Rattle.space.specs.JournaledSpace.{JournaledSpace, with_action}
use Rattle.machine.specs.declared.action.Heard.TheVariants.{Nothing}
use Rattle.machine.specs.declared.parts.Parts.{Parts}
use Rattle.machine.specs.Made.{noted}
use Rattle.machine.specs.MachineInside.{IsMachine, setting_of, world_of, made_of}
use Rattle.machine.specs.MayMake.{MayUndo}
use Rattle.machine.proofs.NotesKept.{undo_kept, undo_held}
use Rattle.machine.proofs.PartsKept.{machine_again, setting_again, made_again}
use Rattle.machine.proofs.block_calls.undo.Goals as goal

module _ (a : Parts) (block : BlockNo) (is : IsMachine a) (may : MayUndo (setting_of a) 0 (world_of a) block) (sp : JournaledSpace) (taken : sp ≡ with_action (space.Undo block) a.space) where
  abbrev b : Parts
  b = record a { space = sp }

  undone_made : made_of b Nothing ≡ noted (world_of a) (space.Undo block)
  undone_made = made_again a a.core sp (space.Undo block) refl taken a.core.snapshot Nothing refl

  undone_machine : IsMachine b
  undone_machine =
      machine_again a b Nothing (noted (world_of a) (space.Undo block)) is (setting_again a a.core sp (space.Undo block) refl taken) refl refl undone_made
      (undo_kept (setting_of a) (world_of a) block is.set is.consistent may)
      (undo_held (setting_of a) (world_of a) block)

pub returns-clause-is : goal.returns-clause-is
returns-clause-is c =
    undone_machine c.args.parts.now c.args.block c.requires.is c.requires.may c.undo.new.self c.undo.ensures.undone
