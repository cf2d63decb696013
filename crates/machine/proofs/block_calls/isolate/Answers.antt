use Rattle.std.proofs.Common.{◌≡◌, refl, sym, ap, ◌∙◌, Option, None}
use Rattle.evac_model.specs.declared.names.BlockNo.{BlockNo}
use Rattle.evac_model.specs.declared.names.FrameNo.{FrameNo}
use Rattle.evac_model.specs.declared.names.PageNo.{PageNo}
use Rattle.evac_model.specs.declared.space.SpaceAction.TheVariants as space
use Rattle.space.specs.JournaledSpace.{JournaledSpace, with_action}
use Rattle.space.specs.Refusals.{first_unmovable}
use Rattle.machine.specs.declared.action.Heard.TheVariants.{Nothing}
use Rattle.machine.specs.declared.parts.Parts.{Parts}
use Rattle.machine.specs.Made.{isolate_made}
use Rattle.machine.specs.MachineInside.{IsMachine, setting_of, world_of, made_of}
use Rattle.machine.specs.MayMake.{MayIsolate}
use Rattle.machine.specs.World.{Setting, World, space_now}
use Rattle.machine.proofs.NotesKept.{isolate_kept, isolate_held}
use Rattle.machine.proofs.PartsKept.{machine_again, setting_again, made_again}
use Rattle.machine.proofs.block_calls.isolate.Goals as goal

module _ (a : Parts) (block : BlockNo) (is : IsMachine a) (may : MayIsolate (setting_of a) 0 (world_of a) block) where
  abbrev s : Setting
  s = setting_of a

  abbrev w : World
  w = world_of a

  abbrev first : Option (FrameNo × PageNo)
  first = first_unmovable s.sizes (space_now s w) block.0

  -- no unmovable page lies in it
  module _ (sp : JournaledSpace) (none : first ≡ None) (taken : sp ≡ with_action (space.Isolate block) a.space) where
    abbrev b : Parts
    b = record a { space = sp }

    isolated_made : made_of b Nothing ≡ isolate_made w block first
    isolated_made = made_again a a.core sp (space.Isolate block) refl taken w.snapshot Nothing refl ∙ ap (λ (x : Option (FrameNo × PageNo)). isolate_made w block x) (sym none)

    isolated_setting : setting_of b ≡ s
    isolated_setting = setting_again a a.core sp (space.Isolate block) refl taken

    isolated_machine : IsMachine b
    isolated_machine =
        machine_again a b Nothing (isolate_made w block first) is isolated_setting refl refl isolated_made
        (isolate_kept s w block first is.set is.consistent may refl)
        (isolate_held s w block first)

pub returns-in-Ok-clause-is : goal.returns-in-Ok-clause-is
returns-in-Ok-clause-is c =
    isolated_machine c.args.parts.now c.args.block c.requires.is c.requires.may c.isolate.new.self c.in-Ok.ensures.movable c.in-Ok.ensures.ok
