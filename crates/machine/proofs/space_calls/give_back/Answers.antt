use Rattle.std.proofs.Common.{◌≡◌, ℕ, refl}
use Rattle.evac_model.specs.declared.names.FrameNo.{FrameNo}
use Rattle.evac_model.specs.declared.space.SpaceAction.TheVariants as space
use Rattle.core_state.specs.CoreState.{CoreState}
use Rattle.space.specs.JournaledSpace.{JournaledSpace, with_action}
use Rattle.machine.specs.declared.action.Heard.TheVariants.{Nothing}
use Rattle.machine.specs.declared.parts.Parts.{Parts}
use Rattle.machine.specs.Made.{return_made, handed}
use Rattle.machine.specs.MachineInside.{IsMachine, setting_of, world_of, made_of}
use Rattle.machine.specs.MayMake.{MayReturn}
use Rattle.machine.specs.World.{Setting, World, free_seat}
use Rattle.machine.proofs.PartsKept.{machine_again, setting_again, made_again}
use Rattle.machine.proofs.ReturnsKept.{return_kept, return_held}
use Rattle.machine.proofs.space_calls.give_back.Goals as goal

module _ (a : Parts) (seat : ℕ) (frame : FrameNo) (is : IsMachine a) (may : MayReturn (setting_of a) seat (world_of a) frame)
    (core : CoreState) (sp : JournaledSpace) (opening : core.opening ≡ a.core.opening) (snapshot : core.snapshot ≡ handed a.core.snapshot seat (free_seat (setting_of a)) frame.0)
    (taken : sp ≡ with_action (space.Return seat frame) a.space) where
  abbrev s : Setting
  s = setting_of a

  abbrev w : World
  w = world_of a

  abbrev b : Parts
  b = record a { core = core; space = sp }

  returned_made : made_of b Nothing ≡ return_made s seat w frame
  returned_made = made_again a core sp (space.Return seat frame) opening taken (handed w.snapshot seat (free_seat s) frame.0) Nothing snapshot

  returned_setting : setting_of b ≡ s
  returned_setting = setting_again a core sp (space.Return seat frame) opening taken

  returned_machine : IsMachine b
  returned_machine =
      machine_again a b Nothing (return_made s seat w frame) is returned_setting refl refl returned_made
      (return_kept s seat w frame is.set is.consistent may)
      (return_held s seat w frame is.set is.consistent may)

pub returns-clause-is : goal.returns-clause-is
returns-clause-is c =
    returned_machine c.args.parts.now c.args.seat c.args.frame c.requires.is c.requires.may c.hand_over.new.core c.give_back.new.self
    c.hand_over.ensures.opening c.hand_over.ensures.snapshot c.give_back.ensures.returned
