use Rattle.std.proofs.Common.{◌≡◌, ℕ, ◌<◌, refl, ap, ◌∙◌, arith}
use Rattle.evac_model.specs.declared.names.BlockNo.{BlockNo}
use Rattle.evac_model.specs.declared.space.SpaceAction.TheVariants as space
use Rattle.evac_model.specs.Geometry.{Sizes, first_frame}
use Rattle.core_state.specs.CoreState.{CoreState}
use Rattle.space.specs.JournaledSpace.{JournaledSpace, with_action}
use Rattle.machine.specs.declared.action.Heard.TheVariants.{Nothing}
use Rattle.machine.specs.declared.parts.Parts.{Parts}
use Rattle.machine.specs.Made.{Made, handed_frames, online_made}
use Rattle.machine.specs.MachineInside.{IsMachine, setting_of, world_of}
use Rattle.machine.specs.MayMake.{MayPutOnline}
use Rattle.machine.specs.World.{free_seat}
use Rattle.machine.proofs.HeldParts.{frames_may, frames_handed, machine_online}
use Rattle.machine.proofs.OnlinesKept.{online_managed, online_hands}
use Rattle.machine.proofs.PartsKept.{setting_again, made_again}
use Rattle.machine.proofs.block_calls.put_online.Goals as goal

module _ (a : Parts) (block : BlockNo) (is : IsMachine a) (may : MayPutOnline (setting_of a) 0 (world_of a) block) where
  managed : block.0 < a.space.sizes.managed
  managed = online_managed (setting_of a) (world_of a) block is.set is.consistent may

  -- the block's frames, as the geometry names them, changed hands
  module _ (g : Sizes) (frame n : ℕ) (sizes : g ≡ a.space.sizes) (first : frame ≡ first_frame g block.0) (size : n ≡ g.block)
      (core : CoreState) (sp : JournaledSpace) (opening : core.opening ≡ a.core.opening) (snapshot : core.snapshot ≡ handed_frames a.core.snapshot 0 (free_seat (setting_of a)) frame n) (taken : sp ≡ with_action (space.Online block) a.space) where
    setting_then : setting_of (record a { core = core; space = sp }) ≡ setting_of a
    setting_then = setting_again a core sp (space.Online block) opening taken

    world_then : world_of (record a { core = core; space = sp }) ≡ (online_made (setting_of a) (world_of a) block).world
    world_then = ap (λ (m : Made). m.world)
        (made_again a core sp (space.Online block) opening taken (handed_frames a.core.snapshot 0 (free_seat (setting_of a)) (first_frame a.space.sizes block.0) a.space.sizes.block) Nothing
        (snapshot ∙ frames_handed a.space.sizes g block frame n sizes first size a.core.snapshot 0 (free_seat (setting_of a))))

pub part-requires-clause-below : goal.part-requires-clause-below
part-requires-clause-below c =
    let low = managed c.args.parts.now c.args.block c.requires.is c.requires.may in
    let room = c.requires.is.room in
    omega (arith, low, room)

pub frames_of-requires : goal.frames_of-requires
frames_of-requires c =
    let low = managed c.args.parts.now c.args.block c.requires.is c.requires.may in
    let same : c.geometry-g.result.managed ≡ c.args.parts.now.space.sizes.managed = ap (λ (s : Sizes). s.managed) c.geometry-g.ensures.sizes in
    omega (arith, low, same)

pub hand_over-requires-clause-may : goal.hand_over-requires-clause-may
hand_over-requires-clause-may c =
    let a = c.args.parts.now in
    frames_may a.space.sizes c.geometry-g.result c.args.block _ _ c.geometry-g.ensures.sizes c.frames_of.ensures.first c.block.ensures.size _ _ _
    (online_hands (setting_of a) (world_of a) c.args.block c.requires.is.set c.requires.is.consistent c.requires.may)

pub returns-clause-is : goal.returns-clause-is
returns-clause-is c =
    let a = c.args.parts.now in
    let sizes = c.geometry-g.ensures.sizes in
    let first = c.frames_of.ensures.first in
    let size = c.block.ensures.size in
    machine_online a c.requires.is c.args.block c.requires.may _
    (setting_then a c.args.block c.requires.is c.requires.may c.geometry-g.result _ _ sizes first size c.hand_over.new.core c.online.new.self c.hand_over.ensures.opening c.hand_over.ensures.snapshot c.online.ensures.given)
    (world_then a c.args.block c.requires.is c.requires.may c.geometry-g.result _ _ sizes first size c.hand_over.new.core c.online.new.self c.hand_over.ensures.opening c.hand_over.ensures.snapshot c.online.ensures.given)
    refl c.part.ensures.keeps c.part.ensures.room
