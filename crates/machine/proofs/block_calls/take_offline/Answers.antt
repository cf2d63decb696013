use Rattle.std.proofs.Common.{◌≡◌, ℕ, ◌<◌, refl, ap, ◌∙◌, arith, is_err, OnOk, Result}
use Rattle.evac_model.specs.declared.names.BlockNo.{BlockNo}
use Rattle.evac_model.specs.declared.space.NotEmpty.{NotEmpty}
use Rattle.evac_model.specs.declared.space.SpaceAction.TheVariants as space
use Rattle.evac_model.specs.Geometry.{Sizes, first_frame}
use Rattle.core_state.specs.CoreState.{CoreState}
use Rattle.space.specs.JournaledSpace.{JournaledSpace, space_state, with_action}
use Rattle.space.specs.Refusals.{frames_out_of, emptiness}
use Rattle.space.proofs.Journals.{promised}
use Rattle.space.proofs.NextOut.{emptied_none}
use Rattle.machine.specs.declared.action.Heard.TheVariants.{Nothing}
use Rattle.machine.specs.declared.parts.Parts.{Parts}
use Rattle.machine.specs.Made.{Made, handed_frames, offline_made}
use Rattle.machine.specs.MachineInside.{IsMachine, setting_of, world_of, made_of}
use Rattle.machine.specs.MayMake.{MayTakeOffline}
use Rattle.machine.specs.World.{free_seat}
use Rattle.machine.proofs.HeldParts.{frames_may, frames_handed, offline_below, offline_apart, machine_offline}
use Rattle.machine.proofs.OfflinesKept.{offline_managed, offline_hands}
use Rattle.machine.proofs.PartsKept.{setting_again, made_again}
use Rattle.machine.proofs.block_calls.take_offline.Goals as goal

module _ (a : Parts) (block : BlockNo) (is : IsMachine a) (may : MayTakeOffline (setting_of a) 0 (world_of a) block) where
  managed : block.0 < a.space.sizes.managed
  managed = offline_managed (setting_of a) (world_of a) block is.set is.consistent may

  -- none of its frames is out, so that it isn't refused
  taken_off : (r : Result Unit NotEmpty) (sp : JournaledSpace) → r ≡ emptiness (frames_out_of a.space.sizes (space_state a.space) block.0) → OnOk r (sp ≡ with_action (space.Offline block) a.space) → sp ≡ with_action (space.Offline block) a.space
  taken_off r sp empty ok =
      promised r (sp ≡ with_action (space.Offline block) a.space)
      (ap (λ (x : Result Unit NotEmpty). is_err x) (empty ∙ ap emptiness (emptied_none a.space.sizes (space_state a.space) block.0 may.emptied))) ok

  -- the block's frames, as the geometry names them, changed hands
  module _ (g : Sizes) (frame n : ℕ) (sizes : g ≡ a.space.sizes) (first : frame ≡ first_frame g block.0) (size : n ≡ g.block)
      (core : CoreState) (sp : JournaledSpace) (opening : core.opening ≡ a.core.opening) (snapshot : core.snapshot ≡ handed_frames a.core.snapshot (free_seat (setting_of a)) 0 frame n) (taken : sp ≡ with_action (space.Offline block) a.space) where
    setting_then : setting_of (record a { core = core; space = sp }) ≡ setting_of a
    setting_then = setting_again a core sp (space.Offline block) opening taken

    made_then : made_of (record a { core = core; space = sp }) Nothing ≡ offline_made (setting_of a) (world_of a) block
    made_then =
        made_again a core sp (space.Offline block) opening taken (handed_frames a.core.snapshot (free_seat (setting_of a)) 0 (first_frame a.space.sizes block.0) a.space.sizes.block) Nothing
        (snapshot ∙ frames_handed a.space.sizes g block frame n sizes first size a.core.snapshot (free_seat (setting_of a)) 0)

pub frames_of-requires : goal.frames_of-requires
frames_of-requires c =
    let low = managed c.args.parts.now c.args.block c.requires.is c.requires.may in
    let same : c.geometry-g.result.managed ≡ c.args.parts.now.space.sizes.managed = ap (λ (s : Sizes). s.managed) c.geometry-g.ensures.sizes in
    omega (arith, low, same)

pub hand_over-requires-clause-may : goal.hand_over-requires-clause-may
hand_over-requires-clause-may c =
    let a = c.args.parts.now in
    frames_may a.space.sizes c.geometry-g.result c.args.block _ _ c.geometry-g.ensures.sizes c.frames_of.ensures.first c.block.ensures.size _ _ _
    (offline_hands (setting_of a) (world_of a) c.args.block c.requires.is.set c.requires.is.consistent c.requires.may)

pub merge-requires-clause-below : goal.merge-requires-clause-below
merge-requires-clause-below c b there =
    offline_below c.args.parts.now c.requires.is c.args.block c.requires.may c.range.result c.range.ensures b there

pub merge-requires-clause-apart : goal.merge-requires-clause-apart
merge-requires-clause-apart c b there =
    offline_apart c.args.parts.now c.requires.is c.args.block c.requires.may c.range.result c.range.ensures b there

pub returns-clause-made : goal.returns-clause-made
returns-clause-made c =
    let a = c.args.parts.now in
    made_then a c.args.block c.requires.is c.requires.may c.geometry-g.result _ _ c.geometry-g.ensures.sizes c.frames_of.ensures.first c.block.ensures.size
    c.hand_over.new.core c.offline.new.self c.hand_over.ensures.opening c.hand_over.ensures.snapshot
    (taken_off a c.args.block c.requires.is c.requires.may c.offline.result c.offline.new.self c.offline.ensures.empty c.offline.ensures.ok)

pub returns-clause-is : goal.returns-clause-is
returns-clause-is c =
    let a = c.args.parts.now in
    let block = c.args.block in
    let is = c.requires.is in
    let may = c.requires.may in
    let g = c.geometry-g.result in
    let core = c.hand_over.new.core in
    let sp = c.offline.new.self in
    let sizes = c.geometry-g.ensures.sizes in
    let first = c.frames_of.ensures.first in
    let size = c.block.ensures.size in
    let off = taken_off a block is may c.offline.result sp c.offline.ensures.empty c.offline.ensures.ok in
    machine_offline a is block may c.range.result c.range.ensures _
    (setting_then a block is may g _ _ sizes first size core sp c.hand_over.ensures.opening c.hand_over.ensures.snapshot off)
    (ap (λ (m : Made). m.world) (made_then a block is may g _ _ sizes first size core sp c.hand_over.ensures.opening c.hand_over.ensures.snapshot off))
    refl c.merge.ensures.takes c.merge.ensures.room
