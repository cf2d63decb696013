-- The parts of a machine behind an action that leaves the blocks in hand as they are.
use Rattle.std.proofs.Common.{◌≡◌, ℕ, [], ◌∷◌, ◌++◌, sym, ap, ◌∙◌, subst}
use Rattle.evac_model.specs.declared.space.SpaceAction.{SpaceAction}
use Rattle.evac_model.specs.Numbers.{is_in, IsRisingBelow}
use Rattle.core_state.specs.declared.opening.Opening.{Opening}
use Rattle.core_state.specs.declared.snapshot.Snapshot.{Snapshot}
use Rattle.core_state.specs.CoreState.{CoreState}
use Rattle.dma_listeners.specs.Slates.{SlateState}
use Rattle.mem_device.specs.DeviceView.{DeviceView}
use Rattle.mem_device.specs.HandState.{HandState}
use Rattle.space.specs.JournaledSpace.{JournaledSpace, with_action}
use Rattle.machine.specs.declared.action.Heard.{Heard}
use Rattle.machine.specs.declared.parts.Parts.{Parts}
use Rattle.machine.specs.Consistent.{IsSetting, IsConsistent}
use Rattle.machine.specs.Made.{Made}
use Rattle.machine.specs.MachineInside.{IsMachine, setting_of, world_of, made_of}
use Rattle.machine.specs.World.{Setting, World, calls_at, is_held}

-- the parts are a machine again
pub machine_again : (a b : Parts) (heard : Heard) (m : Made) → IsMachine a → setting_of b ≡ setting_of a → b.device ≡ a.device → b.held ≡ a.held → made_of b heard ≡ m
    → IsConsistent (setting_of a) m.world → ((block : ℕ) → is_held (setting_of a) m.world block ≡ is_held (setting_of a) (world_of a) block) → IsMachine b
machine_again a b heard m is set device hand made kept stays =
    let world : world_of b ≡ m.world = ap (λ (x : Made). x.world) made in
    record {
      set = subst (λ (c : Setting). IsSetting c) (sym set) is.set;
      consistent = subst (λ (c : Setting). IsConsistent c (world_of b)) (sym set) (subst (λ (w : World). IsConsistent (setting_of a) w) (sym world) kept);
      device = ap (λ (v : DeviceView SlateState HandState). v.sizes) device ∙ (is.device ∙ sym (ap (λ (c : Setting). c.sizes) set));
      backing =
          ap (λ (v : DeviceView SlateState HandState). v.backing.calls) device
          ∙ (is.backing
          ∙ sym (ap (λ (c : Setting). calls_at c b.device.journal) set ∙ ap (λ (v : DeviceView SlateState HandState). calls_at (setting_of a) v.journal) device));
      held = λ block. ap (λ (h : HandState). is_in block h.blocks) hand ∙ (is.held block ∙ (sym (stays block)
          ∙ (ap (λ (w : World). is_held (setting_of a) w block) (sym world) ∙ ap (λ (c : Setting). is_held c (world_of b) block) (sym set))));
      rising = subst (λ (h : HandState). IsRisingBelow b.space.sizes.managed h.blocks) (sym hand) (subst (λ (c : Setting). IsRisingBelow c.sizes.managed a.held.blocks) (sym set) is.rising);
      room = ap (λ (h : HandState). h.room) hand ∙ (is.room ∙ ap (λ (c : Setting). c.sizes.managed) (sym set));
    }

-- ---- frames changed hands, and the space has one more action

module _ (a : Parts) (core : CoreState) (sp : JournaledSpace) (action : SpaceAction) (opening : core.opening ≡ a.core.opening) (taken : sp ≡ with_action action a.space) where
  abbrev later : Parts
  later = record a { core = core; space = sp }

  pub setting_again : setting_of later ≡ setting_of a
  setting_again =
      ap (λ (s : JournaledSpace). setting_of (record a { core = core; space = s })) taken
      ∙ ap (λ (o : Opening). record (setting_of a) { opening = o }) opening

  pub made_again : (snapshot : Snapshot) (heard : Heard) → core.snapshot ≡ snapshot
      → made_of later heard ≡ record { world = record { snapshot = snapshot; space = a.space.journal ++ action ∷ []; device = a.device.journal }; heard = heard }
  made_again snapshot heard is =
      ap (λ (s : JournaledSpace). made_of (record a { core = core; space = s }) heard) taken
      ∙ ap (λ (x : Snapshot). let m : Made = record { world = record { snapshot = x; space = a.space.journal ++ action ∷ []; device = a.device.journal }; heard = heard } in m) is
