-- The parts of a machine behind an action that changes which blocks are in hand.
use Rattle.std.proofs.Common.{◌≡◌, ℕ, ◌+◌, ◌==◌, ◌<◌, ◌≤◌, Bool, true, false, not, ◌&&◌, ◌||◌, List, sym, ap, subst, ◌∙◌, arith}
use Rattle.std.specs.List.{range_with_len}
use Rattle.std.proofs.lemmas.Bool.{eqb-true}
use Rattle.evac_model.specs.declared.device_journal.DeviceAction.{DeviceAction}
use Rattle.evac_model.specs.declared.names.BlockNo.{BlockNo}
use Rattle.evac_model.specs.declared.space.SpaceAction.{SpaceAction}
use Rattle.evac_model.specs.Geometry.{Sizes, first_frame}
use Rattle.evac_model.specs.Numbers.{is_in, united, with_range, without_range, IsRisingBelow}
use Rattle.evac_model.proofs.Ranges.{between_one}
use Rattle.evac_model.proofs.Unions.{is_in-with_range, is_in-without_range, rising-with_range, rising-without_range}
use Rattle.core_state.specs.declared.opening.Opening.{Opening}
use Rattle.core_state.specs.declared.snapshot.Snapshot.{Snapshot}
use Rattle.core_state.specs.declared.view.View.{View}
use Rattle.core_state.specs.HandOvers.{MayHandOver}
use Rattle.dma_listeners.specs.Slates.{SlateState}
use Rattle.mem_device.specs.DeviceView.{DeviceView}
use Rattle.mem_device.specs.HandState.{HandState}
use Rattle.machine.specs.declared.action.Heard.{Heard}
use Rattle.machine.specs.declared.parts.Parts.{Parts}
use Rattle.machine.specs.Consistent.{IsSetting, IsConsistent}
use Rattle.machine.specs.Made.{Made, handed_frames, offline_made, online_made}
use Rattle.machine.specs.MachineInside.{IsMachine, setting_of, world_of}
use Rattle.machine.specs.MayMake.{MayTakeOffline, MayPutOnline}
use Rattle.machine.specs.World.{Setting, World, calls_now, is_held}
use Rattle.machine.proofs.BlockFrames.{is_in-one}
use Rattle.machine.proofs.OfflinesKept.{offline_kept, offline_managed, held_offline, was_not_held}
use Rattle.machine.proofs.OnlinesKept.{online_kept, held_online}

-- ---- which blocks are in hand

-- a block was taken out
pub without_one : (old now : HandState) (block b : ℕ) → now.blocks ≡ without_range block 1 old.blocks → is_in b now.blocks ≡ (is_in b old.blocks && not (b == block))
without_one old now block b keeps =
    ap (λ (l : List ℕ). is_in b l) keeps
    ∙ (is_in-without_range block 1 old.blocks b
    ∙ ap (λ (t : Bool). is_in b old.blocks && not t) (between_one block b))

-- a block was taken in
pub with_one : (old now : HandState) (block b : ℕ) → now.blocks ≡ with_range block 1 old.blocks → is_in b now.blocks ≡ (is_in b old.blocks || b == block)
with_one old now block b takes =
    ap (λ (l : List ℕ). is_in b l) takes
    ∙ (is_in-with_range block 1 old.blocks b
    ∙ ap (λ (t : Bool). is_in b old.blocks || t) (between_one block b))

-- ---- the frames of a block

-- as the geometry of the frame space names them
module _ (s g : Sizes) (block : BlockNo) (frame n : ℕ) (sizes : g ≡ s) (first : frame ≡ first_frame g block.0) (size : n ≡ g.block) where
  first_is : frame ≡ first_frame s block.0
  first_is = first ∙ ap (λ (x : Sizes). first_frame x block.0) sizes

  size_is : n ≡ s.block
  size_is = size ∙ ap (λ (x : Sizes). x.block) sizes

  pub frames_may : (o : Opening) (giver receiver : View) → MayHandOver o giver receiver (first_frame s block.0) s.block → MayHandOver o giver receiver frame n
  frames_may o giver receiver may = rw (first_is, size_is) may

  pub frames_handed : (x : Snapshot) (from to : ℕ) → handed_frames x from to frame n ≡ handed_frames x from to (first_frame s block.0) s.block
  frames_handed x from to =
      ap (λ (f : ℕ). handed_frames x from to f n) first_is
      ∙ ap (λ (k : ℕ). handed_frames x from to (first_frame s block.0) k) size_is

-- ---- the machine then

abbrev pub as_world : Snapshot → List SpaceAction → List DeviceAction → World
as_world snapshot journal device = record { snapshot = snapshot; space = journal; device = device }

abbrev pub as_made : World → Heard → Made
as_made world heard = record { world = world; heard = heard }

pub same_world : (x y : Snapshot) (i j : List SpaceAction) (d e : List DeviceAction) → x ≡ y → i ≡ j → d ≡ e → as_world x i d ≡ as_world y j e
same_world x y i j d e p q r = ap (λ (z : Snapshot). as_world z i d) p ∙ (ap (λ (l : List SpaceAction). as_world y l d) q ∙ ap (λ (l : List DeviceAction). as_world y j l) r)

-- it has the setting, a consistent world, the calls of that world's journal, and the blocks that the driver holds in it,
-- rising
pub machine_now : (a b : Parts) (w : World) → IsMachine a → setting_of b ≡ setting_of a → world_of b ≡ w → IsConsistent (setting_of a) w → b.device.sizes ≡ a.device.sizes → b.device.backing.calls ≡ calls_now (setting_of a) w
    → ((block : ℕ) → is_in block b.held.blocks ≡ is_held (setting_of a) w block) → b.held.room ≡ a.held.room → IsRisingBelow (setting_of a).sizes.managed b.held.blocks → IsMachine b
machine_now a b w m set is consistent sizes calls held room rising =
    let same : b.space.sizes ≡ a.space.sizes = ap (λ (x : Setting). x.sizes) set in
    record {
      set = subst (λ (x : Setting). IsSetting x) (sym set) m.set;
      consistent = subst (λ (x : Setting). IsConsistent x (world_of b)) (sym set) (subst (λ (y : World). IsConsistent (setting_of a) y) (sym is) consistent);
      device = sizes ∙ (m.device ∙ sym same);
      backing = calls ∙ sym (ap (λ (x : Setting). calls_now x (world_of b)) set ∙ ap (λ (y : World). calls_now (setting_of a) y) is);
      held = λ block. held block ∙ sym (ap (λ (x : Setting). is_held x (world_of b) block) set ∙ ap (λ (y : World). is_held (setting_of a) y block) is);
      rising = subst (λ (x : Sizes). IsRisingBelow x.managed b.held.blocks) (sym same) rising;
      room = room ∙ (m.room ∙ sym (ap (λ (x : Sizes). x.managed) same));
    }

-- the device is as it was
pub same_sizes : (a b : Parts) → b.device ≡ a.device → b.device.sizes ≡ a.device.sizes
same_sizes a b same = ap (λ (v : DeviceView SlateState HandState). v.sizes) same

pub same_calls : (a : Parts) → IsMachine a → (b : Parts) → b.device ≡ a.device → b.device.backing.calls ≡ calls_now (setting_of a) (world_of a)
same_calls a m b same = ap (λ (v : DeviceView SlateState HandState). v.backing.calls) same ∙ m.backing

module _ (a : Parts) (m : IsMachine a) (block : BlockNo) where
  abbrev c : Setting
  c = setting_of a

  abbrev w : World
  w = world_of a

  -- a block is put online, which was in hand
  module _ (may : MayPutOnline c 0 w block) where
    pub block_in_hand : (b : ℕ) → block.0 ≤ b → b < block.0 + 1 → is_in b a.held.blocks ≡ true
    block_in_hand b low high = m.held b ∙ (let same : b ≡ block.0 = omega arith in ap (λ (n : ℕ). is_held c w n) same ∙ may.held)

    pub machine_online : (b : Parts) → setting_of b ≡ c → world_of b ≡ (online_made c w block).world → b.device ≡ a.device → b.held.blocks ≡ without_range block.0 1 a.held.blocks → b.held.room ≡ a.held.room → IsMachine b
    machine_online b set is same keeps room =
        machine_now a b (online_made c w block).world m set is (online_kept c w block m.set m.consistent may) (same_sizes a b same) (same_calls a m b same)
        (λ n. without_one a.held b.held block.0 n keeps ∙ (ap (λ (t : Bool). t && not (n == block.0)) (m.held n) ∙ sym (held_online c w block m.set m.consistent may n))) room
        (subst (λ (l : List ℕ). IsRisingBelow a.space.sizes.managed l) (sym keeps) (rising-without_range block.0 1 a.space.sizes.managed a.held.blocks m.rising))

  -- a block is taken away, and taken in hand
  module _ (may : MayTakeOffline c 0 w block) (taken : HandState) (gives : taken.blocks ≡ range_with_len block.0 1) where
    -- it alone is taken in
    module _ (b : ℕ) (there : is_in b taken.blocks ≡ true) where
      is_block : b ≡ block.0
      is_block = eqb-true b block.0 (sym (ap (λ (l : List ℕ). is_in b l) gives ∙ is_in-one block.0 b) ∙ there)

      pub offline_below : b < a.held.room
      offline_below =
          let low = offline_managed c w block m.set m.consistent may in
          let same = is_block in
          let room = m.room in
          omega (arith, low, same, room)

      pub offline_apart : is_in b a.held.blocks ≡ false
      offline_apart = m.held b ∙ (ap (λ (n : ℕ). is_held c w n) is_block ∙ was_not_held c w block m.set m.consistent may)

    pub machine_offline : (b : Parts) → setting_of b ≡ c → world_of b ≡ (offline_made c w block).world → b.device ≡ a.device → b.held.blocks ≡ united a.held.blocks taken.blocks → b.held.room ≡ a.held.room → IsMachine b
    machine_offline b set is same takes room =
        let low = offline_managed c w block m.set m.consistent may in
        let more : b.held.blocks ≡ with_range block.0 1 a.held.blocks = takes ∙ ap (λ (l : List ℕ). united a.held.blocks l) gives in
        machine_now a b (offline_made c w block).world m set is (offline_kept c w block m.set m.consistent may) (same_sizes a b same) (same_calls a m b same)
        (λ n. with_one a.held b.held block.0 n more ∙ (ap (λ (t : Bool). t || n == block.0) (m.held n) ∙ sym (held_offline c w block m.set m.consistent may n))) room
        (subst (λ (l : List ℕ). IsRisingBelow a.space.sizes.managed l) (sym more) (rising-with_range block.0 1 a.space.sizes.managed a.held.blocks m.rising (omega arith)))
