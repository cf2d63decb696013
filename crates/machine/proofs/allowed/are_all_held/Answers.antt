use Rattle.std.proofs.Common.{◌≡◌, ℕ, ◌≤◌, List, sym, ap, ◌∙◌, subst, arith}
use Rattle.evac_model.specs.DeviceAnswer.{DeviceState}
use Rattle.evac_model.specs.DeviceBlocks.{device_blocks}
use Rattle.evac_model.specs.Geometry.{Sizes}
use Rattle.evac_model.specs.Numbers.{IsRisingBelow}
use Rattle.machine.specs.MachineInside.{setting_of, world_of}
use Rattle.machine.specs.World.{device_now, is_held}
use Rattle.machine.proofs.HeldTests.{none_fails, list_passes, device_is}
use Rattle.machine.proofs.allowed.are_all_held.Goals as goal

pub returns : goal.returns
returns c =
    let a = c.args.parts.now in
    let test = λ (b : ℕ). is_held (setting_of a) (world_of a) b in
    let blocks : List ℕ = (device_now (setting_of a) (world_of a)).plugged in
    let same : c.plugged-map.result.now.plugged ≡ blocks = c.plugged-map.ensures.plugged ∙ ap (λ (d : DeviceState). d.plugged) (device_is a c.requires.is) in
    let count : device_blocks c.plugged-map.result.now.sizes ≡ c.device_blocks-block-end.result = sym (c.device_blocks-block-end.ensures.size ∙ ap (λ (s : Sizes). device_blocks s) c.geometry.ensures.sizes) in
    let last : device_blocks c.plugged-map.result.now.sizes ≤ c.loop-block.block = omega (arith, count, c.loop-block-test.false) in
    none_fails test blocks
    (list_passes test (device_blocks c.plugged-map.result.now.sizes) c.loop-block.block blocks
    (subst (λ (l : List ℕ). IsRisingBelow (device_blocks c.plugged-map.result.now.sizes) l) same c.geometry.ensures.rising) last c.loop-block.invariant)
