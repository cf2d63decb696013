use Rattle.std.proofs.Common.{◌≡◌, ℕ, ◌<◌, true}
use Rattle.evac_model.specs.Numbers.{is_in}
use Rattle.machine.specs.MachineInside.{setting_of, world_of}
use Rattle.machine.specs.World.{device_now, is_held}
use Rattle.machine.proofs.allowed.are_all_held.Given as goal

abbrev pub invariant-loop-block : goal.invariant-loop-block
invariant-loop-block l =
    (b : ℕ) → b < l.block → is_in b (device_now (setting_of l.parts) (world_of l.parts)).plugged ≡ true → is_held (setting_of l.parts) (world_of l.parts) b ≡ true
