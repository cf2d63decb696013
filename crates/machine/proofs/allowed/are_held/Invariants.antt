use Rattle.std.proofs.Common.{◌≡◌, ℕ, ◌<◌, ◌≤◌, true}
use Rattle.machine.specs.MachineInside.{setting_of, world_of}
use Rattle.machine.specs.World.{is_held}
use Rattle.machine.proofs.allowed.are_held.Given as goal

abbrev pub invariant-loop-block : goal.invariant-loop-block
invariant-loop-block l = (b : ℕ) → l.fn.first.0 ≤ b → b < l.block → is_held (setting_of l.parts) (world_of l.parts) b ≡ true
