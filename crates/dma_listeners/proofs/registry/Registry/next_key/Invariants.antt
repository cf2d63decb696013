use Rattle.std.proofs.Common.{◌≡◌, ℕ, ◌<◌, ◌≤◌, false}
use Rattle.dma_listeners.specs.Registries.{is_live}
use Rattle.dma_listeners.proofs.registry.Registry.next_key.Given as goal

abbrev pub invariant-loop-key : goal.invariant-loop-key
invariant-loop-key g l = (k : ℕ) → l.from ≤ k → k < l.key → is_live l.self-inside.listeners.slots k ≡ false
