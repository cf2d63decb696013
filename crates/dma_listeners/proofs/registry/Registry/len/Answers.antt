use Rattle.std.proofs.Common.{ap, ◌∙◌, length}
use Rattle.dma_listeners.specs.Registries.{live_keys}
use Rattle.dma_listeners.proofs.Ends.{count_live}
use Rattle.dma_listeners.proofs.registry.Registry.len.Goals as goal

pub returns : goal.returns
returns g c = c.len.ensures ∙ count_live c.self.inside.listeners.slots ∙ ap (λ r. length (live_keys r)) c.self.view_is
