use Rattle.std.proofs.Common.{◌∙◌, ◌≡◌, sym, ap, Some, ℕ}
use Rattle.dma_listeners.specs.Listening.{blocks_below}
use Rattle.dma_listeners.specs.Registries.{listener_at}
use Rattle.evac_model.specs.Geometry.{Sizes}
use Rattle.dma_listeners.proofs.Joins.{left_empty}
use Rattle.dma_listeners.proofs.registry.Registry.leave.Goals as goal

pub returns-clause-maps_none : goal.returns-clause-maps_none
returns-clause-maps_none g c exactly =
    let plugged = c.args.plugged.now.plugged in
    let blocks_are : c.device_blocks-blocks.result ≡ c.args.plugged.now.sizes.managed = c.device_blocks-blocks.ensures.size ∙ ap (λ (s : Sizes). s.managed) c.geometry.ensures.sizes in
    let blocks = ap (λ (n : ℕ). blocks_below plugged n) blocks_are ∙ sym c.geometry.ensures.rising in
    let found : listener_at c.args.self.now c.args.key ≡ Some c.in_ok-listener.listener = ap (λ r. listener_at r c.args.key) (sym c.self.view_is) ∙ sym c.in_ok-listener.ensures.value in
    left_empty g.L.Listener.mapped g.L.Listener.refusals g.L.Listener.limit g.L.Listener.room plugged (blocks_below plugged c.device_blocks-blocks.result) (listener_at c.args.self.now c.args.key) c.in_ok-listener.listener c.discard_blocks.new.listener found blocks c.discard_blocks.ensures.blocks (exactly c.args.key)
