use Rattle.std.proofs.Common.{ap, ◌∙◌, ◌≡◌, [], ℕ}
use Rattle.evac_model.specs.Geometry.{Sizes}
use Rattle.evac_model.specs.Numbers.{without_range}
use Rattle.dma_listeners.proofs.Ends.{without_all}
use Rattle.dma_listeners.proofs.dma_map.DmaMap.new.Goals as goal

pub returns : goal.returns
returns c =
    let bound : c.device_blocks-blocks.result ≡ c.in_ok-map.map.sizes.managed = c.device_blocks-blocks.ensures.size ∙ ap (λ (s : Sizes). s.managed) c.geometry.ensures.sizes in
    let none : c.clear.new.self.plugged ≡ [] =
    c.clear.ensures.plugged ∙ ap (λ (n : ℕ). without_range 0 n c.in_ok-map.map.plugged) bound ∙ without_all c.in_ok-map.map.sizes.managed c.in_ok-map.map.plugged c.geometry.ensures.rising in
    let region : c.clear.new.self.sizes.managed ≡ c.args.g.managed = ap (λ (s : Sizes). s.managed) (c.clear.ensures.sizes ∙ c.in_ok-map.ensures.sizes) in
    rw (region, none)
