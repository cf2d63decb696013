use Rattle.std.proofs.Common.{◌≡◌, ℕ, ap, subst, ◌∙◌}
use Rattle.evac_model.specs.Geometry.{Sizes}
use Rattle.evac_model.specs.Numbers.{without_range, IsRisingBelow}
use Rattle.mem_device.proofs.Answers.{only_range}
use Rattle.mem_device.proofs.block_hand.BlockHand.new.Goals as goal

pub returns-clause-blocks : goal.returns-clause-blocks
returns-clause-blocks c =
    let m = c.args.g.managed in
    let before = c.in_ok-map.map.plugged in
    let sizes : c.in_ok-map.map.sizes.managed ≡ m = ap (λ (s : Sizes). s.managed) c.in_ok-map.ensures.sizes in
    let whole : c.device_blocks-blocks.result ≡ m = c.device_blocks-blocks.ensures.size ∙ ap (λ (s : Sizes). s.managed) c.geometry.ensures.sizes ∙ sizes in
    only_range c.args.first.0 c.args.n m before c.clear.new.self.plugged _ c.requires
    (subst (λ (k : ℕ). IsRisingBelow k before) sizes c.geometry.ensures.rising)
    (c.clear.ensures.plugged ∙ ap (λ (k : ℕ). without_range 0 k before) whole)
    c.set.ensures.plugged
