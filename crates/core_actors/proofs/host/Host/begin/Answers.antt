use Rattle.std.proofs.Common.{◌≡◌, ◌<◌, sym, ap, ◌∙◌, subst, arith}
use Rattle.std.specs.List.{AllByRecursion}
use Rattle.evac_model.specs.Geometry.{Sizes}
use Rattle.core_actors.specs.HostInside.{HostView}
use Rattle.core_actors.proofs.host.Host.begin.Goals as goal

pub invariant_of-self : goal.invariant_of-self
invariant_of-self c =
    let sizes : c.args.plugged.now.sizes ≡ c.self.inside.geometry = c.requires ∙ sym (ap (λ (x : HostView). x.state.sizes) c.self.view_is) in
    let capacity = c.put_blocks.ensures.capacity ∙ c.clear-2.ensures.capacity in
    record {
      at = c.self.invariant.at;
      waiting = omega arith;
      managed = subst (λ (s : Sizes). AllByRecursion (λ b. b < s.managed) c.put_blocks.new.blocks.items) sizes c.put_blocks.ensures.managed;
      roomy = let le = c.self.invariant.roomy in omega arith;
      evacuation = c.self.invariant.evacuation;
      place = tt;
    }
