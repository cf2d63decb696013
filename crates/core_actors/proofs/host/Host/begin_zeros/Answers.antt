use Rattle.std.proofs.Common.{◌<◌, ap, arith}
use Rattle.evac_model.specs.Geometry.{Sizes, frame_count}
use Rattle.evac_model.proofs.Bounds.{power_to_512_least, block_some}
use Rattle.core_actors.proofs.BlockLists.{block_inside}
use Rattle.core_actors.proofs.host.Host.begin_zeros.Goals as goal

pub invariant_of-self : goal.invariant_of-self
invariant_of-self c =
    let within = c.cells-cells.ensures.within in
    let managed : c.block.result.0 < c.self.inside.geometry.managed = let sizes = ap (λ (s : Sizes). s.managed) c.self.invariant.evacuation in omega arith in
    record {
      at = c.self.invariant.at;
      waiting = let le = c.self.invariant.waiting in omega arith;
      managed = c.self.invariant.managed;
      roomy = c.self.invariant.roomy;
      evacuation = c.self.invariant.evacuation;
      place = (let first : c.frames_of.result.0.0 < frame_count c.self.inside.geometry = omega (arith, block_inside c.self.inside.geometry c.block.result.0 0 managed (block_some c.self.inside.geometry within)) in first, power_to_512_least c.self.inside.geometry.cells within.cells);
    }
