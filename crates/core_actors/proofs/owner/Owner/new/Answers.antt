use Rattle.std.proofs.Common.{arith}
use Rattle.evac_model.proofs.Bounds.{power_to_512_most}
use Rattle.core_actors.proofs.owner.Owner.new.Goals as goal

pub invariant_of-result : goal.invariant_of-result
invariant_of-result c =
    let within = c.cells-cells.ensures.within in
    record {
      cells = power_to_512_most c.args.g.cells within.cells;
      calls = c.requires;
      place = omega arith;
      under_way = tt;
    }
