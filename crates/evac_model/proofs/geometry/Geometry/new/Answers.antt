use Rattle.std.proofs.Common.{◌+◌, refl, arith}
use Rattle.evac_model.specs.GeometryLimits.{IsPowerTo512, IsCountTo65536}
use Rattle.evac_model.proofs.geometry.Geometry.new.Goals as goal
use Rattle.evac_model.proofs.Bounds.{power_to_512_most, product_fits}

pub overflow_mul-frames : goal.overflow_mul-frames
overflow_mul-frames c =
    let boot : IsCountTo65536 c.args.boot = c.if-not-is_count.ensures.0 refl in
    let managed : IsCountTo65536 c.args.managed = c.if-not-is_count-2.ensures.0 refl in
    let block : IsPowerTo512 c.args.block = c.if-not-is_power_to_512-2.ensures.0 refl in
    product_fits (c.args.boot + c.args.managed) c.args.block (omega arith) (power_to_512_most c.args.block block)
