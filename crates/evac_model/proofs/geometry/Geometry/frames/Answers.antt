use Rattle.std.proofs.Common.{◌<◌, ◌^◌, ◌+◌, ◌*◌, rules, arith}
use Rattle.evac_model.proofs.geometry.Geometry.frames.Goals as goal

pub overflow_mul-result : goal.overflow_mul-result
overflow_mul-result c =
    let most : (c.self.inside.boot + c.self.inside.managed) * c.self.inside.block < 2 ^ 32 = omega (arith, c.self.invariant.frames) in
    search rules
