use Rattle.std.proofs.Common.{◌≤◌, ap, arith}
use Rattle.evac_model.specs.Geometry.{first_frame}
use Rattle.evacuate.specs.Evacuating.{Evacuating}
use Rattle.evac_model.proofs.Bounds.{power_to_512_most}
use Rattle.evacuate.proofs.Frames.{inside_block}
use Rattle.evacuate.proofs.evacuation.Evacuation.place_of.Goals as goal

pub returns-clause-few : goal.returns-clause-few
returns-clause-few c =
    let inside = inside_block c.args.self.now.sizes c.args.self.now.block c.args.frame.0 c.requires in
    let from = inside.from in
    let below = inside.below in
    let most : c.self.inside.geometry.block ≤ 512 = power_to_512_most c.self.inside.geometry.block c.block-frames.ensures.within.block in
    let sizes = ap (λ (v : Evacuating). v.sizes.block) c.self.view_is in
    let first = ap (λ (v : Evacuating). first_frame v.sizes v.block.0) c.self.view_is in
    omega (arith, c.frames_of.ensures.first)
