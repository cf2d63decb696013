use Rattle.std.proofs.Common.{◌≡◌, ℕ, ◌*◌, ◌%◌, ◌^◌, ◌∙◌, sym, ap, arith}
use Rattle.evac_model.specs.Geometry.{frame_count}
use Rattle.buddy.proofs.Nodes.{shift_one}
use Rattle.buddy.proofs.Places.{RunFacts}
use Rattle.buddy.proofs.Giving.{run_inside}
use Rattle.tests_space.proofs.runs.may_give.Goals as goal

pub has-requires : goal.has-requires
has-requires c =
    let length : 1 * 2 ^ c.args.order % 2 ^ 32 ≡ 2 ^ c.args.order = shift_one c.args.order (omega (arith, c.if-order-gt9.false)) in
    let sizes = c.geometry-geometry.ensures.sizes in
    let facts : RunFacts c.geometry-geometry.result c.args.order c.args.frame = record {
      multiple = sym (ap (λ (n : ℕ). c.args.frame % n) length) ∙ c.if-frame-length-ne0.false;
      small = omega (arith, length, c.if-length-block.false, c.block.ensures.size);
      inside = omega (arith, c.frames.ensures, c.if-frame-frames.false);
    } in
    let within = c.block.ensures.within.block in
    omega (arith, run_inside c.geometry-geometry.result c.args.order c.args.frame within.0 facts within.2, c.loop-k-test.true, length, ap frame_count sizes)
