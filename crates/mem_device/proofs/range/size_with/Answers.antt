use Rattle.std.proofs.Common.{ℕ, ◌*◌, length, ap, ◌∙◌, arith}
use Rattle.evac_model.specs.Geometry.{Sizes, block_bytes}
use Rattle.mem_device.proofs.Ranges.{plugged_few, size_le}
use Rattle.mem_device.proofs.range.size_with.Goals as goal

pub overflow_add-result : goal.overflow_add-result
overflow_add-result c =
    let s = c.args.map.now.sizes in
    let plugged = c.args.map.now.plugged in
    omega (arith, size_le s (length plugged) c.geometry-g.ensures.within (plugged_few s plugged c.geometry-g.ensures.within c.geometry-g.ensures.rising), size_le s c.args.count c.geometry-g.ensures.within (omega arith), ap (λ (x : ℕ). c.args.count * x) (c.device_block_bytes.ensures ∙ ap (λ (g : Sizes). block_bytes g) c.geometry-g.ensures.sizes), c.plugged_size.ensures)
