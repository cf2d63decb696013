use Rattle.std.proofs.Common.{ℕ, ◌≡◌, ◌/◌, ◌-◌, ◌+◌, ◌<◌, ◌∙◌, false, get_or, sym, ap, subst, arith}
use Rattle.std.proofs.lemmas.Bool.{lt-leb}
use Rattle.std.proofs.lemmas.List.{get_or_default}
use Rattle.evac_model.specs.Geometry.{frame_count}
use Rattle.page_blocks.specs.Marks.{Marks}
use Rattle.page_blocks.proofs.BlockMarks.{block_below, frame_isolated, boot_frame_isolated}
use Rattle.page_blocks.proofs.blocks.Blocks.is_isolated_frame.Goals as goal
use Rattle.evac_model.proofs.Bounds.{block_some}

pub returns-then-boot-block : goal.returns-then-boot-block
returns-then-boot-block c =
    let frame = c.args.frame.0 in
    let some = block_some c.self.inside.geometry c.self.invariant.within in
    let inside : frame < frame_count c.self.inside.geometry = subst (λ (v : Marks). frame < frame_count v.sizes) (sym c.self.view_is) c.requires in
    let block : frame / c.block.result ≡ frame / c.self.inside.geometry.block = ap (λ (x : ℕ). frame / x) c.block.ensures.size in
    let below : frame / c.self.inside.geometry.block < c.self.inside.geometry.boot + c.self.inside.geometry.managed = block_below c.self.inside.geometry frame some inside in
    let same : frame / c.block.result - c.boot-boot.result ≡ frame / c.self.inside.geometry.block - c.self.inside.geometry.boot = omega (arith, block, c.boot-boot.ensures.size) in
    c.index.ensures
    ∙ get_or_default c.self.inside.marks.items (frame / c.block.result - c.boot-boot.result) c.index.result.now false (omega (arith, same, below, c.self.invariant.each_block, block, c.boot-boot.ensures.size, c.if-boot-block.true))
    ∙ ap (λ (i : ℕ). get_or c.self.inside.marks.items i false) same
    ∙ sym (frame_isolated c.self.inside.geometry c.self.inside.marks.items c.self.inside.out.items c.args.self.now c.self.view_is some frame inside (omega (arith, block, c.boot-boot.ensures.size, c.if-boot-block.true)))

pub returns-else-boot-block : goal.returns-else-boot-block
returns-else-boot-block c =
    let frame = c.args.frame.0 in
    let block : frame / c.block.result ≡ frame / c.self.inside.geometry.block = ap (λ (x : ℕ). frame / x) c.block.ensures.size in
    lt-leb c.boot-boot.result (frame / c.block.result) c.if-boot-block.false
    ∙ sym (boot_frame_isolated c.self.inside.geometry c.self.inside.marks.items c.self.inside.out.items c.args.self.now c.self.view_is (block_some c.self.inside.geometry c.self.invariant.within) frame (omega (arith, block, c.boot-boot.ensures.size, c.if-boot-block.false)))
