use Rattle.std.proofs.Common.{◌+◌, ◌∙◌, None, sym, arith}
use Rattle.std.proofs.lemmas.List.{get_or_default}
use Rattle.page_blocks.proofs.Frames.{frames_out_skip}
use Rattle.page_blocks.proofs.scan.first_out.Goals as goal

pub loop-frame-preserved : goal.loop-frame-preserved
loop-frame-preserved c =
    c.loop-frame.invariant
    ∙ frames_out_skip c.args.out.now c.loop-frame.frame (c.args.first.0 + c.args.n) (omega arith)
    (get_or_default c.args.out.now c.loop-frame.frame None c.index-out-frame.result (omega arith) ∙ sym c.index-out-frame.is ∙ c.in_default.is)
