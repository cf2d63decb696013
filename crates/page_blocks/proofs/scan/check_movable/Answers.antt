use Rattle.std.proofs.Common.{◌+◌, ◌∙◌, None, ap, sym, arith}
use Rattle.std.specs.List.{filter}
use Rattle.page_blocks.specs.Marks.{is_unmovable}
use Rattle.std.proofs.lemmas.List.{get_or_default}
use Rattle.page_blocks.proofs.Frames.{frames_out_skip, unmovable_skip}
use Rattle.page_blocks.proofs.scan.check_movable.Goals as goal
use Rattle.page_blocks.proofs.scan.check_movable.Goals.{in-Some+else-is_unmovable, in_default}

pub loop-frame-preserved : goal.loop-frame-preserved
loop-frame-preserved c =
    let frame = c.loop-frame.frame in
    let last = c.args.first.0 + c.args.n in
    let place = get_or_default c.args.out.now frame None c.index-out-frame.result (omega arith) ∙ sym c.index-out-frame.is in
    elim c.match-out-frame.branch [
      | in-Some+else-is_unmovable w ↦
          c.loop-frame.invariant ∙ unmovable_skip c.args.out.now frame last w.in-Some.holder (omega arith) (place ∙ w.in-Some.is) (sym w.is_unmovable.ensures ∙ w.if-is_unmovable.false)
      | in_default w ↦
          c.loop-frame.invariant ∙ ap (filter is_unmovable) (frames_out_skip c.args.out.now frame last (omega arith) (place ∙ w.in_default.is))
    ]
