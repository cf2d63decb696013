use Rattle.std.proofs.Common.{arith}
use Rattle.core_state.specs.Views.{view_of}
use Rattle.core_state.proofs.PassedFrames.{pass_none, pass_more}
use Rattle.core_state.proofs.hand_over.pass_frames.Goals as goal

pub loop-i-init : goal.loop-i-init
loop-i-init c = pass_none c.args.views.now c.args.from c.args.to c.requires.apart c.requires.from c.requires.to c.args.first.0

pub loop-i-preserved : goal.loop-i-preserved
loop-i-preserved c =
    pass_more c.args.views.now c.args.from c.args.to c.requires.apart c.requires.from c.requires.to
    (view_of c.args.views.now c.args.from) (view_of c.args.views.now c.args.to) c.args.first.0 c.loop-i.i (omega arith) (omega arith)
    c.loop-i.views _ c.loop-i.invariant c.pass_frame.ensures
