use Rattle.std.proofs.Common.{◌∙◌, ◌≡◌, ◌<◌, ap, not, arith}
use Rattle.evac_model.specs.Geometry.{frame_count}
use Rattle.buddy.specs.FreeFrames.{with_frames}
use Rattle.space.specs.Opening.{runs_at_open}
use Rattle.space.proofs.Opens.{given_to, given_none, runs_more, runs_still, runs_all, next_givable, look_none, look_some}
use Rattle.space.proofs.open.give_frames.Goals as goal
use Rattle.space.proofs.open.give_frames.Goals.{then-is_none, else-is_none}

pub loop-frame-init : goal.loop-frame-init
loop-frame-init c = c.requires.runs ∙ given_none c.args.g.now c.args.runs.now.online c.args.start.now

pub give_frame-requires : goal.give_frame-requires
give_frame-requires c =
    next_givable c.args.g.now c.args.runs.now.online c.args.start.now c.loop-frame.frame c.loop-frame.runs (omega (arith, c.frames-frame-end.ensures)) c.loop-frame.invariant

pub loop-frame-preserved : goal.loop-frame-preserved
loop-frame-preserved c =
    let s = c.args.g.now in
    let start = c.args.start.now in
    let i = c.loop-frame.frame in
    let l : i < frame_count s = omega (arith, c.frames-frame-end.ensures) in
    elim c.if-is_none.branch [
      | then-is_none w ↦
          w.runs-is ∙ runs_more s c.args.runs.now.online start i c.loop-frame.runs w.give_frame.new.runs
          (look_none s start i c.args.marks.now c.out_at.result l c.requires.marks c.out_at.ensures (c.is_none.ensures ∙ ap not w.if-is_none.true))
          c.loop-frame.invariant w.give_frame.ensures
      | else-is_none w ↦
          let found = look_some s start i c.args.marks.now c.out_at.result l c.requires.marks c.out_at.ensures (c.is_none.ensures ∙ ap not w.if-is_none.false) in
          w.runs-is ∙ runs_still s c.args.runs.now.online start i c.loop-frame.runs found.0 found.1 c.loop-frame.invariant
    ]

pub returns : goal.returns
returns c =
    let s = c.args.g.now in
    c.loop-frame.invariant
    ∙ ap (λ i. with_frames (given_to c.args.start.now i) (runs_at_open s c.args.runs.now.online)) (let e : c.loop-frame.frame ≡ frame_count s = omega (arith, c.frames-frame-end.ensures) in e)
    ∙ runs_all s c.args.runs.now.online c.args.start.now
