use Rattle.std.proofs.Common.{◌∙◌, ◌≡◌, ap, sym, arith}
use Rattle.buddy.specs.FreeFrames.{FreeFrames, with_withdrawn}
use Rattle.evac_model.specs.Numbers.{is_in}
use Rattle.space.proofs.Opens.{marks_to, runs_to, marks_first, runs_first, marks_last, runs_last, runs_push, isolate_push, not_yet}
use Rattle.space.proofs.open.isolate_unplugged.Goals as goal

pub loop-b-init : goal.loop-b-init
loop-b-init c =
    let s = c.args.g.now in
    let online = c.args.runs.now.online in
    record {
      runs = c.requires.runs ∙ runs_first s online ∙ ap (runs_to s online) (sym c.plugged-b.ensures.size);
      marks = c.requires.marks ∙ marks_first s ∙ ap (marks_to s) (sym c.plugged-b.ensures.size);
    }

pub withdraw-requires-clause-there : goal.withdraw-requires-clause-there
withdraw-requires-clause-there c =
    ap (λ (r : FreeFrames). is_in c.loop-b.b r.withdrawn) c.loop-b.invariant.runs
    ∙ not_yet c.args.g.now c.loop-b.b (omega (arith, c.managed-b-end.ensures.size))

pub loop-b-preserved : goal.loop-b-preserved
loop-b-preserved c =
    let s = c.args.g.now in
    let online = c.args.runs.now.online in
    record {
      runs = c.withdraw.ensures ∙ ap (with_withdrawn c.loop-b.b) c.loop-b.invariant.runs ∙ runs_push s online c.loop-b.b (omega (arith, c.plugged-b.ensures.size));
      marks = isolate_push s c.loop-b.b c.loop-b.marks c.isolate.new.self c.isolate.result (omega (arith, c.plugged-b.ensures.size)) c.loop-b.invariant.marks c.isolate.ensures.refused c.isolate.ensures.ok;
    }

pub returns-clause-runs : goal.returns-clause-runs
returns-clause-runs c =
    let s = c.args.g.now in
    let online = c.args.runs.now.online in
    c.loop-b.invariant.runs
    ∙ ap (runs_to s online) (let e : c.loop-b.b ≡ s.managed = omega (arith, c.managed-b-end.ensures.size, c.plugged-b.ensures.size, c.plugged-b.ensures.within.plugged) in e)
    ∙ runs_last s online c.plugged-b.ensures.within.plugged

pub returns-clause-marks : goal.returns-clause-marks
returns-clause-marks c =
    let s = c.args.g.now in
    c.loop-b.invariant.marks
    ∙ ap (marks_to s) (let e : c.loop-b.b ≡ s.managed = omega (arith, c.managed-b-end.ensures.size, c.plugged-b.ensures.size, c.plugged-b.ensures.within.plugged) in e)
    ∙ marks_last s c.plugged-b.ensures.within.plugged
