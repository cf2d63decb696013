use Rattle.std.proofs.Common.{◌∙◌, ap}
use Rattle.evac_model.specs.declared.names.Kind.{Kind}
use Rattle.evac_model.specs.SpaceJournal.{space_at_start}
use Rattle.buddy.specs.FreeFrames.{FreeFrames}
use Rattle.space.specs.Opening.{runs_at_open}
use Rattle.space.specs.SpaceInside.{runs_of}
use Rattle.space.proofs.KeptSpaces.{are_of_space_of, space_of-is}
use Rattle.space.proofs.Opens.{kept_at_start}
use Rattle.space.proofs.kept.Kept.open.Goals as goal

pub invariant_of-result : goal.invariant_of-result
invariant_of-result c =
    are_of_space_of _ _ _ _ _
    (kept_at_start c.args.g.now c.args.online c.args.start.now c.give_frames.new.runs c.mark_start.new.marks c.new-3.result c.in_ok-offline.offline.items c.in_ok-offline.ensures.within c.requires
    (c.give_frames.ensures ∙ ap (λ (o : Kind). runs_of c.args.g.now o (space_at_start c.args.g.now c.args.start.now)) (ap (λ (r : FreeFrames). r.online) (c.isolate_unplugged.ensures.runs ∙ ap (λ (r : FreeFrames). runs_at_open c.args.g.now r.online) c.in_ok-runs.ensures)))
    c.mark_start.ensures c.new-3.ensures c.in_ok-offline.ensures.bits)

pub returns : goal.returns
returns c =
    space_of-is _ _ _ _ _
    (kept_at_start c.args.g.now c.args.online c.args.start.now c.give_frames.new.runs c.mark_start.new.marks c.new-3.result c.in_ok-offline.offline.items c.in_ok-offline.ensures.within c.requires
    (c.give_frames.ensures ∙ ap (λ (o : Kind). runs_of c.args.g.now o (space_at_start c.args.g.now c.args.start.now)) (ap (λ (r : FreeFrames). r.online) (c.isolate_unplugged.ensures.runs ∙ ap (λ (r : FreeFrames). runs_at_open c.args.g.now r.online) c.in_ok-runs.ensures)))
    c.mark_start.ensures c.new-3.ensures c.in_ok-offline.ensures.bits)
