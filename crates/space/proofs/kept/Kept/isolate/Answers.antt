use Rattle.space.proofs.KeptSpaces.{opened, drainable_kept, are_of_space_of, isolate_kept}
use Rattle.space.proofs.Refused.{movable_kept}
use Rattle.space.proofs.kept.Kept.isolate.Goals as goal

pub withdraw-requires-clause-drainable : goal.withdraw-requires-clause-drainable
withdraw-requires-clause-drainable c =
    let k = c.args.self.now in
    let h = opened c.args.self.now c.self.inside.runs c.self.inside.marks c.self.inside.caches c.self.inside.offline.items c.self.view_is c.self.invariant in
    drainable_kept k c.self.inside.runs c.self.inside.marks c.self.inside.caches c.self.inside.offline.items h

pub invariant_of-self-2 : goal.invariant_of-self-2
invariant_of-self-2 c =
    let k = c.args.self.now in
    let h = opened c.args.self.now c.self.inside.runs c.self.inside.marks c.self.inside.caches c.self.inside.offline.items c.self.view_is c.self.invariant in
    are_of_space_of _ _ _ _ _ (isolate_kept k c.self.inside.runs c.self.inside.marks c.self.inside.caches c.self.inside.offline.items c.args.b c.withdraw.new.runs c.isolate.new.self c.withdraw.new.caches h c.requires.managed (movable_kept k c.self.inside.runs c.self.inside.marks c.self.inside.caches c.self.inside.offline.items c.args.b.0 h c.in_ok-isolate.ensures.refused) c.in_ok-isolate.ensures.ok c.withdraw.ensures.caches c.withdraw.ensures.runs)
