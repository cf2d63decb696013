use Rattle.space.proofs.KeptSpaces.{opened, isolated_managed, are_of_space_of, undo_kept}
use Rattle.space.proofs.kept.Kept.undo.Goals as goal

pub restore-requires-clause-managed : goal.restore-requires-clause-managed
restore-requires-clause-managed c =
    let k = c.args.self.now in
    let h = opened c.args.self.now c.self.inside.runs c.self.inside.marks c.self.inside.caches c.self.inside.offline.items c.self.view_is c.self.invariant in
    isolated_managed k c.self.inside.runs c.self.inside.marks c.self.inside.caches c.self.inside.offline.items c.args.b.0 h c.requires.isolated

pub invariant_of-self : goal.invariant_of-self
invariant_of-self c =
    let k = c.args.self.now in
    let h = opened c.args.self.now c.self.inside.runs c.self.inside.marks c.self.inside.caches c.self.inside.offline.items c.self.view_is c.self.invariant in
    are_of_space_of _ _ _ _ _ (undo_kept k c.self.inside.runs c.self.inside.marks c.self.inside.caches c.self.inside.offline.items c.args.b c.restore.new.runs c.restore.new.marks h c.requires.isolated c.requires.there c.restore.ensures.marks c.restore.ensures.runs)
