use Rattle.std.proofs.Common.{arith}
use Rattle.space.proofs.KeptSpaces.{opened, are_of_space_of, space_of-is, isolated_managed, isolated_bit, online_kept}
use Rattle.space.proofs.kept.Kept.bring_online.Goals as goal

pub restore-requires-clause-managed : goal.restore-requires-clause-managed
restore-requires-clause-managed c =
    let k = c.args.self.now in
    let h = opened c.args.self.now c.self.inside.runs c.self.inside.marks c.self.inside.caches c.self.inside.offline.items c.self.view_is c.self.invariant in
    isolated_managed k c.self.inside.runs c.self.inside.marks c.self.inside.caches c.self.inside.offline.items c.args.b.0 h (h.space.offline_isolated c.args.b.0 c.requires)

pub index_mut-requires : goal.index_mut-requires
index_mut-requires c =
    let k = c.args.self.now in
    let h = opened c.args.self.now c.self.inside.runs c.self.inside.marks c.self.inside.caches c.self.inside.offline.items c.self.view_is c.self.invariant in
    omega (arith, isolated_bit k c.self.inside.runs c.self.inside.marks c.self.inside.caches c.self.inside.offline.items c.args.b.0 h (h.space.offline_isolated c.args.b.0 c.requires))

pub invariant_of-self : goal.invariant_of-self
invariant_of-self c =
    let k = c.args.self.now in
    let h = opened c.args.self.now c.self.inside.runs c.self.inside.marks c.self.inside.caches c.self.inside.offline.items c.self.view_is c.self.invariant in
    are_of_space_of _ _ _ _ _ (online_kept k c.self.inside.runs c.self.inside.marks c.self.inside.caches c.self.inside.offline.items c.args.b c.restore.new.runs c.restore.new.marks h c.requires c.restore.ensures.marks c.restore.ensures.runs)

pub returns : goal.returns
returns c =
    let k = c.args.self.now in
    let h = opened c.args.self.now c.self.inside.runs c.self.inside.marks c.self.inside.caches c.self.inside.offline.items c.self.view_is c.self.invariant in
    space_of-is _ _ _ _ _ (online_kept k c.self.inside.runs c.self.inside.marks c.self.inside.caches c.self.inside.offline.items c.args.b c.restore.new.runs c.restore.new.marks h c.requires c.restore.ensures.marks c.restore.ensures.runs)
