use Rattle.std.proofs.Common.{arith}
use Rattle.space.proofs.KeptSpaces.{opened, are_of_space_of, space_of-is, isolated_managed, isolated_bit, none_out_of, offline_kept}
use Rattle.space.proofs.kept.Kept.take_offline.Goals as goal

pub out_after-requires-clause-block : goal.out_after-requires-clause-block
out_after-requires-clause-block c =
    let k = c.args.self.now in
    let h = opened c.args.self.now c.self.inside.runs c.self.inside.marks c.self.inside.caches c.self.inside.offline.items c.self.view_is c.self.invariant in
    isolated_managed k c.self.inside.runs c.self.inside.marks c.self.inside.caches c.self.inside.offline.items c.args.b.0 h c.requires.isolated

pub index_mut-requires : goal.index_mut-requires
index_mut-requires c =
    let k = c.args.self.now in
    let h = opened c.args.self.now c.self.inside.runs c.self.inside.marks c.self.inside.caches c.self.inside.offline.items c.self.view_is c.self.invariant in
    omega (arith, isolated_bit k c.self.inside.runs c.self.inside.marks c.self.inside.caches c.self.inside.offline.items c.args.b.0 h c.requires.isolated)

pub invariant_of-self : goal.invariant_of-self
invariant_of-self c =
    let k = c.args.self.now in
    let h = opened c.args.self.now c.self.inside.runs c.self.inside.marks c.self.inside.caches c.self.inside.offline.items c.self.view_is c.self.invariant in
    are_of_space_of _ _ _ _ _ (offline_kept k c.self.inside.runs c.self.inside.marks c.self.inside.caches c.self.inside.offline.items c.args.b h c.requires.isolated (none_out_of k c.self.inside.runs c.self.inside.marks c.self.inside.caches c.self.inside.offline.items c.args.b.0 h c.in_default.ensures))

pub returns-clause-ok : goal.returns-clause-ok
returns-clause-ok c =
    let k = c.args.self.now in
    let h = opened c.args.self.now c.self.inside.runs c.self.inside.marks c.self.inside.caches c.self.inside.offline.items c.self.view_is c.self.invariant in
    space_of-is _ _ _ _ _ (offline_kept k c.self.inside.runs c.self.inside.marks c.self.inside.caches c.self.inside.offline.items c.args.b h c.requires.isolated (none_out_of k c.self.inside.runs c.self.inside.marks c.self.inside.caches c.self.inside.offline.items c.args.b.0 h c.in_default.ensures))
