use Rattle.std.proofs.Common.{arith}
use Rattle.evac_model.specs.Numbers.{with_range}
use Rattle.evac_model.proofs.Unions.{rising-with_range}
use Rattle.mem_device.proofs.Answers.{merged_none, has_unplugged, parted, managed_after}
use Rattle.mem_device.proofs.memory.Memory.plug.Goals as goal

pub part-back-requires-clause-has : goal.part-back-requires-clause-has
part-back-requires-clause-has g c =
    let m = c.args.self.now.map in
    has_unplugged m.sizes m.plugged _ c.in-Ok.first.0 c.args.count
    (merged_none m.sizes m.plugged _ _ _ c.requires.managed.unplugged c.requires.held c.merge.ensures.takes)
    c.in-Ok.ensures.unplugged c.in-Ok.ensures.inside

pub returns-in-Ok-clause-managed : goal.returns-in-Ok-clause-managed
returns-in-Ok-clause-managed g c =
    let m = c.args.self.now.map in
    let first = c.in-Ok.first.0 in
    let n = c.args.count in
    managed_after g.H.Held.blocks g.H.Held.room g.B.Backing.room _ m.sizes (with_range first n m.plugged)
    c.requires.managed.within c.set.ensures.sizes c.set.ensures.plugged
    (rising-with_range first n m.sizes.managed m.plugged c.requires.managed.rising c.in-Ok.ensures.inside)
    (parted m.sizes m.plugged _ _ first n (merged_none m.sizes m.plugged _ _ _ c.requires.managed.unplugged c.requires.held c.merge.ensures.takes) c.part-back.ensures.keeps)
    (omega (arith, c.requires.managed.roomy, c.merge.ensures.room, c.part-back.ensures.room))
    c.requires.managed.backed
