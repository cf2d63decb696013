use Rattle.std.proofs.Common.{◌∙◌, false, sym, arith}
use Rattle.std.proofs.lemmas.Bool.{le-ltb}
use Rattle.std.proofs.lemmas.List.{get_or_default, get_or_past}
use Rattle.space.proofs.KeptSpaces.{opened, is_in-offline}
use Rattle.space.proofs.kept.Kept.is_offline.Goals as goal

pub returns-then-block-len : goal.returns-then-block-len
returns-then-block-len c =
    let k = c.args.self.now in
    let bits = c.self.inside.offline.items in
    let h = opened k c.self.inside.runs c.self.inside.marks c.self.inside.caches bits c.self.view_is c.self.invariant in
    c.index.ensures
    ∙ get_or_default bits c.args.b.0 c.index.result.now false (omega arith)
    ∙ is_in-offline k c.self.inside.runs c.self.inside.marks c.self.inside.caches bits c.args.b.0 h

pub returns-else-block-len : goal.returns-else-block-len
returns-else-block-len c =
    let k = c.args.self.now in
    let bits = c.self.inside.offline.items in
    let h = opened k c.self.inside.runs c.self.inside.marks c.self.inside.caches bits c.self.view_is c.self.invariant in
    le-ltb c.args.b.0 c.len.result c.if-block-len.false
    ∙ sym (get_or_past bits c.args.b.0 false (omega arith))
    ∙ is_in-offline k c.self.inside.runs c.self.inside.marks c.self.inside.caches bits c.args.b.0 h
