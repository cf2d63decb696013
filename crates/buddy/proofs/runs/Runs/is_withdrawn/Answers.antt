use Rattle.std.proofs.Common.{◌∙◌, false, sym, ap, arith}
use Rattle.std.proofs.lemmas.Bool.{le-ltb}
use Rattle.std.proofs.lemmas.List.{get_or_read}
use Rattle.evac_model.specs.Numbers.{is_in}
use Rattle.evac_model.proofs.Numbers.{is_in-numbers_where, is_in-numbers_where_past}
use Rattle.buddy.specs.FreeFrames.{FreeFrames}
use Rattle.buddy.specs.RunsInside.{flag}
use Rattle.buddy.proofs.runs.Runs.is_withdrawn.Goals as goal

pub returns-then-b-managed : goal.returns-then-b-managed
returns-then-b-managed c =
    get_or_read c.self.inside.withdrawn.items c.args.b.0 c.index.result.now (omega (arith, c.if-b-managed.true, c.managed.ensures.size, c.self.invariant.withdrawn_length)) c.index.ensures false
    ∙ sym (is_in-numbers_where (flag c.self.inside.withdrawn.items) c.self.inside.geometry.managed c.args.b.0 (omega (arith, c.if-b-managed.true, c.managed.ensures.size)))
    ∙ ap (λ (v : FreeFrames). is_in c.args.b.0 v.withdrawn) c.self.view_is

pub returns-else-b-managed : goal.returns-else-b-managed
returns-else-b-managed c =
    le-ltb c.args.b.0 c.managed.result c.if-b-managed.false
    ∙ sym (is_in-numbers_where_past (flag c.self.inside.withdrawn.items) c.self.inside.geometry.managed c.args.b.0 (omega (arith, c.if-b-managed.false, c.managed.ensures.size)))
    ∙ ap (λ (v : FreeFrames). is_in c.args.b.0 v.withdrawn) c.self.view_is
