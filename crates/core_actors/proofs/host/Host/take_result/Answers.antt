use Rattle.std.proofs.Common.{◌<◌, length, sym, ap, ◌∙◌, arith}
use Rattle.core_actors.specs.HostInside.{HostView, host_state}
use Rattle.core_actors.specs.HostHears.{HostHeard, with_result}
use Rattle.core_actors.proofs.HostInsides.{result_kept}
use Rattle.core_actors.proofs.host.Host.take_result.Goals as goal

pub returns-then-self-len-clause-state : goal.returns-then-self-len-clause-state
returns-then-self-len-clause-state c =
    let lt : c.self.inside.waiting < length c.self.inside.blocks.items = let t = c.if-self-len.true in omega arith in
    ap (λ (x : HostHeard). x.state) (sym (result_kept c.args.plugged.now.plugged (host_state c.self.inside) c.args.given lt))
    ∙ ap (λ (x : HostView). (with_result c.args.plugged.now.plugged x.state c.args.given).state) c.self.view_is

pub returns-then-self-len-clause-line : goal.returns-then-self-len-clause-line
returns-then-self-len-clause-line c =
    let lt : c.self.inside.waiting < length c.self.inside.blocks.items = let t = c.if-self-len.true in omega arith in
    ap (λ (x : HostView). x.line) c.self.view_is
    ∙ (c.requires.none
    ∙ (ap (λ (x : HostHeard). x.line) (sym (result_kept c.args.plugged.now.plugged (host_state c.self.inside) c.args.given lt))
    ∙ ap (λ (x : HostView). (with_result c.args.plugged.now.plugged x.state c.args.given).line) c.self.view_is))
