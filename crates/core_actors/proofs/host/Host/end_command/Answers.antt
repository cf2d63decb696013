use Rattle.std.proofs.Common.{◌≡◌, ◌+◌, suc, drop, ap, ◌∙◌, arith}
use Rattle.core_actors.specs.declared.host_place.HostPlace.TheVariants as places
use Rattle.core_actors.specs.HostInside.{HostView, host_state}
use Rattle.core_actors.proofs.HostInsides.{one_more_dropped, begins_alike}
use Rattle.core_actors.proofs.host.Host.end_command.Goals as goal

pub returns-clause-state : goal.returns-clause-state
returns-clause-state c =
    let h = c.args.self.now.state in
    let next : c.self.inside.at + 1 ≡ suc c.args.self.now.state.number = let number = ap (λ (x : HostView). x.state.number) c.self.view_is in omega arith in
    c.begin.ensures.state
    ∙ begins_alike c.args.plugged.now.plugged (record (host_state c.self.inside) { left = drop (c.self.inside.at + 1) c.self.inside.commands; number = c.self.inside.at + 1; place = places.Asking; tried = c.replace-tried.new.dest.items }) (record h { left = drop 1 h.left; number = suc h.number })
    (ap (λ (x : HostView). x.state.sizes) c.self.view_is)
    (one_more_dropped c.self.inside.commands c.self.inside.at ∙ ap (λ (x : HostView). drop 1 x.state.left) c.self.view_is)
    next
    (ap (λ (x : HostView). x.state.evacuation) c.self.view_is)
