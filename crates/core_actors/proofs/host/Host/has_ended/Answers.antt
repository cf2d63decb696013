use Rattle.std.proofs.Common.{ap, ◌∙◌}
use Rattle.core_actors.specs.HostInside.{HostView}
use Rattle.core_actors.specs.Hosts.{host_ended}
use Rattle.core_actors.proofs.HostInsides.{ended_here}
use Rattle.core_actors.proofs.host.Host.has_ended.Goals as goal

pub returns : goal.returns
returns c =
    ended_here c.self.inside c.len.result c.self.invariant c.len.ensures
    ∙ ap (λ (x : HostView). host_ended x.state) c.self.view_is
