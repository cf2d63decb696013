use Rattle.std.proofs.Common.{◌<◌, subst}
use Rattle.evac_model.proofs.Bounds.{power_to_512_least}
use Rattle.core_actors.specs.HostInside.{HostView}
use Rattle.core_actors.proofs.host.Host.hear_step.Goals as goal

pub move_on-requires : goal.move_on-requires
move_on-requires c =
    let within = c.cells-cells.ensures.within in
    record { inside = subst (λ (x : HostView). 0 < x.state.sizes.cells) c.self.view_is (power_to_512_least c.self.inside.geometry.cells within.cells) }
