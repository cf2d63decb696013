use Rattle.std.proofs.Common.{◌≡◌}
use Rattle.tests_actors.proofs.hosts.act.Given as goal

abbrev pub invariant-loop-want : goal.invariant-loop-want
invariant-loop-want g l = l.map.sizes ≡ l.host.state.sizes
