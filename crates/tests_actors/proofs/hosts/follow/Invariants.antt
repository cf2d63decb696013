use Rattle.std.proofs.Common.{◌≡◌}
use Rattle.tests_actors.proofs.hosts.follow.Given as goal

abbrev pub invariant-loop-heard : goal.invariant-loop-heard
invariant-loop-heard g l = l.map.sizes ≡ l.host.state.sizes
