use Rattle.core_actors.proofs.CallRuns.{makes_its_actions}
use Rattle.core_actors.proofs.laws.owners_make_the_actions_of_their_calls.Goals as goal

pub returns : goal.returns
returns c owner s d cs heards lease found loads of e = makes_its_actions owner s d.0 d.1 of.call cs lease found loads heards e
