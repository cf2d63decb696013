use Rattle.machine.proofs.Opened.{opened_set, opened_consistent}
use Rattle.machine.proofs.laws.starts_are_consistent.Goals as goal

pub returns-clause-set : goal.returns-clause-set
returns-clause-set c = opened_set

pub returns-clause-world : goal.returns-clause-world
returns-clause-world c = opened_consistent
