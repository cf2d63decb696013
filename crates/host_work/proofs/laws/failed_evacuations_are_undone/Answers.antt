use Rattle.host_work.proofs.Undone.{end_undone, refused_alone}
use Rattle.host_work.proofs.laws.failed_evacuations_are_undone.Goals as goal

pub returns-clause-undone : goal.returns-clause-undone
returns-clause-undone c s b cause actions other h = end_undone s b cause actions h other

pub returns-clause-refused : goal.returns-clause-refused
returns-clause-refused c = refused_alone
