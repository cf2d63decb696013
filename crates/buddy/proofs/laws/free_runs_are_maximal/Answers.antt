use Rattle.buddy.proofs.FreeRunLaws.{free_maximal}
use Rattle.buddy.proofs.laws.free_runs_are_maximal.Goals as goal

pub returns : goal.returns
returns c = free_maximal
