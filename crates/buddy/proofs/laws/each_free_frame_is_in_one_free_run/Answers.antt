use Rattle.buddy.proofs.FreeRunLaws.{frame_in_run, free_one}
use Rattle.buddy.proofs.laws.each_free_frame_is_in_one_free_run.Goals as goal

pub returns-clause-some : goal.returns-clause-some
returns-clause-some c = frame_in_run

pub returns-clause-one : goal.returns-clause-one
returns-clause-one c = free_one
