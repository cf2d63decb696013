use Rattle.buddy.proofs.FreeRunLaws.{best_choice}
use Rattle.buddy.proofs.laws.the_choice_is_the_best.Goals as goal

pub returns : goal.returns
returns c = best_choice
