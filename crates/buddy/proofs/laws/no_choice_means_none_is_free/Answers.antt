use Rattle.buddy.proofs.FreeRunLaws.{no_choice}
use Rattle.buddy.proofs.laws.no_choice_means_none_is_free.Goals as goal

pub returns : goal.returns
returns c = no_choice
