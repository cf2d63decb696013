use Rattle.evac_model.proofs.Answers.{unchanged}
use Rattle.evac_model.proofs.laws.refusal_changes_nothing.Goals as goal

pub returns : goal.returns
returns c = unchanged
