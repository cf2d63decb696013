use Rattle.evac_model.proofs.Answers.{one_answer}
use Rattle.evac_model.proofs.laws.lease_counts_for_alloc_alone.Goals as goal

pub returns : goal.returns
returns c = one_answer
