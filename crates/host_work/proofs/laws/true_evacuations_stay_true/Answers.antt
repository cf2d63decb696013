use Rattle.host_work.specs.FoundWords.{AreWordsOf}
use Rattle.host_work.proofs.TruthGrows.{truth_grown}
use Rattle.host_work.proofs.laws.true_evacuations_stay_true.Goals as goal

pub returns : goal.returns
returns c r more s start entries before b cause own h = truth_grown r more (AreWordsOf s start entries) (AreWordsOf s start entries) (λ number page word found. found) before b cause own h
