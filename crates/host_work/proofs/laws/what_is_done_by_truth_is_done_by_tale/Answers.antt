use Rattle.host_work.specs.Evacuated.{by_tale}
use Rattle.host_work.specs.FoundWords.{AreWordsOf}
use Rattle.host_work.specs.Truth.{by_truth}
use Rattle.host_work.proofs.TruthGrows.{done_by_tale, are_done_by}
use Rattle.host_work.proofs.laws.what_is_done_by_truth_is_done_by_tale.Goals as goal

pub returns : goal.returns
returns c r s start entries before d runs actions device h =
    are_done_by (by_truth r (AreWordsOf s start entries)) (by_tale r.sizes) (done_by_tale r (AreWordsOf s start entries)) before s d runs actions device h
