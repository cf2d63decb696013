use Rattle.replay.proofs.Reported.{reports_tell_legal_histories}
use Rattle.replay.proofs.laws.reports_tell_legal_histories.Goals as goal

pub returns : goal.returns
returns c = reports_tell_legal_histories
