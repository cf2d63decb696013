use Rattle.scenario.proofs.Splits.{ended_is}
use Rattle.scenario.proofs.words.is_ended.Goals as goal

pub returns : goal.returns
returns c = ended_is c.args.rest c.is_none.result c.is_none.ensures
