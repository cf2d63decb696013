use Rattle.scenario.proofs.Runs.{text_one, text_not_refused, refused_one}
use Rattle.scenario.proofs.laws.texts_are_judged_once.Goals as goal

pub returns-clause-one : goal.returns-clause-one
returns-clause-one c = text_one

pub returns-clause-apart : goal.returns-clause-apart
returns-clause-apart c = text_not_refused

pub returns-clause-one_fault : goal.returns-clause-one_fault
returns-clause-one_fault c = refused_one
