use Rattle.scenario.proofs.Runs.{outcome_text, accepted, refused, faulted}
use Rattle.scenario.proofs.Runnable.{outcome_runs}
use Rattle.scenario.proofs.reader.read_scenario.Goals as goal

pub returns-clause-scenario : goal.returns-clause-scenario
returns-clause-scenario c = outcome_text c.args.bytes.now c.read.result c.read.ensures

pub returns-clause-runnable : goal.returns-clause-runnable
returns-clause-runnable c = outcome_runs c.args.bytes.now c.read.result c.read.ensures

pub returns-clause-fault : goal.returns-clause-fault
returns-clause-fault c = faulted c.args.bytes.now c.read.result c.read.ensures

pub returns-clause-accepted : goal.returns-clause-accepted
returns-clause-accepted c = accepted c.args.bytes.now c.read.result c.read.ensures

pub returns-clause-refused : goal.returns-clause-refused
returns-clause-refused c = refused c.args.bytes.now c.read.result c.read.ensures
