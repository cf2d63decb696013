use Rattle.core_actors.proofs.ScriptRuns.{makes_its_script}
use Rattle.core_actors.proofs.laws.owners_make_the_actions_of_their_scripts.Goals as goal

pub returns-clause-actions : goal.returns-clause-actions
returns-clause-actions c owner s script heards all e = (makes_its_script owner s script heards all e).0

pub returns-clause-calls : goal.returns-clause-calls
returns-clause-calls c owner s script heards all e = (makes_its_script owner s script heards all e).1
