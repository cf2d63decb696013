use Rattle.std.proofs.Common.{sym, subst, Option}
use Rattle.evac_model.specs.ScenarioLines.{words}
use Rattle.scenario.specs.declared.line.Line.{Line}
use Rattle.scenario.specs.Reading.{Gives, line_in, line_of}
use Rattle.scenario.proofs.Verdicts.{read_is, form_is, word_is, later_is}
use Rattle.scenario.proofs.reader.read_line.Goals as goal

pub returns-in-Unknown : goal.returns-in-Unknown
returns-in-Unknown c = word_is c.args.text.now (sym c.in-Unknown.ensures)

pub returns-in-Later : goal.returns-in-Later
returns-in-Later c = later_is c.args.text.now (sym c.in-Later.ensures)

pub returns-in-Some : goal.returns-in-Some
returns-in-Some c = read_is c.args.text.now (line_in c.in-Some.line) (sym c.in-Read.ensures) (subst (λ (o : Option Line). Gives line_in o (line_of (words c.args.text.now))) c.in-Some.is c.in_ok-spelled-in-Read.ensures)

pub returns-in-None : goal.returns-in-None
returns-in-None c = form_is c.args.text.now (sym c.in-Read.ensures) (subst (λ (o : Option Line). Gives line_in o (line_of (words c.args.text.now))) c.in-None.is c.in_ok-spelled-in-Read.ensures)
