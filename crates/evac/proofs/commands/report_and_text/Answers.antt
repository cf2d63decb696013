use Rattle.evac.proofs.States.{have_states}
use Rattle.evac.proofs.commands.report_and_text.Goals as goal

pub write_report-requires : goal.write_report-requires
write_report-requires g c =
    let s = c.in_ok-s.s in
    have_states s c.in_ok-report.report (c.in_ok-report.ensures.theorem s c.in_ok-s.ensures.runnable c.in_ok-from_scenario.ensures)

pub returns-clause-theorem : goal.returns-clause-theorem
returns-clause-theorem g c =
    let s = c.in_ok-s.s in
    let runnable = c.in_ok-s.ensures.runnable in
    (s, runnable, c.in_ok-report.ensures.theorem s runnable c.in_ok-from_scenario.ensures, c.in_ok-report.ensures.run s runnable c.in_ok-from_scenario.ensures, c.in_ok-s.ensures.accepted)
