use Rattle.std.proofs.Common.{⊎_elim}
use Rattle.evac.specs.declared.stop.Stop.TheVariants.{OutOfMemory}
use Rattle.evac.proofs.Statuses.{done, no_command, stopped}
use Rattle.evac.proofs.commands.replay_main.Goals as goal

pub returns-then-not-is_command-clause-statuses : goal.returns-then-not-is_command-clause-statuses
returns-then-not-is_command-clause-statuses g c = no_command c.finish_with_line.result.status c.finish_with_line.ensures.status

pub returns-in-Ok-clause-statuses : goal.returns-in-Ok-clause-statuses
returns-in-Ok-clause-statuses g c = done c.finish_with_report.result.status c.finish_with_report.ensures.status

pub returns-in-Err-clause-statuses : goal.returns-in-Err-clause-statuses
returns-in-Err-clause-statuses g c =
    ⊎_elim (λ h. stopped c.finish_with_stop.result.status c.in-Err.stop h.0) (λ h. stopped c.finish_with_stop.result.status OutOfMemory h.0) c.finish_with_stop.ensures.line
