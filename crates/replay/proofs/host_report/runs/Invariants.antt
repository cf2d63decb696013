use Rattle.std.proofs.Common.{◌≡◌, ◌++◌}
use Rattle.evac_model.specs.HostCommands.{host_runs}
use Rattle.replay.proofs.host_report.runs.Given as goal

-- the runs so far and those of what is left are all
abbrev pub invariant-loop-command : goal.invariant-loop-command
invariant-loop-command l = l.runs.items ++ host_runs l.command-iterator.a.rest.now l.command-iterator.b.rest.items ≡ host_runs l.commands l.fn.lines.items
