use Rattle.std.proofs.Common.{◌≡◌, List, [], ◌++◌, append-nil, sym, ap, ◌∙◌, ⊎_elim}
use Rattle.std.proofs.lemmas.List.{nil_from_length}
use Rattle.evac_model.specs.declared.host.HostCommand.{HostCommand}
use Rattle.evac_model.specs.declared.host.HostLine.{HostLine}
use Rattle.evac_model.specs.declared.host.HostRun.{HostRun}
use Rattle.evac_model.specs.HostCommands.{host_runs}
use Rattle.replay.proofs.HostLines.{runs_none}
use Rattle.replay.proofs.host_report.runs.Goals as goal

-- the runs are all where none are left
all_runs : (runs left all : List HostRun) → runs ++ left ≡ all → left ≡ [] → runs ≡ all
all_runs runs left all is none = sym (append-nil runs) ∙ (ap (λ (l : List HostRun). runs ++ l) (sym none) ∙ is)

pub returns : goal.returns
returns c =
    let left = c.loop-command.command-iterator in
    let commands = left.a.rest.now in
    let lines = left.b.rest.items in
    -- no command or no line is left
    let none : host_runs commands lines ≡ [] = ⊎_elim
    (λ first. ap (λ (cs : List HostCommand). host_runs cs lines) (nil_from_length commands first.1.0))
    (λ second. ap (λ (ls : List HostLine). host_runs commands ls) (nil_from_length lines (sym left.b.rest.ok.0 ∙ second.1.0)) ∙ runs_none commands)
    c.in-None.ensures.steps in
    c.from_vec.ensures ∙ all_runs c.loop-command.runs.items (host_runs commands lines) (host_runs c.args.commands.now c.args.lines.items) c.loop-command.invariant none
