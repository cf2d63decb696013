use Rattle.std.proofs.Common.{◌≡◌, ◌∙◌, List, refl, sym, ap, subst}
use Rattle.std.proofs.lemmas.Result.{IfOk-at_ok, IfOk-weaker}
use Rattle.evac_model.specs.declared.device_journal.DeviceAction.{DeviceAction}
use Rattle.evac_model.specs.declared.entry.Entry.{Entry}
use Rattle.evac_model.specs.declared.host.HostCommand.{HostCommand}
use Rattle.evac_model.specs.declared.host.HostLine.{HostLine}
use Rattle.evac_model.specs.declared.host.HostRun.{HostRun}
use Rattle.evac_model.specs.declared.scenario.Scenario.{Scenario}
use Rattle.evac_model.specs.declared.space.SpaceAction.{SpaceAction}
use Rattle.evac_model.specs.HostCommands.{host_runs}
use Rattle.core_state.specs.declared.opening.Opening.{Opening}
use Rattle.core_state.specs.declared.snapshot.Snapshot.{Snapshot}
use Rattle.core_state.specs.Histories.{IsHistoryOf}
use Rattle.report.specs.declared.report.Report.{Report}
use Rattle.replay.specs.declared.replay.Notes.{Notes}
use Rattle.replay.specs.Keeping.{IsKept}
use Rattle.replay.specs.Notes.{report_with}
use Rattle.replay.specs.Running.{Running}
use Rattle.replay.specs.Runs.{opening, setting, IsReportAfter}
use Rattle.replay.proofs.replay.report_of.Goals as goal

pub returns : goal.returns
returns c = IfOk-weaker c.put_together.result _ _ (λ report told s set commands kept.
    let journals = c.into_parts-core.result.1 in
    let m : Running = c.args.run.running in
    let host : told.2 ≡ host_runs s.host m.lines =
    IfOk-at_ok (λ (l : List HostRun). l ≡ host_runs c.args.commands.now c.into_parts-core.result.2.items) told.5 c.runs-host.ensures
    ∙ (ap (λ (cs : List HostCommand). host_runs cs c.into_parts-core.result.2.items) commands ∙ ap (λ (lines : List HostLine). host_runs s.host lines) c.into_parts-core.ensures.lines) in
    let noted : IsHistoryOf (opening s) m.world.snapshot.words m.world.snapshot.views told.1 → IsReportAfter s m (report_with told.0 told.1 told.2 m.world.space m.world.device) = λ history.
    IfOk-at_ok
    (λ (notes : Notes). (s : Scenario) (h : List Entry) (l : List HostRun) → c.args.run.setting ≡ setting s → IsKept s m → IsHistoryOf (opening s) m.world.snapshot.words m.world.snapshot.views h → l ≡ host_runs s.host m.lines → IsReportAfter s m (report_with notes h l m.world.space m.world.device))
    told.3 c.notes_of-notes.ensures s told.1 told.2 set kept history host in
    let entries : IsHistoryOf (opening s) c.into_parts-core.result.0.snapshot.words c.into_parts-core.result.0.snapshot.views told.1 =
    IfOk-at_ok
    (λ (h : List Entry). (o : Opening) → o.first ≡ 0 → IsHistoryOf o c.into_parts-core.result.0.snapshot.words c.into_parts-core.result.0.snapshot.views h)
    told.4 c.entries_of-entries.ensures (opening s) refl in
    subst (λ (r : Report). IsReportAfter s m r) (sym told.6)
    (subst (λ (space : List SpaceAction). IsReportAfter s m (report_with told.0 told.1 told.2 space journals.device.items)) (sym c.into_parts-core.ensures.space)
    (subst (λ (device : List DeviceAction). IsReportAfter s m (report_with told.0 told.1 told.2 m.world.space device)) (sym c.into_parts-core.ensures.device)
    (noted (subst (λ (x : Snapshot). IsHistoryOf (opening s) x.words x.views told.1) c.into_parts-core.ensures.snapshot entries))))) c.put_together.ensures
