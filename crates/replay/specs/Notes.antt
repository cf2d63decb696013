-- A report of what was noted of a machine, of its entries, of the host's commands and of its journals.
use Rattle.std.specs.Prelude.{List}
use Rattle.evac_model.specs.declared.device_journal.DeviceAction.{DeviceAction}
use Rattle.evac_model.specs.declared.entry.Entry.{Entry}
use Rattle.evac_model.specs.declared.host.HostRun.{HostRun}
use Rattle.evac_model.specs.declared.space.SpaceAction.{SpaceAction}
use Rattle.report.specs.declared.report.Report.{Report}
use Rattle.replay.specs.declared.replay.Notes.{Notes}

abbrev pub report_with : Notes → List Entry → List HostRun → (space : List SpaceAction) (device : List DeviceAction) → Report
report_with n history host space device =
    record { history = history; host = host; space_journal = space; device_journal = device; plugged = n.plugged; pages = n.pages }
