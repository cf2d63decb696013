-- The report's text by its sections, as it is written.
use Rattle.std.specs.Prelude.{ℕ, ◌+◌, List, [], ◌∷◌, ◌++◌, codes}
use Rattle.std.specs.List.{flat_map}
use Rattle.evac_model.specs.declared.device_journal.DeviceAction.{DeviceAction}
use Rattle.evac_model.specs.declared.host.HostRun.{HostRun}
use Rattle.evac_model.specs.declared.space.SpaceAction.{SpaceAction}
use Rattle.report.specs.declared.report.Report.{Report}
use Rattle.report.specs.ReportText.{line, entry_text, host_text, tried_text, action_text, act_text, notice_text, plugged_text, page_text}

-- a command, and behind it the blocks that it tried
abbrev pub run_text : HostRun → List ℕ
run_text r = host_text r.line.no r.command r.line.result ++ flat_map tried_text r.line.tried

-- the actions of a space journal, where the first has this number
abbrev pub space_text : (number : ℕ) → List SpaceAction → List ℕ
space_text number [] = []
space_text number (a ∷ actions) = action_text number a ++ space_text (number + 1) actions

-- the actions of a device journal, each with its notices behind it, where the first has this number
abbrev pub device_text : (number : ℕ) → List DeviceAction → List ℕ
device_text number [] = []
device_text number (a ∷ actions) = act_text number a.act ++ flat_map (notice_text number) a.notices ++ device_text (number + 1) actions

abbrev pub sections_text : Report → List ℕ
sections_text r =
    flat_map entry_text r.history ++ flat_map run_text r.host ++ space_text 0 r.space_journal ++ device_text 0 r.device_journal
    ++ plugged_text r.plugged ++ flat_map page_text r.pages ++ line (codes "end") []
