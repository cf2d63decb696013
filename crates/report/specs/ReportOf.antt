-- What a report tells of a scenario's run, whatever its schedule was: the calls, the frames, the host and the memory device.
use Rattle.std.specs.Prelude.{◌≡◌, ℕ, true, List, [], length, map, None}
use Rattle.std.specs.List.{range_with_len, AllByRecursion}
use Rattle.std.specs.List.Sorted.{IsStrictlyIncreasing}
use Rattle.evac_model.specs.declared.names.BlockNo.{BlockNo}
use Rattle.evac_model.specs.declared.scenario.Scenario.{Scenario}
use Rattle.evac_model.specs.Counts.{first_of_calls}
use Rattle.evac_model.specs.DeviceAnswer.{DeviceState, device_at_start, device_after}
use Rattle.evac_model.specs.DeviceJournal.{AreAnswered}
use Rattle.evac_model.specs.History.{after_entries, IsLegal}
use Rattle.evac_model.specs.Pairing.{actions_of, ArePaired, AreOutForPages, AreUnplugged}
use Rattle.evac_model.specs.ScenarioGrammar.{online_of}
use Rattle.evac_model.specs.Scripts.{IsOfScripts}
use Rattle.evac_model.specs.SpaceJournal.{SpaceState, out_for, is_frame_in, space_after, space_at_start}
use Rattle.evac_model.specs.State.{PlainState, start_state}
use Rattle.host_work.specs.Commands.{AreDoneBy}
use Rattle.host_work.specs.FoundWords.{AreWordsOf}
use Rattle.host_work.specs.Truth.{SpaceRun, by_truth}
use Rattle.report.specs.declared.report.Report.{Report}
use Rattle.report.specs.FinalPages.{pages_state}

-- blocks by their numbers
abbrev pub block_list : List ℕ → List BlockNo
block_list numbers = map (λ b. record { 0 = b }) numbers

-- ---- what the scenario begins with, and what the report's actions leave

-- the plain state in which a scenario starts
abbrev pub plain_start : Scenario → PlainState
plain_start s = start_state s.geometry.cells s.start

-- the frame space behind the actions reported
abbrev pub space_reported : Scenario → Report → SpaceState
space_reported s r = space_after s.geometry (online_of s) (space_at_start s.geometry s.start) r.space_journal

-- the frame space at the start, with all actions reported
abbrev pub space_told : Scenario → Report → SpaceRun
space_told s r = record { sizes = s.geometry; online = online_of s; start = space_at_start s.geometry s.start; journal = r.space_journal }

-- the memory device at the start, and behind the actions reported
abbrev pub device_start : Scenario → DeviceState
device_start s = device_at_start s.geometry

abbrev pub device_reported : Scenario → Report → DeviceState
device_reported s r = device_after s.geometry (device_start s) r.device_journal

-- ---- the parts

-- The calls reported, in ticket order, are one legal history of pages that never move, each script call once, in its
-- caller's order, and the pages reported, rising, are the state after it.
pub record AreCallsTold (s : Scenario) (r : Report) : Type 0 where
  pub legal : IsLegal s.geometry.cells (plain_start s) r.history
  pub scripts : IsOfScripts s.owners r.history
  pub pages : pages_state r.pages ≡ after_entries s.geometry.cells (plain_start s) r.history
  pub rising : IsStrictlyIncreasing (map (λ p. p.page.0) r.pages)

-- The actions of the frame space are possible and are those of the calls, and a call has no frame only where none is free
-- for it. The frames out at the end are those of the mapped pages, and the offline blocks those that aren't plugged. No
-- frame that is out, and so no mapped page, lies in an offline block.
pub record AreFramesTold (s : Scenario) (r : Report) : Type 0 where
  pub space : ArePaired s.geometry (online_of s) (space_at_start s.geometry s.start) r.history r.space_journal
  pub out : AreOutForPages (space_reported s r) (after_entries s.geometry.cells (plain_start s) r.history)
  pub offline : AreUnplugged s.geometry (space_reported s r) r.plugged
  pub no_unplugged : (frame : ℕ) → is_frame_in s.geometry (space_reported s r).offline frame ≡ true → out_for (space_reported s r) frame ≡ None

-- The host's commands are reported in their order, numbered from 0, each with what it gave and the blocks that it tried. One
-- after another they did all that the driver did to the frame space, and all that the device did. Each evacuation is true
-- of the frame space's journal and of the history reported, its attempts and, where it failed, its cause. Each response is the
-- device's answer by the actions before it, where the listed calls of the backing fail, and no listener was told of any. The
-- plugged blocks are those that the device's actions leave.
pub record AreHostAndDeviceTold (s : Scenario) (r : Report) : Type 0 where
  pub commands : map (λ x. x.command) r.host ≡ s.host
  pub numbers : map (λ x. x.line.no) r.host ≡ range_with_len 0 (length s.host)
  pub did : AreDoneBy (by_truth (space_told s r) (AreWordsOf s.geometry (plain_start s) r.history)) [] s.geometry (device_start s) r.host (actions_of 0 r.space_journal) r.device_journal
  pub answered : AreAnswered s.geometry (device_start s) (first_of_calls s.fails) r.device_journal
  pub no_notices : AllByRecursion (λ a. a.notices ≡ []) r.device_journal
  pub plugged : r.plugged ≡ block_list (device_reported s r).plugged

-- ---- the report of a scenario

pub record IsReportOf (s : Scenario) (r : Report) : Type 0 where
  pub calls : AreCallsTold s r
  pub frames : AreFramesTold s r
  pub host : AreHostAndDeviceTold s r
