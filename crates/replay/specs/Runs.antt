-- The scheduled run of a scenario, and what a report of it says.
use Rattle.std.specs.Prelude.{◌≡◌, ℕ, ◌+◌, zero, suc, ◌==◌, if◌then◌else◌, true, List, [], ◌∷◌, ◌++◌, length, map, slice_get, None, Some}
use Rattle.evac_model.specs.declared.names.PageNo.{PageNo}
use Rattle.evac_model.specs.declared.call.Call.{Call}
use Rattle.evac_model.specs.declared.scenario.Scenario.{Scenario}
use Rattle.evac_model.specs.Counts.{first_of_calls}
use Rattle.evac_model.specs.DeviceAnswer.{device_at_start}
use Rattle.evac_model.specs.HostCommands.{host_runs}
use Rattle.evac_model.specs.Pairing.{actions_of}
use Rattle.evac_model.specs.ScenarioGrammar.{online_of}
use Rattle.evac_model.specs.SpaceJournal.{space_at_start}
use Rattle.evac_model.specs.Page.{Page}
use Rattle.evac_words.specs.Word.{mapped_bit, pins_of, frame_of}
use Rattle.core_state.specs.declared.opening.Opening.{Opening}
use Rattle.core_state.specs.Words.{entry_word_of, cells_of_frame, kind_in}
use Rattle.core_state.specs.CoreOpens.{opening_of}
use Rattle.core_state.specs.Histories.{IsHistoryOf}
use Rattle.host_work.specs.Commands.{AreDoneBy}
use Rattle.core_actors.specs.HostFound.{truth}
use Rattle.core_actors.specs.Hosts.{host_at_start, host_ended}
use Rattle.core_actors.specs.Owners.{OwnerState, owner_at_start, owner_ended}
use Rattle.report.specs.declared.report.FinalPage.{FinalPage}
use Rattle.report.specs.declared.report.Report.{Report}
use Rattle.report.specs.FinalPages.{final_page}
use Rattle.report.specs.ReportOf.{block_list}
use Rattle.machine.specs.Start.{world_at_start}
use Rattle.machine.specs.World.{Setting, device_at}
use Rattle.replay.specs.Running.{Running, after_turns}
use Rattle.replay.specs.Schedule.{schedule, round_count}

-- ---- the run

-- the tickets of each owner: one for each call
abbrev pub budgets_of : List (List (PageNo × Call)) → List ℕ
budgets_of scripts = map length scripts

-- the owners from a number on, at the start of their scripts
abbrev pub owners_from : (cells k : ℕ) → List (List (PageNo × Call)) → List OwnerState
owners_from cells k [] = []
owners_from cells k (script ∷ scripts) = owner_at_start k cells script ∷ owners_from cells (k + 1) scripts

abbrev pub opening : Scenario → Opening
opening s = opening_of s.geometry s.start (budgets_of s.owners)

-- what a scenario's run begins with
abbrev pub setting : Scenario → Setting
setting s =
    record { opening = opening s; sizes = s.geometry; online = online_of s; space = space_at_start s.geometry s.start; owners = length s.owners; backing = first_of_calls s.fails }

abbrev pub running_at_start : Scenario → Running
running_at_start s = record {
  world = world_at_start s.geometry s.start (budgets_of s.owners);
  owners = owners_from s.geometry.cells 1 s.owners;
  host = host_at_start s.geometry (device_at_start s.geometry).plugged s.host;
  lines = [];
}

abbrev pub AllEnded : List OwnerState → Type 0
AllEnded owners = (i : ℕ) (a : OwnerState) → slice_get owners i ≡ Some a → owner_ended a ≡ true

-- all owners and the host have ended
pub record HaveEnded (m : Running) : Type 0 where
  pub owners : AllEnded m.owners
  pub host : host_ended m.host ≡ true

-- The run at its end: the turns of the schedule were made, with as many rounds as the bound has,
-- and all actors have ended. From the moment on when they have, a turn changes nothing.
pub record IsScheduledRun (s : Scenario) (m : Running) : Type 0 where
  pub made : m ≡ after_turns (setting s) (running_at_start s) (schedule s (round_count s))
  pub ended : HaveEnded m

-- ---- its report

-- a page as the words show it
abbrev pub shown_page : Opening → List ℕ → ℕ → Page
shown_page o words page =
    if mapped_bit (entry_word_of words page) == 1
    then Some (record { cells = cells_of_frame o words (frame_of (entry_word_of words page)); kind = kind_in (entry_word_of words page); pins = pins_of (entry_word_of words page) })
    else None

-- the mapped pages with numbers below n, rising, as the words show them
abbrev pub shown_below : Opening → List ℕ → ℕ → List FinalPage
shown_below o words zero = []
shown_below o words (suc n) = shown_below o words n ++ final_page n (shown_page o words n)

-- what the run leaves: the entries in ticket order, the host's commands with their lines, the actions of the
-- frame space and of the memory device, the blocks that are plugged by these, and the pages
pub record IsReportAfter (s : Scenario) (m : Running) (r : Report) : Type 0 where
  pub history : IsHistoryOf (opening s) m.world.snapshot.words m.world.snapshot.views r.history
  pub host : r.host ≡ host_runs s.host m.lines
  pub space : r.space_journal ≡ m.world.space
  pub device : r.device_journal ≡ m.world.device
  pub plugged : r.plugged ≡ block_list (device_at s.geometry m.world.device).plugged
  pub pages : r.pages ≡ shown_below (opening s) m.world.snapshot.words s.geometry.pages

-- The report is that of the scheduled run. The cause of each evacuation that failed is true of the run: the words that it names were
-- found by the takes with the numbers of its own leases of targets.
pub record IsReportOfRun (s : Scenario) (r : Report) : Type 0 where
  pub running : Running
  pub run : IsScheduledRun s running
  pub report : IsReportAfter s running r
  pub did : AreDoneBy (truth (setting s) running.world) [] s.geometry (device_at_start s.geometry) r.host (actions_of 0 r.space_journal) r.device_journal
