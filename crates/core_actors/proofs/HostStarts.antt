-- A host at the start of its commands, in a machine at its start.
use Rattle.std.proofs.Common.{ℕ, zero, suc, ◌<◌, Bool, true, false, List, [], length, get_or, is_some, refl, sym, ap, ◌∙◌, subst, arith, Option, None, IsSome}
use Rattle.std.specs.List.{AllByRecursion}
use Rattle.std.proofs.lemmas.List.{length-replicate, get_or-replicate}
use Rattle.std.proofs.lemmas.Bool.{false≢true}
use Rattle.evac_model.specs.declared.host.HostCommand.{HostCommand}
use Rattle.evac_model.specs.declared.names.Kind.{Kind}
use Rattle.evac_model.specs.declared.scenario.StartPage.{StartPage}
use Rattle.evac_model.specs.DeviceAnswer.{device_at_start}
use Rattle.evac_model.specs.Geometry.{Sizes, frame_count}
use Rattle.evac_words.specs.Word.{bit_of}
use Rattle.core_state.specs.declared.hand.HandFrame.{HandFrame}
use Rattle.core_state.specs.CoreOpens.{driver_view}
use Rattle.evacuate.specs.Evacuating.{evacuation_at_start}
use Rattle.evacuate.specs.Tale.{nothing_tried}
use Rattle.host_work.specs.Requests.{block_no}
use Rattle.machine.specs.Start.{MayStart, setting_at_start, world_at_start}
use Rattle.machine.specs.World.{Setting, World}
use Rattle.machine.proofs.CellsKept.{cells_at_start}
use Rattle.machine.proofs.Opened.{none_there, opened_set, opened_consistent, opened_none}
use Rattle.machine.proofs.OutPages.{out_pages_at_start}
use Rattle.core_actors.specs.declared.host_place.HostPlace.TheVariants as places
use Rattle.core_actors.specs.Hosts.{HostState, with_next_block, command_blocks, host_at_start}
use Rattle.core_actors.specs.HostSeat.{IsDriver, HostSeat}
use Rattle.core_actors.specs.HostSpace.{IsShort}
use Rattle.core_actors.specs.HostKept.{HostKept}
use Rattle.core_actors.proofs.HostBegins.{begins}
use Rattle.core_actors.proofs.HostDoesLists.{begun_did}
use Rattle.core_actors.proofs.HostFinds.{found_at_start}
use Rattle.core_actors.proofs.HostHasTakes.{takes_at_start}

-- before its first command
abbrev before_commands : Sizes → List HostCommand → HostState
before_commands s commands = record {
  sizes = s;
  left = commands;
  number = 0;
  place = places.Asking;
  evacuation = evacuation_at_start s (block_no 0);
  blocks = [];
  waiting = 0;
  tried = [];
}

module _ (s : Sizes) (online : Kind) (start : List StartPage) (budgets fails : List ℕ) (commands : List HostCommand) (r : MayStart s online start budgets) where
  abbrev c : Setting
  c = setting_at_start s online start budgets fails

  abbrev w : World
  w = world_at_start s start budgets

  driver_there : IsDriver c.opening (driver_view s)
  driver_there = record {
    seated = record { cells = refl; hand = let none : Option HandFrame = None in length-replicate (frame_count s) none; image = tt };
    no_entries = refl;
    no_tickets = refl;
    rights = λ page low. subst (λ (b : Bool). 0 < bit_of b) (sym (get_or-replicate s.pages page true false low)) (omega arith);
  }

  none_in_hand : (frame : ℕ) → ¬ IsSome (get_or (driver_view s).hand frame None)
  none_in_hand frame has = false≢true (sym (ap (λ (m : Option HandFrame). is_some m) (none_there (frame_count s) frame)) ∙ has)

  -- wherever its first command begins
  seat_with : (waiting : ℕ) (h : HostState) → HostSeat c w (with_next_block waiting h)
  seat_with zero h = record { driver = driver_there; view = (refl, refl); has = tt; hand = λ frame has. absurd (none_in_hand frame has) }
  seat_with (suc n) h = record { driver = driver_there; view = (refl, refl); has = tt; hand = λ frame has. absurd (none_in_hand frame has) }

  kept_at_start : AllByRecursion IsShort commands → HostKept c w [] (host_at_start s (device_at_start s).plugged commands)
  kept_at_start short =
      let blocks : List ℕ = command_blocks s (device_at_start s).plugged commands in
      record {
        tale = nothing_tried;
        pages = out_pages_at_start s start r.start.each;
        cells = cells_at_start s online start budgets fails r;
        seat = seat_with (length blocks) (record (before_commands s commands) { blocks = blocks; waiting = length blocks });
        space = begins c w (before_commands s commands) refl short (opened_set s online start budgets fails r) (opened_consistent s online start budgets fails r)
            (opened_none s online start budgets fails) (λ block. refl);
        found = found_at_start c w s (device_at_start s).plugged commands;
        takes = takes_at_start s online start budgets fails commands;
        did = begun_did c w w [] [] [] (before_commands s commands) (refl, refl) refl tt refl refl (device_at_start s).plugged;
      }

pub host_kept_at_start : (s : Sizes) (online : Kind) (start : List StartPage) (budgets fails : List ℕ) (commands : List HostCommand) → MayStart s online start budgets → AllByRecursion IsShort commands → HostKept (setting_at_start s online start budgets fails) (world_at_start s start budgets) [] (host_at_start s (device_at_start s).plugged commands)
host_kept_at_start s online start budgets fails commands r short = kept_at_start s online start budgets fails commands r short
