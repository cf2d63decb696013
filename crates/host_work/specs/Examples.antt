-- Commands of a small machine, worked out by hand.
use Rattle.std.specs.Prelude.{◌≡◌, ℕ, false, List, [], ◌∷◌, ◌++◌}
use Rattle.evac_model.specs.declared.device.Response.{Response}
use Rattle.evac_model.specs.declared.device.Response.TheVariants.{Ack, Busy, Error}
use Rattle.evac_model.specs.declared.device_journal.DeviceAction.{DeviceAction}
use Rattle.evac_model.specs.declared.evacuation.EvacCause.{EvacCause}
use Rattle.evac_model.specs.declared.evacuation.EvacCause.TheVariants as cause
use Rattle.evac_model.specs.declared.host.HostCommand.{HostCommand}
use Rattle.evac_model.specs.declared.host.HostCommand.TheVariants.{Request, Config}
use Rattle.evac_model.specs.declared.host.HostResult.{HostResult}
use Rattle.evac_model.specs.declared.host.HostResult.TheVariants as results
use Rattle.evac_model.specs.declared.host.HostRun.{HostRun}
use Rattle.evac_model.specs.declared.space.SpaceAction.{SpaceAction}
use Rattle.evac_model.specs.declared.space.SpaceAction.TheVariants.{MoveLease, Return, Isolate, Undo, Offline, Online}
use Rattle.evac_model.specs.DeviceAnswer.{DeviceState, device_at_start, request_in, config_of}
use Rattle.evac_model.specs.Geometry.{Sizes}
use Rattle.evac_model.specs.HostCommands.{request_action}
use Rattle.evac_model.specs.declared.tried.Tried.{Tried}
use Rattle.evacuate.specs.Examples.{frame_no, page_no}
use Rattle.host_work.specs.Evacuated.{by_tale}
use Rattle.host_work.specs.Requests.{block_no, blocks_to_empty, emptied_lines, failed_line}
use Rattle.host_work.specs.Commands.{AreDoneBy}

-- pages of 2 cells, blocks of 4 frames, 2 boot blocks and 4 managed ones, which are all plugged: block 3 has the frames
-- 20 to 23, and its address is 320
abbrev pub plugged_machine : Sizes
plugged_machine = record { cells = 2; block = 4; boot = 2; managed = 4; plugged = 4; pages = 8 }

abbrev pub all_plugged : DeviceState
all_plugged = device_at_start plugged_machine

-- blocks 0 and 2 alone
abbrev pub with_holes : DeviceState
with_holes = record { plugged = 0 ∷ 2 ∷ []; requested = 256; migrating = false }

-- ---- requests

-- of that type for so many blocks at an address below 65,536, which has these two bytes
abbrev pub request : (type low high count : ℕ) → List ℕ
request type low high count =
    type ∷ 0 ∷ 0 ∷ 0 ∷ 0 ∷ 0 ∷ 0 ∷ 0 ∷ low ∷ high ∷ 0 ∷ 0 ∷ 0 ∷ 0 ∷ 0 ∷ 0 ∷ count ∷ 0 ∷ 0 ∷ 0 ∷ 0 ∷ 0 ∷ 0 ∷ 0 ∷ []

abbrev pub plug_3 : List ℕ
plug_3 = request 0 64 1 1

abbrev pub unplug_3 : List ℕ
unplug_3 = request 1 64 1 1

abbrev pub unplug_2_and_3 : List ℕ
unplug_2_and_3 = request 1 0 1 2

abbrev pub unplug_1_to_3 : List ℕ
unplug_1_to_3 = request 1 192 0 3

abbrev pub unplug_all : List ℕ
unplug_all = request 2 0 0 0

-- ---- what was done and reported

-- the numbers of commands don't count for what they do
abbrev pub run : HostCommand → HostResult → List Tried → HostRun
run command result tried = record { command = command; line = record { no = 0; result = result; tried = tried } }

abbrev pub answered : List ℕ → Response → List Tried → HostRun
answered bytes response tried = run (Request bytes) (results.Answered response) tried

abbrev pub unsent : List ℕ → List Tried → HostRun
unsent bytes tried = run (Request bytes) results.Unsent tried

-- the configuration where the device stands so
abbrev pub configured : DeviceState → HostRun
configured d = run Config (results.Config (config_of plugged_machine d)) []

abbrev pub isolate : ℕ → SpaceAction
isolate b = Isolate (block_no b)

abbrev pub undo : ℕ → SpaceAction
undo b = Undo (block_no b)

abbrev pub offline : ℕ → SpaceAction
offline b = Offline (block_no b)

abbrev pub online : ℕ → SpaceAction
online b = Online (block_no b)

-- frame 0 is leased for page 0, and this frame comes back: the page's old one, or the target
abbrev pub attempt : (back : ℕ) → List SpaceAction
attempt back = MoveLease (frame_no 0) (page_no 0) ∷ Return 0 (frame_no back) ∷ []

-- the commands did that on a machine whose device stood so
abbrev pub Did : DeviceState → List HostRun → List SpaceAction → List DeviceAction → Type 0
Did d commands actions device = AreDoneBy (by_tale plugged_machine) [] plugged_machine d commands actions device

-- page 0 lies in frame 20, and somebody has it pinned
abbrev pub pinned : EvacCause
pinned = cause.Pinned (frame_no 20) (page_no 0) 1073762324

-- it lies in frame 12, of block 1, and somebody has it pinned
abbrev pub pinned_in_1 : EvacCause
pinned_in_1 = cause.Pinned (frame_no 12) (page_no 0) 1073754132

-- there was no target for it behind the isolation, which is the journal's first action
abbrev pub no_target : EvacCause
no_target = cause.NoTarget (frame_no 20) (page_no 0) 1

-- somebody held it in each of five rounds
abbrev pub busy : EvacCause
busy = cause.Busy (frame_no 20) (page_no 0) (20485 ∷ 20485 ∷ 20485 ∷ 20485 ∷ 20485 ∷ [])

-- the isolation of block 2 was refused at its frame 16, by the unmovable page 7
abbrev pub unmovable : EvacCause
unmovable = cause.Unmovable (frame_no 16) (page_no 7)

-- what three blocks do of which the lowest has a pinned page: the two above are emptied, and put online again
abbrev pub stayed : List SpaceAction
stayed = isolate 3 ∷ offline 3 ∷ isolate 2 ∷ offline 2 ∷ isolate 1 ∷ (attempt 0 ++ undo 1 ∷ online 2 ∷ online 3 ∷ [])

pub record CommandsOfSmall : Type 0 where
  pub highest_first : blocks_to_empty plugged_machine all_plugged (request_in unplug_2_and_3) ≡ 3 ∷ 2 ∷ []
  pub those_plugged : blocks_to_empty plugged_machine with_holes (request_in unplug_all) ≡ 2 ∷ 0 ∷ []
  pub none_where_one_is_unplugged : blocks_to_empty plugged_machine with_holes (request_in unplug_2_and_3) ≡ []
  pub unplugged_and_plugged_again :
      Did all_plugged (answered unplug_3 (Ack 0) (emptied_lines (3 ∷ [])) ∷ answered plug_3 (Ack 0) [] ∷ [])
      (isolate 3 ∷ (attempt 20 ++ offline 3 ∷ online 3 ∷ []))
      (request_action unplug_3 (Ack 0) ∷ request_action plug_3 (Ack 0) ∷ [])
  pub unplugged_twice :
      Did all_plugged (answered unplug_3 (Ack 0) (emptied_lines (3 ∷ [])) ∷ answered unplug_3 Error [] ∷ [])
      (isolate 3 ∷ offline 3 ∷ [])
      (request_action unplug_3 (Ack 0) ∷ request_action unplug_3 Error ∷ [])
  pub configuration_alone : Did all_plugged (configured all_plugged ∷ []) [] []
  pub pinned_page :
      Did all_plugged (unsent unplug_3 (failed_line 3 pinned ∷ []) ∷ [])
      (isolate 3 ∷ (attempt 0 ++ undo 3 ∷ [])) []
  pub five_busy_rounds :
      Did all_plugged (unsent unplug_3 (failed_line 3 busy ∷ []) ∷ [])
      (isolate 3 ∷ (attempt 0 ++ (attempt 0 ++ (attempt 0 ++ (attempt 0 ++ (attempt 0 ++ undo 3 ∷ [])))))) []
  pub no_target_left :
      Did all_plugged (unsent unplug_3 (failed_line 3 no_target ∷ []) ∷ []) (isolate 3 ∷ undo 3 ∷ []) []
  pub pinned_behind_two_emptied_ones :
      Did all_plugged (unsent unplug_1_to_3 (emptied_lines (3 ∷ 2 ∷ []) ++ failed_line 1 pinned_in_1 ∷ []) ∷ []) stayed []
  pub unmovable_behind_an_emptied_one :
      Did all_plugged (unsent unplug_2_and_3 (emptied_lines (3 ∷ []) ++ failed_line 2 unmovable ∷ []) ∷ [])
      (isolate 3 ∷ offline 3 ∷ online 3 ∷ []) []
  pub refused_by_the_backing :
      Did all_plugged (answered unplug_3 Busy (emptied_lines (3 ∷ [])) ∷ [])
      (isolate 3 ∷ offline 3 ∷ online 3 ∷ []) (request_action unplug_3 Busy ∷ [])
  pub all_with_holes_refused_by_the_backing :
      Did with_holes (answered unplug_all Busy (emptied_lines (2 ∷ 0 ∷ [])) ∷ [])
      (isolate 2 ∷ offline 2 ∷ isolate 0 ∷ offline 0 ∷ online 0 ∷ online 2 ∷ []) (request_action unplug_all Busy ∷ [])
  pub undo_left_out :
      ¬ Did all_plugged (unsent unplug_3 (failed_line 3 pinned ∷ []) ∷ []) (isolate 3 ∷ attempt 0) []
  pub emptied_block_left_offline :
      ¬ Did all_plugged (answered unplug_3 Busy (emptied_lines (3 ∷ [])) ∷ [])
      (isolate 3 ∷ offline 3 ∷ []) (request_action unplug_3 Busy ∷ [])
  pub sent_for_a_block_that_stayed :
      ¬ Did all_plugged (unsent unplug_3 (failed_line 3 pinned ∷ []) ∷ [])
      (isolate 3 ∷ (attempt 0 ++ undo 3 ∷ [])) (request_action unplug_3 Busy ∷ [])
  pub block_not_tried :
      ¬ Did all_plugged (answered unplug_2_and_3 (Ack 0) (emptied_lines (3 ∷ [])) ∷ [])
      (isolate 3 ∷ offline 3 ∷ []) (request_action unplug_2_and_3 (Ack 0) ∷ [])
  pub line_left_out :
      ¬ Did all_plugged (answered unplug_3 (Ack 0) [] ∷ []) (isolate 3 ∷ offline 3 ∷ []) (request_action unplug_3 (Ack 0) ∷ [])
  pub sent_twice :
      ¬ Did all_plugged (answered unplug_3 (Ack 0) (emptied_lines (3 ∷ [])) ∷ []) (isolate 3 ∷ offline 3 ∷ [])
      (request_action unplug_3 (Ack 0) ∷ request_action unplug_3 (Ack 0) ∷ [])
  pub another_configuration : ¬ Did all_plugged (configured with_holes ∷ []) [] []
