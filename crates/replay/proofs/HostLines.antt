-- The commands that are left to a host, and the line that it gives, behind what it hears; and what is reported of commands
-- with one line more.
use Rattle.std.proofs.Common.{◌≡◌, ℕ, zero, suc, ◌+◌, ◌≤◌, ◌==◌, nat_lt, Bool, true, false, if◌then◌else◌, List, [], ◌∷◌, ◌++◌, map, length, length-drop, drop, append-nil, refl, sym, ap, ◌∙◌, subst, arith, Option, Some, None}
use Rattle.std.proofs.Math.Seq.{drop-nil}
use Rattle.evac_model.specs.declared.device.Response.{Response}
use Rattle.evac_model.specs.declared.device.Response.TheVariants.{Ack, Nack, Busy, Error}
use Rattle.evac_model.specs.declared.evacuation.MoveLease.{MoveLease}
use Rattle.evac_model.specs.declared.host.HostCommand.{HostCommand}
use Rattle.evac_model.specs.declared.host.HostCommand.TheVariants.{Request, Config}
use Rattle.evac_model.specs.declared.host.HostLine.{HostLine}
use Rattle.evac_model.specs.declared.host.HostResult.{HostResult}
use Rattle.evac_model.specs.declared.host.HostResult.TheVariants as results
use Rattle.evac_model.specs.declared.host.HostRun.{HostRun}
use Rattle.evac_model.specs.declared.names.FrameNo.{FrameNo}
use Rattle.evac_model.specs.DeviceAnswer.{request_in}
use Rattle.evac_model.specs.Geometry.{Sizes, first_frame}
use Rattle.evac_model.specs.HostCommands.{blocks_of, plugged_by, host_runs}
use Rattle.evac_words.specs.Word.{taken_bit}
use Rattle.evacuate.specs.declared.seen.EvacSeen.{EvacSeen}
use Rattle.evacuate.specs.declared.seen.EvacSeen.TheVariants as seen
use Rattle.evacuate.specs.declared.stage.Stage.{Stage}
use Rattle.evacuate.specs.declared.stage.Stage.TheVariants as stages
use Rattle.evacuate.specs.Evacuating.{Evacuating, evacuation_at_start, evacuation_after, action_of}
use Rattle.host_work.specs.Requests.{block_no, emptied_lines, failed_line}
use Rattle.machine.specs.declared.action.Heard.{Heard}
use Rattle.core_actors.specs.declared.host_place.HostPlace.{HostPlace}
use Rattle.core_actors.specs.declared.host_place.HostPlace.TheVariants as places
use Rattle.core_actors.specs.declared.host_place.MovePlace.{MovePlace}
use Rattle.core_actors.specs.declared.host_place.MovePlace.TheVariants.{Taking, Beginning, Loading, Storing, Marking, Remapping, Releasing}
use Rattle.core_actors.specs.HostDid.{run_list}
use Rattle.core_actors.specs.HostHears.{HostHeard, command_ended, ends_without, with_result, result_in, held_behind, answered, seen_in, goes_on_at, told, moves_on, stays, found, came_of, moved, marked_on, heard_at, heard_for, host_after, line_after}
use Rattle.core_actors.specs.Hosts.{HostState, away, with_next_block, next_block, command_begun, command_blocks, host_at_start}
use Rattle.core_actors.specs.Places.{word_in}
use Rattle.core_actors.proofs.HostDoesLists.{no_run}
use Rattle.replay.specs.Running.{line_list}

-- ---- the start of a command leaves the commands

next_left : (n : ℕ) (h : HostState) → (with_next_block n h).left ≡ h.left
next_left zero h = refl
next_left (suc n) h = refl

begun_left : (plugged : List ℕ) (h : HostState) → (command_begun plugged h).left ≡ h.left
begun_left plugged h =
    let blocks : List ℕ = command_blocks h.sizes plugged h.left in
    next_left (length blocks) (record h { blocks = blocks; waiting = length blocks; tried = [] })

pub start_left : (s : Sizes) (plugged : List ℕ) (commands : List HostCommand) → (host_at_start s plugged commands).left ≡ commands
start_left s plugged commands =
    begun_left plugged (record { sizes = s; left = commands; number = 0; place = places.Asking; evacuation = evacuation_at_start s (block_no 0); blocks = []; waiting = 0; tried = [] })

-- ---- what a host hears

-- a host with these commands has them still, or ended the first of them and gave its line
abbrev IsNext : List HostCommand → HostHeard → Type 0
IsNext left x = x.state.left ≡ drop (length (line_list x.line)) left

held_left : (h : HostState) (blocks : List ℕ) (response : Response) → (held_behind h blocks response).left ≡ h.left
held_left h blocks (Ack state) = refl
held_left h blocks Nack = refl
held_left h blocks Busy = refl
held_left h blocks Error = refl

answered_left : (h : HostState) (c : HostCommand) (result : HostResult) → (answered h c result).left ≡ h.left
answered_left h (Request bytes) (results.Answered response) = held_left h (blocks_of (plugged_by h.sizes (request_in bytes) response)) response
answered_left h (Request bytes) results.Unsent = refl
answered_left h (Request bytes) (results.Config config) = refl
answered_left h Config result = refl

module _ (plugged : List ℕ) where
  ended_next : (h : HostState) (result : HostResult) → IsNext h.left (command_ended plugged h result)
  ended_next h result = begun_left plugged (record h { left = drop 1 h.left; number = suc h.number })

  without_next : (blocks : List ℕ) (h : HostState) (result : HostResult) → IsNext h.left (ends_without blocks plugged h result)
  without_next [] h result = ended_next h result
  without_next (b ∷ blocks) h result = refl

  result_next : (h : HostState) (result : HostResult) → IsNext h.left (with_result plugged h result)
  result_next h result = without_next (away h) h result

  stage_next : (stage : Stage) (h : HostState) → IsNext h.left (goes_on_at stage plugged h)
  stage_next stages.Isolating h = refl
  stage_next (stages.Leasing after) h = refl
  stage_next (stages.Moving lease) h = refl
  stage_next (stages.Returning attempt) h = refl
  stage_next (stages.Undoing cause) h = refl
  stage_next stages.Emptied h = refl
  stage_next (stages.Failed cause) h = result_next (record h { tried = h.tried ++ failed_line h.evacuation.block.0 cause ∷ [] }) results.Unsent

  told_next : (h : HostState) (what : EvacSeen) → IsNext h.left (told plugged h what)
  told_next h what =
      let after : Evacuating = evacuation_after h.evacuation what in
      stage_next after.stage (record h { evacuation = after })

  found_next : (h : HostState) (lease : MoveLease) (word : ℕ) → IsNext h.left (found plugged h lease word)
  found_next h lease word = by_test (taken_bit word == 1) where
    by_test : (b : Bool) → IsNext h.left (if b then told plugged h (seen.Found word) else moves_on h lease (if stays word lease.from.0 then Releasing (Some word) else Beginning))
    by_test true = told_next h (seen.Found word)
    by_test false = refl

  moved_next : (h : HostState) (lease : MoveLease) (at : MovePlace) (heard : Heard) → IsNext h.left (moved plugged h lease at heard)
  moved_next h lease Taking heard = found_next h lease (word_in heard)
  moved_next h lease Beginning heard = refl
  moved_next h lease (Loading cell) heard = refl
  moved_next h lease (Storing cell value) heard = refl
  moved_next h lease Marking heard = refl
  moved_next h lease Remapping heard = refl
  moved_next h lease (Releasing word) heard = told_next h (came_of word)

  marked_next : (h : HostState) (frame : FrameNo) → (marked_on h frame).left ≡ h.left
  marked_next h frame = by_test (nat_lt (frame.0 + 1) (first_frame h.sizes h.evacuation.block.0 + h.sizes.block)) where
    by_test : (b : Bool) → (if b then record h { place = places.Zeroing (record { 0 = frame.0 + 1 }) 0 } else next_block (record h { tried = h.tried ++ emptied_lines (h.evacuation.block.0 ∷ []) })).left ≡ h.left
    by_test true = refl
    by_test false = next_left h.waiting (record h { tried = h.tried ++ emptied_lines (h.evacuation.block.0 ∷ []) })

  heard_next : (c : HostCommand) (h : HostState) (place : HostPlace) (heard : Heard) → IsNext h.left (heard_at plugged c h place heard)
  heard_next c h places.Asking heard =
      let given : HostResult = result_in heard in
      let after : HostState = answered h c given in
      subst (λ (l : List HostCommand). IsNext l (with_result plugged after given)) (answered_left h c given) (result_next after given)
  heard_next c h places.Evacuating heard = told_next h (seen_in (action_of h.evacuation) heard)
  heard_next c h (places.Moving lease at) heard = moved_next h lease at heard
  heard_next c h places.TakingAway heard = refl
  heard_next c h (places.Zeroing frame cell) heard = refl
  heard_next c h (places.MarkingZeros frame) heard = marked_next h frame
  heard_next c h (places.PuttingOnline result) heard = result_next (record h { waiting = h.waiting + 1 }) result

  next_for : (left : List HostCommand) (h : HostState) (heard : Heard) → IsNext h.left (heard_for plugged left h heard)
  next_for [] h heard = refl
  next_for (c ∷ cs) h heard = heard_next c h h.place heard

  pub line_next : (h : HostState) (heard : Heard) → (host_after plugged h heard).left ≡ drop (length (line_list (line_after plugged h heard))) h.left
  line_next h heard = next_for h.left h heard

-- ---- commands with their lines

pub runs_none : (commands : List HostCommand) → host_runs commands [] ≡ []
runs_none [] = refl
runs_none (c ∷ cs) = refl

one_more : (commands : List HostCommand) (lines : List HostLine) (line : HostLine) → host_runs commands (lines ++ line ∷ []) ≡ host_runs commands lines ++ run_list (drop (length lines) commands) (Some line)
one_more [] lines line = sym (ap (λ (left : List HostCommand). run_list left (Some line)) (drop-nil (length lines)))
one_more (c ∷ cs) [] line =
    let run : HostRun = record { command = c; line = line } in
    ap (λ (rest : List HostRun). run ∷ rest) (runs_none cs)
one_more (c ∷ cs) (x ∷ xs) line =
    let run : HostRun = record { command = c; line = x } in
    ap (λ (rest : List HostRun). run ∷ rest) (one_more cs xs line)

-- a line is that of the first command without one
pub runs_more : (commands : List HostCommand) (lines : List HostLine) (line : Option HostLine) → host_runs commands (lines ++ line_list line) ≡ host_runs commands lines ++ run_list (drop (length lines) commands) line
runs_more commands lines None =
    ap (λ (l : List HostLine). host_runs commands l) (append-nil lines)
    ∙ (sym (append-nil (host_runs commands lines))
    ∙ ap (λ (l : List HostRun). host_runs commands lines ++ l) (sym (no_run (drop (length lines) commands))))
runs_more commands lines (Some line) = one_more commands lines line

-- where each command has its line, all commands are reported
pub all_told : (commands : List HostCommand) (lines : List HostLine) → length commands ≤ length lines → map (λ x. x.command) (host_runs commands lines) ≡ commands
all_told [] lines enough = refl
all_told (c ∷ cs) [] enough = absurd (omega arith)
all_told (c ∷ cs) (x ∷ xs) enough = ap (λ (l : List HostCommand). c ∷ l) (all_told cs xs (omega arith))

pub enough_lines : (commands : List HostCommand) (n : ℕ) → [] ≡ drop n commands → length commands ≤ n
enough_lines commands n none =
    let left = ap (λ (l : List HostCommand). length l) none in
    omega (arith, length-drop n commands, left)
