-- The driver takes a page once for each target that it leases: behind each of its actions, it has made as many takes as it leased
-- targets, but for one that is still to be made.
use Rattle.std.proofs.Common.{◌≡◌, ℕ, zero, suc, ◌+◌, ◌==◌, nat_lt, not, if◌then◌else◌, Bool, true, false, true≢false, List, [], ◌∷◌, ◌++◌, length, drop, append-nil, refl, sym, ap, ◌∙◌, arith, Option, None, Some}
use Rattle.std.proofs.lemmas.Bool.{false≢true, or_left}
use Rattle.evac_model.specs.declared.evacuation.MoveLease.{MoveLease}
use Rattle.evac_model.specs.declared.host.HostCommand.{HostCommand}
use Rattle.evac_model.specs.declared.host.HostCommand.TheVariants as commands
use Rattle.evac_model.specs.declared.host.HostResult.{HostResult}
use Rattle.evac_model.specs.declared.host.HostResult.TheVariants as results
use Rattle.evac_model.specs.declared.names.FrameNo.{FrameNo}
use Rattle.evac_model.specs.declared.names.Kind.{Kind}
use Rattle.evac_model.specs.declared.scenario.StartPage.{StartPage}
use Rattle.evac_model.specs.declared.space.SpaceAction.{SpaceAction}
use Rattle.evac_model.specs.declared.space.SpaceAction.TheVariants.{Offline, Online}
use Rattle.evac_model.specs.DeviceAnswer.{device_at_start}
use Rattle.evac_model.specs.Geometry.{Sizes, first_frame}
use Rattle.evac_model.specs.Pairing.{actions_of}
use Rattle.evac_model.proofs.Pushes.{own_push}
use Rattle.evac_words.specs.Word.{taken_bit}
use Rattle.core_state.specs.declared.noticed.Notice.{Notice}
use Rattle.core_state.specs.declared.step.Step.TheVariants as steps
use Rattle.core_state.specs.Stepped.{word_found}
use Rattle.evacuate.specs.declared.action.EvacAction.{EvacAction}
use Rattle.evacuate.specs.declared.action.EvacAction.TheVariants as evac
use Rattle.evacuate.specs.declared.seen.EvacSeen.{EvacSeen}
use Rattle.evacuate.specs.declared.seen.EvacSeen.TheVariants as seen
use Rattle.evacuate.specs.declared.stage.Stage.{Stage}
use Rattle.evacuate.specs.declared.stage.Stage.TheVariants as stages
use Rattle.evacuate.specs.Evacuating.{Evacuating, evacuation_at_start, action_at, action_of, answers, is_answer, round_ended, attempt_over, after_answer, evacuation_after}
use Rattle.evacuate.specs.Found.{is_busy, is_pinned, maps}
use Rattle.evacuate.specs.Tale.{Tale}
use Rattle.host_work.specs.Evacuated.{space_action}
use Rattle.host_work.specs.Requests.{block_no, emptied_lines, failed_line}
use Rattle.host_work.specs.Truth.{targets_in}
use Rattle.host_work.proofs.TruthGrows.{targets_append}
use Rattle.machine.specs.declared.action.Action.{Action}
use Rattle.machine.specs.declared.action.Action.TheVariants as actions
use Rattle.machine.specs.Consistent.{IsSetting, IsConsistent}
use Rattle.machine.specs.Made.{Made, made}
use Rattle.machine.specs.MayMake.{MayMake}
use Rattle.machine.specs.Start.{world_at_start}
use Rattle.machine.specs.World.{Setting, World, device_now}
use Rattle.core_actors.specs.declared.host_place.HostPlace.{HostPlace}
use Rattle.core_actors.specs.declared.host_place.HostPlace.TheVariants as places
use Rattle.core_actors.specs.declared.host_place.MovePlace.{MovePlace}
use Rattle.core_actors.specs.declared.host_place.MovePlace.TheVariants.{Taking, Beginning, Loading, Storing, Marking, Remapping, Releasing}
use Rattle.core_actors.specs.HostFound.{takes_of, takes_left, HasTakes}
use Rattle.core_actors.specs.HostHears.{HostHeard, seen_in, goes_on_at, told, moves_on, stays, came_of, ends_without, with_result, answered, result_in, host_after}
use Rattle.core_actors.specs.HostSeat.{IsDriver, HostSeat}
use Rattle.core_actors.specs.HostSpace.{StaysAt, HostSpace}
use Rattle.core_actors.specs.Hosts.{HostState, away, first_of, with_next_block, next_block, command_blocks, command_begun, host_at_start, host_ended, device_call, evac_action, host_action}
use Rattle.core_actors.proofs.HostAnswers.{seen_answers}
use Rattle.core_actors.proofs.HostGrows.{IsTake, takes_kept, take_found}
use Rattle.core_actors.proofs.HostMakes.{makes}
use Rattle.core_actors.proofs.HostTold.{told_back}
use Rattle.core_actors.proofs.HostViews.{driver_of}

-- ---- what an action changes

-- another's action leaves the driver's takes and its own actions of the frame space
pub takes_elsewhere : (w x : World) (h : HostState) → takes_of x ≡ takes_of w → actions_of 0 x.space ≡ actions_of 0 w.space → HasTakes w h → HasTakes x h
takes_elsewhere w x h takes same has = ap (λ (l : List Notice). length l + takes_left h.place) takes ∙ (has ∙ ap (λ (l : List SpaceAction). targets_in l) (sym same))

-- No take is made where none was left. As many are left then as targets were leased.
leased : (w x : World) (h g : HostState) (own : List SpaceAction) → takes_of x ≡ takes_of w → actions_of 0 x.space ≡ actions_of 0 w.space ++ own → takes_left h.place ≡ 0 → takes_left g.place ≡ targets_in own → HasTakes w h → HasTakes x g
leased w x h g own takes more before behind has =
    let many : length (takes_of x) ≡ length (takes_of w) = ap (λ (l : List Notice). length l) takes in
    let targets : targets_in (actions_of 0 x.space) ≡ targets_in (actions_of 0 w.space) + targets_in own = ap (λ (l : List SpaceAction). targets_in l) more ∙ targets_append (actions_of 0 w.space) own in
    omega arith

-- The take that was left is made, and none is left.
taken_once : (w x : World) (h g : HostState) → length (takes_of x) ≡ length (takes_of w) + 1 → actions_of 0 x.space ≡ actions_of 0 w.space → takes_left h.place ≡ 1 → takes_left g.place ≡ 0 → HasTakes w h → HasTakes x g
taken_once w x h g many same before behind has =
    let targets : targets_in (actions_of 0 x.space) ≡ targets_in (actions_of 0 w.space) = ap (λ (l : List SpaceAction). targets_in l) same in
    omega arith

-- ---- places at which no take is left

-- the next block of a command is tried, or the device is asked
begun_none : (waiting : ℕ) (h : HostState) → takes_left (with_next_block waiting h).place ≡ 0
begun_none zero h = refl
begun_none (suc n) h = refl

-- a command begins
command_none : (plugged : List ℕ) (h : HostState) → takes_left (command_begun plugged h).place ≡ 0
command_none plugged h =
    let blocks : List ℕ = command_blocks h.sizes plugged h.left in
    begun_none (length blocks) (record h { blocks = blocks; waiting = length blocks; tried = [] })

ends_none : (plugged : List ℕ) (h : HostState) (result : HostResult) (blocks : List ℕ) → takes_left (ends_without blocks plugged h result).state.place ≡ 0
ends_none plugged h result [] = command_none plugged (record h { left = drop 1 h.left; number = suc h.number })
ends_none plugged h result (b ∷ blocks) = refl

-- the command has its result
result_none : (plugged : List ℕ) (h : HostState) (result : HostResult) → takes_left (with_result plugged h result).state.place ≡ 0
result_none plugged h result = ends_none plugged h result (away h)

-- the frames of an emptied block are zeroed
zeroed_none : (frame : FrameNo) (cell : ℕ) (more : Bool) → takes_left (if more then places.Zeroing frame (cell + 1) else places.MarkingZeros frame) ≡ 0
zeroed_none frame cell true = refl
zeroed_none frame cell false = refl

marked_none : (h g : HostState) (frame : FrameNo) (more : Bool) → takes_left (if more then record h { place = places.Zeroing frame 0 } else next_block g).place ≡ 0
marked_none h g frame true = refl
marked_none h g frame false = begun_none g.waiting g

-- ---- what an evacuation is told

-- the takes that are left where an evacuation goes on from that stage
abbrev left_at : Stage → ℕ
left_at (stages.Moving lease) = 1
left_at _ = 0

stage_left : (stage : Stage) (plugged : List ℕ) (h : HostState) → takes_left (goes_on_at stage plugged h).state.place ≡ left_at stage
stage_left stages.Isolating plugged h = refl
stage_left (stages.Leasing after) plugged h = refl
stage_left (stages.Moving lease) plugged h = refl
stage_left (stages.Returning attempt) plugged h = refl
stage_left (stages.Undoing why) plugged h = refl
stage_left stages.Emptied plugged h = refl
stage_left (stages.Failed why) plugged h = result_none plugged (record h { tried = h.tried ++ failed_line h.evacuation.block.0 why ∷ [] }) results.Unsent

module _ (e : Evacuating) where
  either_none : (t : Bool) (x y : Evacuating) → left_at x.stage ≡ 0 → left_at y.stage ≡ 0 → left_at (if t then x else y).stage ≡ 0
  either_none true x y h g = h
  either_none false x y h g = g

  round_none : (busy : Option MoveLease) → left_at (round_ended e busy).stage ≡ 0
  round_none None = refl
  round_none (Some lease) = either_none (nat_lt e.round 4) _ _ refl refl

  attempt_none : (lease : MoveLease) (found : Option ℕ) → left_at (attempt_over e lease found).stage ≡ 0
  attempt_none lease None = refl
  attempt_none lease (Some word) = either_none (is_pinned word lease.from.0) _ _ refl refl

  -- a page is to be moved just where a target was leased for it
  answer_left : (stage : Stage) (what : EvacSeen) → answers e.sizes e.block stage what ≡ true → left_at (after_answer e stage what).stage ≡ targets_in (space_action (action_at e.block stage) what)
  answer_left stages.Isolating seen.Isolated fits = refl
  answer_left stages.Isolating (seen.Refused frame page) fits = refl
  answer_left (stages.Leasing after) (seen.Leased lease) fits = refl
  answer_left (stages.Leasing after) seen.NoneLeft fits = round_none e.busy
  answer_left (stages.Leasing after) (seen.NoTarget from page at) fits = refl
  answer_left (stages.Moving lease) seen.Moved fits = refl
  answer_left (stages.Moving lease) (seen.Found word) fits = refl
  answer_left (stages.Returning attempt) seen.Done fits = attempt_none attempt.lease attempt.found
  answer_left (stages.Undoing why) seen.Done fits = refl
  answer_left _ _ fits = absurd (false≢true fits)

told_left : (plugged : List ℕ) (h : HostState) (what : EvacSeen) → is_answer h.evacuation what ≡ true → takes_left (told plugged h what).state.place ≡ targets_in (space_action (action_of h.evacuation) what)
told_left plugged h what fits =
    let e : Evacuating = h.evacuation in
    let after : Evacuating = evacuation_after e what in
    stage_left after.stage plugged (record h { evacuation = after })
    ∙ (ap (λ (b : Bool). left_at (if b then after_answer e e.stage what else e).stage) fits ∙ answer_left e e.stage what fits)

-- ---- where a page is taken, or let go

module _ (plugged : List ℕ) (h : HostState) (lease : MoveLease) (stage : h.evacuation.stage ≡ stages.Moving lease) where
  -- the end of the move is told
  came_none : (found : Option ℕ) → StaysAt lease (Releasing found) → takes_left (told plugged h (came_of found)).state.place ≡ 0
  came_none found fits = ap (λ (x : HostHeard). takes_left x.state.place) (told_back plugged h lease found stage fits)

  -- the page was taken
  page_none : (word : ℕ) (taken : Bool) → (taken_bit word == 1) ≡ taken
      → takes_left (if taken then told plugged h (seen.Found word) else moves_on h lease (if stays word lease.from.0 then Releasing (Some word) else Beginning)).state.place ≡ 0
  page_none word true is = came_none (Some word) (or_left (is_busy word lease.from.0) (is_pinned word lease.from.0) (or_left (taken_bit word == 1) (not (maps word lease.from.0)) is))
  page_none word false is = page_stays (stays word lease.from.0)
    where
      page_stays : (stay : Bool) → takes_left (moves_on h lease (if stay then Releasing (Some word) else Beginning)).state.place ≡ 0
      page_stays true = refl
      page_stays false = refl

-- behind the copy of a cell
copied_none : (h : HostState) (lease : MoveLease) (cell : ℕ) (more : Bool) → takes_left (moves_on h lease (if more then Loading (cell + 1) else Marking)).state.place ≡ 0
copied_none h lease cell true = refl
copied_none h lease cell false = refl

-- ---- any action

-- what an evacuation asks for is no take, and the device makes no action of the frame space
asks_no_take : (asked : EvacAction) → ¬ IsTake (evac_action asked)
asks_no_take (evac.Isolate block) = λ take. take
asks_no_take (evac.Lease block after) = λ take. take
asks_no_take (evac.Move lease) = λ take. take
asks_no_take (evac.GiveBack frame) = λ take. take
asks_no_take (evac.Undo block) = λ take. take
asks_no_take evac.Emptied = λ take. take
asks_no_take (evac.Failed why) = λ take. take

device_alone : (c : Setting) (w : World) (command : HostCommand) → (made c 0 w (actions.Device (device_call command))).world.space ≡ w.space
device_alone c w (commands.Request bytes) = refl
device_alone c w commands.Config = refl

module _ (c : Setting) (w : World) (h : HostState) (t : Tale) (set : IsSetting c) (kept : IsConsistent c w) where
  -- an action that is no take: what it does to the frame space, and where the host goes on
  acted : (action : Action) (before after : HostState) (own : List SpaceAction) → MayMake c 0 w action → ¬ IsTake action → actions_of 0 (made c 0 w action).world.space ≡ actions_of 0 w.space ++ own
      → takes_left before.place ≡ 0 → takes_left after.place ≡ targets_in own → HasTakes w before → HasTakes (made c 0 w action).world after
  acted action before after own may other more none behind has = leased w (made c 0 w action).world before after own (takes_kept c w action set kept may other) more none behind has

  -- one that does nothing to it
  acted_alone : (action : Action) (before after : HostState) → MayMake c 0 w action → ¬ IsTake action → (made c 0 w action).world.space ≡ w.space
      → takes_left before.place ≡ 0 → takes_left after.place ≡ 0 → HasTakes w before → HasTakes (made c 0 w action).world after
  acted_alone action before after may other same none behind has =
      acted action before after [] may other (ap (λ (l : List SpaceAction). actions_of 0 l) same ∙ sym (append-nil (actions_of 0 w.space))) none behind has

  -- the host at that place, with these commands left
  abbrev placed : List HostCommand → HostPlace → HostState
  placed left place = record h { left = left; place = place }

  abbrev made_at : List HostCommand → HostPlace → Made
  made_at left place = made c 0 w (host_action (placed left place))

  abbrev after_at : List HostCommand → HostPlace → HostState
  after_at left place =
      let x : Made = made_at left place in
      host_after (device_now c x.world).plugged (placed left place) x.heard

  abbrev HasTakesBehind : List HostCommand → HostPlace → Type 0
  HasTakesBehind left place = HasTakes (made_at left place).world (after_at left place)

  -- ---- a page is being moved

  module _ (command : HostCommand) (more : List HostCommand) (lease : MoveLease) (driver : IsDriver c.opening (driver_of w)) (stage : h.evacuation.stage ≡ stages.Moving lease) where
    abbrev moving : MovePlace → HostState
    moving at = placed (command ∷ more) (places.Moving lease at)

    -- a step that is no take, behind which none is left
    stepped : (at : MovePlace) → MayMake c 0 w (host_action (moving at)) → ¬ IsTake (host_action (moving at)) → (made_at (command ∷ more) (places.Moving lease at)).world.space ≡ w.space
        → takes_left (places.Moving lease at) ≡ 0 → takes_left (after_at (command ∷ more) (places.Moving lease at)).place ≡ 0 → HasTakes w (moving at) → HasTakesBehind (command ∷ more) (places.Moving lease at)
    stepped at may other same none behind has = acted_alone (host_action (moving at)) (moving at) (after_at (command ∷ more) (places.Moving lease at)) may other same none behind has

    move_at : (at : MovePlace) → StaysAt lease at → MayMake c 0 w (host_action (moving at)) → HasTakes w (moving at) → HasTakesBehind (command ∷ more) (places.Moving lease at)
    move_at Taking fits may has =
        let x : World = (made_at (command ∷ more) (places.Moving lease Taking)).world in
        let word : ℕ = word_found c.opening w.snapshot.words (driver_of w) (steps.Take lease.page) in
        let one_more : length (takes_of x) ≡ length (takes_of w) + 1 = (take_found c w lease.page set kept driver may).2 in
        taken_once w x (moving Taking) (after_at (command ∷ more) (places.Moving lease Taking)) one_more refl refl
        (page_none (device_now c x).plugged (moving Taking) lease stage word (taken_bit word == 1) refl) has
    move_at Beginning fits may has = stepped Beginning may (λ take. take) refl refl refl has
    move_at (Loading cell) fits may has = stepped (Loading cell) may (λ take. take) refl refl refl has
    move_at (Storing cell value) fits may has = stepped (Storing cell value) may (λ take. take) refl refl (copied_none (moving (Storing cell value)) lease cell (nat_lt (cell + 1) h.sizes.cells)) has
    move_at Marking fits may has = stepped Marking may (λ take. take) refl refl refl has
    move_at Remapping fits may has = stepped Remapping may (λ take. take) refl refl refl has
    move_at (Releasing found) fits may has =
        let x : World = (made_at (command ∷ more) (places.Moving lease (Releasing found))).world in
        stepped (Releasing found) may (λ take. take) refl refl (came_none (device_now c x).plugged (moving (Releasing found)) lease stage found fits) has

  -- ---- wherever its command stands

  takes_at : (left : List HostCommand) (place : HostPlace) → HostSeat c w (placed left place) → HostSpace c w (placed left place) t → HasTakes w (placed left place) → host_ended (placed left place) ≡ false
      → MayMake c 0 w (host_action (placed left place)) → HasTakesBehind left place
  takes_at [] place seat space takes going may = absurd (true≢false going)
  takes_at (command ∷ more) places.Asking seat space takes going may =
      let g : HostState = placed (command ∷ more) places.Asking in
      let x : Made = made_at (command ∷ more) places.Asking in
      acted_alone (host_action g) g (after_at (command ∷ more) places.Asking) may (λ take. take) (device_alone c w command) refl
      (result_none (device_now c x.world).plugged (answered g command (result_in x.heard)) (result_in x.heard)) takes
  takes_at (command ∷ more) places.Evacuating seat space takes going may =
      let g : HostState = placed (command ∷ more) places.Evacuating in
      let asked : EvacAction = action_of h.evacuation in
      let x : Made = made_at (command ∷ more) places.Evacuating in
      let what : EvacSeen = seen_in asked x.heard in
      acted (host_action g) g (after_at (command ∷ more) places.Evacuating) (space_action asked what) may (asks_no_take asked) (makes c w asked).0 refl
      (told_left (device_now c x.world).plugged g what (seen_answers c w g t space.place.0 space.place.1)) takes
  takes_at (command ∷ more) (places.Moving lease at) seat space takes going may = move_at command more lease seat.driver space.place.1 at space.place.2 may takes
  takes_at (command ∷ more) places.TakingAway seat space takes going may =
      let g : HostState = placed (command ∷ more) places.TakingAway in
      let a : SpaceAction = Offline h.evacuation.block in
      acted (host_action g) g (after_at (command ∷ more) places.TakingAway) (a ∷ []) may (λ take. take) (own_push 0 w.space a refl) refl refl takes
  takes_at (command ∷ more) (places.Zeroing frame cell) seat space takes going may =
      let g : HostState = placed (command ∷ more) (places.Zeroing frame cell) in
      acted_alone (host_action g) g (after_at (command ∷ more) (places.Zeroing frame cell)) may (λ take. take) refl refl (zeroed_none frame cell (nat_lt (cell + 1) h.sizes.cells)) takes
  takes_at (command ∷ more) (places.MarkingZeros frame) seat space takes going may =
      let g : HostState = placed (command ∷ more) (places.MarkingZeros frame) in
      acted_alone (host_action g) g (after_at (command ∷ more) (places.MarkingZeros frame)) may (λ take. take) refl refl
      (marked_none g (record g { tried = g.tried ++ emptied_lines (g.evacuation.block.0 ∷ []) }) (record { 0 = frame.0 + 1 }) (nat_lt (frame.0 + 1) (first_frame h.sizes h.evacuation.block.0 + h.sizes.block))) takes
  takes_at (command ∷ more) (places.PuttingOnline result) seat space takes going may =
      let g : HostState = placed (command ∷ more) (places.PuttingOnline result) in
      let x : Made = made_at (command ∷ more) (places.PuttingOnline result) in
      let a : SpaceAction = Online (block_no (first_of (away g))) in
      acted (host_action g) g (after_at (command ∷ more) (places.PuttingOnline result)) (a ∷ []) may (λ take. take) (own_push 0 w.space a refl) refl
      (result_none (device_now c x.world).plugged (record g { waiting = g.waiting + 1 }) result) takes

-- The driver made a take for each target that it leased, behind each of its actions.
pub takes_after : (c : Setting) (w : World) (h : HostState) (t : Tale) → IsSetting c → IsConsistent c w → HostSeat c w h → HostSpace c w h t → HasTakes w h → host_ended h ≡ false → MayMake c 0 w (host_action h)
    → let x : Made = made c 0 w (host_action h) in
    HasTakes x.world (host_after (device_now c x.world).plugged h x.heard)
takes_after c w h t set kept seat space takes going may = takes_at c w h t set kept h.left h.place seat space takes going may

-- ---- at the start

-- no take was made, and no target leased
begun_takes : (s : Sizes) (start : List StartPage) (budgets : List ℕ) (waiting : ℕ) (h : HostState) → HasTakes (world_at_start s start budgets) (with_next_block waiting h)
begun_takes s start budgets zero h = refl
begun_takes s start budgets (suc n) h = refl

pub takes_at_start : (s : Sizes) (online : Kind) (start : List StartPage) (budgets fails : List ℕ) (commands : List HostCommand) → HasTakes (world_at_start s start budgets) (host_at_start s (device_at_start s).plugged commands)
takes_at_start s online start budgets fails commands =
    let blocks : List ℕ = command_blocks s (device_at_start s).plugged commands in
    begun_takes s start budgets (length blocks) (record {
      sizes = s;
      left = commands;
      number = 0;
      place = places.Asking;
      evacuation = evacuation_at_start s (block_no 0);
      blocks = blocks;
      waiting = length blocks;
      tried = [];
    })
