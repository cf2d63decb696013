-- What an evacuation was told stays true behind the host's next action, and what it is told then is true.
use Rattle.std.proofs.Common.{◌≡◌, ℕ, zero, suc, ◌+◌, ◌≤◌, ◌==◌, nat_lt, not, if◌then◌else◌, Bool, true, false, true≢false, List, [], ◌∷◌, ◌++◌, length, drop, append-nil, refl, sym, ◌∙◌, subst, arith, Option, None, Some}
use Rattle.std.proofs.lemmas.Bool.{or_left}
use Rattle.evac_model.specs.declared.evacuation.MoveLease.{MoveLease}
use Rattle.evac_model.specs.declared.host.HostCommand.{HostCommand}
use Rattle.evac_model.specs.declared.host.HostResult.{HostResult}
use Rattle.evac_model.specs.declared.host.HostResult.TheVariants as results
use Rattle.evac_model.specs.declared.names.FrameNo.{FrameNo}
use Rattle.evac_model.specs.Geometry.{Sizes, first_frame}
use Rattle.evac_model.specs.Pairing.{actions_of}
use Rattle.evac_words.specs.Word.{taken_bit, bound_of}
use Rattle.core_state.specs.declared.step.Step.TheVariants as steps
use Rattle.core_state.specs.Stepped.{word_found}
use Rattle.evacuate.specs.declared.seen.EvacSeen.{EvacSeen}
use Rattle.evacuate.specs.declared.seen.EvacSeen.TheVariants as seen
use Rattle.evacuate.specs.declared.stage.Stage.{Stage}
use Rattle.evacuate.specs.declared.stage.Stage.TheVariants as stages
use Rattle.evacuate.specs.Evacuating.{Evacuating, evacuation_at_start, action_of, evacuation_after}
use Rattle.evacuate.specs.Found.{is_busy, is_pinned, maps}
use Rattle.evacuate.specs.Tale.{Tale, nothing_tried}
use Rattle.evacuate.specs.UnderWay.{GoesBy, tale_after}
use Rattle.host_work.specs.Requests.{block_no, emptied_lines, failed_line}
use Rattle.host_work.specs.Truth.{targets_in}
use Rattle.machine.specs.Consistent.{IsSetting, IsConsistent}
use Rattle.machine.specs.Made.{Made, made}
use Rattle.machine.specs.MayMake.{MayMake}
use Rattle.machine.specs.World.{Setting, World, device_now}
use Rattle.core_actors.specs.declared.host_place.HostPlace.{HostPlace}
use Rattle.core_actors.specs.declared.host_place.HostPlace.TheVariants as places
use Rattle.core_actors.specs.declared.host_place.MovePlace.{MovePlace}
use Rattle.core_actors.specs.declared.host_place.MovePlace.TheVariants.{Taking, Beginning, Loading, Storing, Marking, Remapping, Releasing}
use Rattle.core_actors.specs.HostFound.{space_run, takes_of, DriverFound, evacuation_did, HasToldTrue, IsFoundLast, IsTrueMove, HostFound, HasTakes}
use Rattle.core_actors.specs.HostHears.{seen_in, goes_on_at, told, moves_on, stays, came_of, moved, ends_without, with_result, answered, result_in, host_after}
use Rattle.core_actors.specs.HostSeat.{IsDriver, HostSeat}
use Rattle.core_actors.specs.HostSpace.{StaysAt, HostSpace, tale_by, tale_told, tale_moved, tale_heard}
use Rattle.core_actors.specs.Hosts.{HostState, away, with_next_block, next_block, command_blocks, command_begun, host_at_start, host_ended, move_action, host_action}
use Rattle.core_actors.proofs.HostAnswersTrue.{told_true}
use Rattle.core_actors.proofs.HostEvacuatesTrue.{told_evacuating}
use Rattle.core_actors.proofs.HostGoesOn.{host_at}
use Rattle.core_actors.proofs.HostGrows.{driver_adds, take_found, behind_rounds, told_still, move_still}
use Rattle.core_actors.proofs.HostTales.{standing}
use Rattle.core_actors.proofs.HostTold.{answer_fits}
use Rattle.core_actors.proofs.HostTruths.{Adds}
use Rattle.core_actors.proofs.HostViews.{driver_of}

-- ---- where no evacuation was told anything

module _ (c : Setting) (x : World) where
  -- the next block of a command is tried, or the device is asked
  begun_found : (waiting : ℕ) (h : HostState) → HostFound c x (with_next_block waiting h) nothing_tried
  begun_found zero h = record { place = tt }
  begun_found (suc n) h = record { place = record { before = actions_of 0 x.space; did = sym (append-nil (actions_of 0 x.space)); end = length x.space; inside = omega arith; rounds = (length x.space, omega arith, tt); stage = tt } }

  -- a command begins
  command_found : (plugged : List ℕ) (h : HostState) → HostFound c x (command_begun plugged h) nothing_tried
  command_found plugged h =
      let blocks : List ℕ = command_blocks h.sizes plugged h.left in
      begun_found (length blocks) (record h { blocks = blocks; waiting = length blocks; tried = [] })

  module _ (plugged : List ℕ) (h : HostState) (result : HostResult) where
    ends_found : (blocks : List ℕ) → HostFound c x (ends_without blocks plugged h result).state nothing_tried
    ends_found [] = command_found plugged (record h { left = drop 1 h.left; number = suc h.number })
    ends_found (b ∷ blocks) = record { place = tt }

    -- the command has its result
    result_found : HostFound c x (with_result plugged h result).state nothing_tried
    result_found = ends_found (away h)

  -- the frames of an emptied block are zeroed
  zeroed_found : (h : HostState) (t : Tale) (frame : FrameNo) (cell : ℕ) (more : Bool) → HostFound c x (record h { place = if more then places.Zeroing frame (cell + 1) else places.MarkingZeros frame }) t
  zeroed_found h t frame cell true = record { place = tt }
  zeroed_found h t frame cell false = record { place = tt }

  marked_found : (h g : HostState) (frame : FrameNo) (more : Bool) → HostFound c x (if more then record h { place = places.Zeroing frame 0 } else next_block g) nothing_tried
  marked_found h g frame true = record { place = tt }
  marked_found h g frame false = begun_found g.waiting g

  -- ---- an evacuation was told something true

  by_stage : (plugged : List ℕ) (h : HostState) (e : Evacuating) (t : Tale) → HasToldTrue c x e t → (stage : Stage) → HostFound c x (goes_on_at stage plugged (record h { evacuation = e })).state (tale_by stage t)
  by_stage plugged h e t holds stages.Isolating = record { place = holds }
  by_stage plugged h e t holds (stages.Leasing after) = record { place = holds }
  by_stage plugged h e t holds (stages.Moving lease) = record { place = (holds, tt) }
  by_stage plugged h e t holds (stages.Returning attempt) = record { place = holds }
  by_stage plugged h e t holds (stages.Undoing why) = record { place = holds }
  by_stage plugged h e t holds stages.Emptied = record { place = holds }
  by_stage plugged h e t holds (stages.Failed why) = result_found plugged (record h { evacuation = e; tried = h.tried ++ failed_line e.block.0 why ∷ [] }) results.Unsent

  told_found : (plugged : List ℕ) (h : HostState) (t : Tale) (what : EvacSeen) → HasToldTrue c x (evacuation_after h.evacuation what) (tale_after h.evacuation t what) → HostFound c x (told plugged h what).state (tale_told h t what)
  told_found plugged h t what holds = by_stage plugged h (evacuation_after h.evacuation what) (tale_after h.evacuation t what) holds (evacuation_after h.evacuation what).stage

pub found_at_start : (c : Setting) (w : World) (s : Sizes) (plugged : List ℕ) (commands : List HostCommand) → HostFound c w (host_at_start s plugged commands) nothing_tried
found_at_start c w s plugged commands = command_found c w plugged (record {
  sizes = s;
  left = commands;
  number = 0;
  place = places.Asking;
  evacuation = evacuation_at_start s (block_no 0);
  blocks = [];
  waiting = 0;
  tried = [];
})

-- ---- the steps of a move

module _ (c : Setting) (w : World) (h : HostState) (e : Evacuating) (t : Tale) (lease : MoveLease) where
  -- the host at that step, with its evacuation
  abbrev moving : Evacuating
  moving = standing e (stages.Moving lease)

  abbrev host : MovePlace → HostState
  host at = host_at h e (places.Moving lease at) (stages.Moving lease)

  module _ (x : World) (adds : Adds c w x) (same : actions_of 0 x.space ≡ actions_of 0 w.space) (at : MovePlace) (holds : HasToldTrue c w moving t) where
    -- the next step of the move
    steps_on : (next : MovePlace) → IsTrueMove x t lease next → HostFound c x (moves_on (host at) lease next).state t
    steps_on next is = record { place = (told_still c w x adds same moving t holds, is) }

    -- behind the copy of a cell
    cell_copied : (more : Bool) (cell : ℕ) → HostFound c x (moves_on (host at) lease (if more then Loading (cell + 1) else Marking)).state t
    cell_copied true cell = steps_on (Loading (cell + 1)) tt
    cell_copied false cell = steps_on Marking tt

    module _ (plugged : List ℕ) (sizes : e.sizes ≡ c.sizes) (goes : GoesBy moving t) where
      no_more : actions_of 0 x.space ≡ actions_of 0 w.space ++ []
      no_more = same ∙ sym (append-nil (actions_of 0 w.space))

      -- the end of the move is told
      move_told : (found : Option ℕ) → StaysAt lease (Releasing found) → IsTrueMove x t lease (Releasing found) → HostFound c x (told plugged (host at) (came_of found)).state (tale_told (host at) t (came_of found))
      move_told None fits is = told_found c x plugged (host at) t seen.Moved (told_true c w x moving t seen.Moved sizes goes refl tt holds adds no_more tt)
      move_told (Some word) fits is =
          told_found c x plugged (host at) t (seen.Found word) (told_true c w x moving t (seen.Found word) sizes goes (answer_fits moving lease (Some word) fits) tt holds adds no_more is)

      -- the page was taken
      page_found : (word : ℕ) (taken : Bool) → (taken_bit word == 1) ≡ taken → IsFoundLast x t.rounds lease.page word
          → HostFound c x
          (if taken then told plugged (host at) (seen.Found word) else moves_on (host at) lease (if stays word lease.from.0 then Releasing (Some word) else Beginning)).state
          (if taken then tale_told (host at) t (seen.Found word) else t)
      page_found word true is last = move_told (Some word) (or_left (is_busy word lease.from.0) (is_pinned word lease.from.0) (or_left (taken_bit word == 1) (not (maps word lease.from.0)) is)) last
      page_found word false is last = page_stays (stays word lease.from.0)
        where
          page_stays : (stay : Bool) → HostFound c x (moves_on (host at) lease (if stay then Releasing (Some word) else Beginning)).state t
          page_stays true = steps_on (Releasing (Some word)) last
          page_stays false = steps_on Beginning tt

  module _ (set : IsSetting c) (kept : IsConsistent c w) (driver : IsDriver c.opening (driver_of w)) where
    abbrev behind : MovePlace → Made
    behind at = made c 0 w (move_action lease at)

    -- what holds before, at a stage of the evacuation, and behind
    record IsBefore (at : MovePlace) (stage : Stage) : Type 0 where
      sizes : e.sizes ≡ c.sizes
      goes : GoesBy (standing e stage) t
      holds : HasToldTrue c w (standing e stage) t
      step : IsTrueMove w t lease at
      takes : HasTakes w (host at)
      stays_at : StaysAt lease at
      may : MayMake c 0 w (move_action lease at)

    abbrev IsBehind : MovePlace → Stage → Type 0
    IsBehind at stage =
        let g : HostState = host_at h e (places.Moving lease at) stage in
        HostFound c (behind at).world (moved (device_now c (behind at).world).plugged g lease at (behind at).heard).state (tale_moved g t at (behind at).heard)

    adds_at : (at : MovePlace) → MayMake c 0 w (move_action lease at) → Adds c w (behind at).world
    adds_at at may = driver_adds c w (move_action lease at) set kept driver may

    move_at : (at : MovePlace) → IsBefore at (stages.Moving lease) → IsBehind at (stages.Moving lease)
    move_at Taking b =
        let x : World = (behind Taking).world in
        let word : ℕ = word_found c.opening w.snapshot.words (driver_of w) (steps.Take lease.page) in
        let number : ℕ = length (takes_of w) in
        let found : DriverFound x number lease.page word × ((other old : ℕ) → DriverFound w other lease.page old → bound_of old ≤ bound_of word) × (length (takes_of x) ≡ number + 1) = take_found c w lease.page set kept driver b.may in
        let takes : number + 1 ≡ targets_in (actions_of 0 w.space) = b.takes in
        let last : suc number ≡ targets_in (actions_of 0 w.space) = omega arith in
        page_found x (adds_at Taking b.may) refl Taking b.holds (device_now c x).plugged b.sizes b.goes word (taken_bit word == 1) refl
        (record {
          number = number;
          last = last;
          behind = record {
            found = found.0;
            late = behind_rounds (space_run c w) (DriverFound w) b.holds.before e.block (evacuation_did moving t) lease.page word found.1 b.holds.rounds.0 t.rounds b.holds.rounds.2;
          };
        })
    move_at Beginning b = steps_on (behind Beginning).world (adds_at Beginning b.may) refl Beginning b.holds (Loading 0) tt
    move_at (Loading cell) b =
        let word : ℕ = word_found c.opening w.snapshot.words (driver_of w) (steps.Load cell) in
        steps_on (behind (Loading cell)).world (adds_at (Loading cell) b.may) refl (Loading cell) b.holds (Storing cell word) tt
    move_at (Storing cell value) b = cell_copied (behind (Storing cell value)).world (adds_at (Storing cell value) b.may) refl (Storing cell value) b.holds (nat_lt (cell + 1) h.sizes.cells) cell
    move_at Marking b = steps_on (behind Marking).world (adds_at Marking b.may) refl Marking b.holds Remapping tt
    move_at Remapping b = steps_on (behind Remapping).world (adds_at Remapping b.may) refl Remapping b.holds (Releasing None) tt
    move_at (Releasing found) b =
        let x : World = (behind (Releasing found)).world in
        let adds : Adds c w x = adds_at (Releasing found) b.may in
        move_told x adds refl (Releasing found) b.holds (device_now c x).plugged b.sizes b.goes found b.stays_at (move_still c w x adds refl t lease (Releasing found) b.step)

    move_behind : (at : MovePlace) (stage : Stage) → stage ≡ stages.Moving lease → IsBefore at stage → IsBehind at stage
    move_behind at stage is = subst (λ (s : Stage). IsBefore at s → IsBehind at s) (sym is) (move_at at)

-- ---- any action

module _ (c : Setting) (w : World) (h : HostState) (t : Tale) (set : IsSetting c) (kept : IsConsistent c w) where
  -- the host at that place, with these commands left
  abbrev placed : List HostCommand → HostPlace → HostState
  placed left place = record h { left = left; place = place }

  abbrev made_at : List HostCommand → HostPlace → Made
  made_at left place = made c 0 w (host_action (placed left place))

  abbrev IsFoundAt : List HostCommand → HostPlace → Type 0
  IsFoundAt left place =
      let x : Made = made_at left place in
      HostFound c x.world (host_after (device_now c x.world).plugged (placed left place) x.heard) (tale_heard (placed left place) t x.heard)

  found_at : (left : List HostCommand) (place : HostPlace) → HostSeat c w (placed left place) → HostSpace c w (placed left place) t → HostFound c w (placed left place) t → HasTakes w (placed left place) → host_ended (placed left place) ≡ false
      → MayMake c 0 w (host_action (placed left place)) → IsFoundAt left place
  found_at [] place seat space found takes going may = absurd (true≢false going)
  found_at (command ∷ more) places.Asking seat space found takes going may =
      let g : HostState = placed (command ∷ more) places.Asking in
      let x : Made = made_at (command ∷ more) places.Asking in
      result_found c x.world (device_now c x.world).plugged (answered g command (result_in x.heard)) (result_in x.heard)
  found_at (command ∷ more) places.Evacuating seat space found takes going may =
      let g : HostState = placed (command ∷ more) places.Evacuating in
      let x : Made = made_at (command ∷ more) places.Evacuating in
      told_found c x.world (device_now c x.world).plugged g t (seen_in (action_of h.evacuation) x.heard) (told_evacuating c w g t set kept seat space found going may refl)
  found_at (command ∷ more) (places.Moving lease at) seat space found takes going may =
      move_behind c w (placed (command ∷ more) (places.Moving lease at)) h.evacuation t lease set kept seat.driver at h.evacuation.stage space.place.1 (record {
        sizes = space.place.0.sizes;
        goes = space.place.0.goes_by;
        holds = found.place.0;
        step = found.place.1;
        takes = takes;
        stays_at = space.place.2;
        may = may;
      })
  found_at (command ∷ more) places.TakingAway seat space found takes going may = record { place = tt }
  found_at (command ∷ more) (places.Zeroing frame cell) seat space found takes going may =
      let x : Made = made_at (command ∷ more) (places.Zeroing frame cell) in
      zeroed_found c x.world (placed (command ∷ more) (places.Zeroing frame cell)) t frame cell (nat_lt (cell + 1) h.sizes.cells)
  found_at (command ∷ more) (places.MarkingZeros frame) seat space found takes going may =
      let g : HostState = placed (command ∷ more) (places.MarkingZeros frame) in
      let x : Made = made_at (command ∷ more) (places.MarkingZeros frame) in
      marked_found c x.world g (record g { tried = g.tried ++ emptied_lines (g.evacuation.block.0 ∷ []) }) (record { 0 = frame.0 + 1 })
      (nat_lt (frame.0 + 1) (first_frame h.sizes h.evacuation.block.0 + h.sizes.block))
  found_at (command ∷ more) (places.PuttingOnline result) seat space found takes going may =
      let g : HostState = placed (command ∷ more) (places.PuttingOnline result) in
      let x : Made = made_at (command ∷ more) (places.PuttingOnline result) in
      result_found c x.world (device_now c x.world).plugged (record g { waiting = g.waiting + 1 }) result

-- Where a block is being emptied behind the action, all that its evacuation was told is true.
pub found_after : (c : Setting) (w : World) (h : HostState) (t : Tale) → IsSetting c → IsConsistent c w → HostSeat c w h → HostSpace c w h t → HostFound c w h t → HasTakes w h → host_ended h ≡ false → MayMake c 0 w (host_action h)
    → let x : Made = made c 0 w (host_action h) in
    HostFound c x.world (host_after (device_now c x.world).plugged h x.heard) (tale_heard h t x.heard)
found_after c w h t set kept seat space found takes going may = found_at c w h t set kept h.left h.place seat space found takes going may
