-- The frame space behind each action by which a host empties a block: what its evacuation asks for, and the steps of a move.
use Rattle.std.proofs.Common.{◌≡◌, ℕ, ◌+◌, ◌==◌, nat_lt, not, Bool, true, false, true≢false, if◌then◌else◌, List, [], ◌∷◌, refl, sym, subst, Option, Some, None}
use Rattle.std.proofs.lemmas.Bool.{or_left}
use Rattle.evac_model.specs.declared.evacuation.MoveLease.{MoveLease}
use Rattle.evac_model.specs.declared.host.HostCommand.{HostCommand}
use Rattle.evac_words.specs.Word.{taken_bit}
use Rattle.core_state.specs.declared.snapshot.Snapshot.{Snapshot}
use Rattle.core_state.specs.declared.step.Step.TheVariants as steps
use Rattle.core_state.specs.Stepped.{word_found}
use Rattle.core_state.specs.Views.{view_of}
use Rattle.evacuate.specs.declared.seen.EvacSeen.TheVariants as seen
use Rattle.evacuate.specs.declared.stage.Stage.{Stage}
use Rattle.evacuate.specs.declared.stage.Stage.TheVariants as stages
use Rattle.evacuate.specs.Evacuating.{Evacuating, is_answer}
use Rattle.evacuate.specs.Found.{is_busy, is_pinned, maps}
use Rattle.evacuate.specs.Tale.{Tale, told_of}
use Rattle.machine.specs.Consistent.{IsSetting, IsConsistent}
use Rattle.machine.specs.Made.{Made, made}
use Rattle.machine.specs.MayMake.{MayMake}
use Rattle.machine.specs.World.{Setting, World, space_now, device_now}
use Rattle.core_actors.specs.declared.host_place.HostPlace.{HostPlace}
use Rattle.core_actors.specs.declared.host_place.HostPlace.TheVariants as places
use Rattle.core_actors.specs.declared.host_place.MovePlace.{MovePlace}
use Rattle.core_actors.specs.declared.host_place.MovePlace.TheVariants.{Taking, Beginning, Loading, Storing, Marking, Remapping, Releasing}
use Rattle.core_actors.specs.Hosts.{HostState, host_ended, move_action, host_action}
use Rattle.core_actors.specs.HostHears.{stays, moved, told, moves_on, host_after}
use Rattle.core_actors.specs.HostSeat.{HostSeat}
use Rattle.core_actors.specs.HostSpace.{StaysAt, HostSpace, tale_told, tale_moved, tale_heard}
use Rattle.core_actors.proofs.HostTales.{standing, out_returning}
use Rattle.core_actors.proofs.HostGoesOn.{host_at, in_command, told_space}
use Rattle.core_actors.proofs.HostEvacuates.{told_behind}
use Rattle.core_actors.proofs.HostPlaces.{IsRoundPlace}

-- ---- the steps of a move

-- the host behind a step, and its tale
abbrev IsMovedBy : Setting → HostState → Tale → MoveLease → MovePlace → Made → Type 0
IsMovedBy c h t lease at x = HostSpace c x.world (moved (device_now c x.world).plugged h lease at x.heard).state (tale_moved h t at x.heard)

module _ (c : Setting) (w : World) (h : HostState) (e : Evacuating) (t : Tale) (lease : MoveLease) (at : MovePlace) (set : IsSetting c) (kept : IsConsistent c w) (space : HostSpace c w (host_at h e (places.Moving lease at) (stages.Moving lease)) t) (snapshot : Snapshot) where
  abbrev host : HostState
  host = host_at h e (places.Moving lease at) (stages.Moving lease)

  abbrev later : World
  later = record w { snapshot = snapshot }

  -- the next step of the move
  steps_on : (next : MovePlace) → StaysAt lease next → HostSpace c later (moves_on host lease next).state t
  steps_on next may = record {
    sizes = space.sizes;
    commands = space.commands;
    waiting = space.waiting;
    managed = space.managed;
    distinct = space.distinct;
    held = space.held;
    isolated = space.isolated;
    place = (
      record { blocks = space.place.0.blocks; some_wait = space.place.0.some_wait; block = space.place.0.block; sizes = space.place.0.sizes; goes_by = space.place.0.goes_by; space = space.place.0.space },
      refl,
      may,
    );
  }

  -- the end of the move is told
  move_told : (found : Option ℕ) → is_answer (standing e (stages.Moving lease)) (told_of found) ≡ true → HostSpace c later (told (device_now c w).plugged host (told_of found)).state (tale_told host t (told_of found))
  move_told None fits =
      told_space c w host (standing e (stages.Moving lease)) t set (in_command c w host t space space.place.0) space.place.0.sizes space.place.0.goes_by
      snapshot w.space seen.Moved true (space_now c w) refl fits tt
      (record { round = record { sizes = refl; block = refl; isolated = refl; space = out_returning (space_now c w) e t lease None space.place.0.space }; offline = refl; isolated = λ b. space.isolated b })
      (λ off. absurd (true≢false off))
  move_told (Some word) fits =
      told_space c w host (standing e (stages.Moving lease)) t set (in_command c w host t space space.place.0) space.place.0.sizes space.place.0.goes_by
      snapshot w.space (seen.Found word) true (space_now c w) refl fits tt
      (record { round = record { sizes = refl; block = refl; isolated = refl; space = out_returning (space_now c w) e t lease (Some word) space.place.0.space }; offline = refl; isolated = λ b. space.isolated b })
      (λ off. absurd (true≢false off))

  -- the page was taken
  page_found : (word : ℕ) (taken : Bool) → (taken_bit word == 1) ≡ taken
      → HostSpace c later
      (if taken then told (device_now c w).plugged host (seen.Found word) else moves_on host lease (if stays word lease.from.0 then Releasing (Some word) else Beginning)).state
      (if taken then tale_told host t (seen.Found word) else t)
  page_found word true is = move_told (Some word) (or_left (is_busy word lease.from.0) (is_pinned word lease.from.0) (or_left (taken_bit word == 1) (not (maps word lease.from.0)) is))
  page_found word false is = page_stays (stays word lease.from.0) refl
    where
      page_stays : (stay : Bool) → stays word lease.from.0 ≡ stay → HostSpace c later (moves_on host lease (if stay then Releasing (Some word) else Beginning)).state t
      page_stays true is = steps_on (Releasing (Some word)) is
      page_stays false is = steps_on Beginning tt

  cell_stored : (more : Bool) (cell : ℕ) → HostSpace c later (moves_on host lease (if more then Loading (cell + 1) else Marking)).state t
  cell_stored true cell = steps_on (Loading (cell + 1)) tt
  cell_stored false cell = steps_on Marking tt

module _ (c : Setting) (w : World) (h : HostState) (e : Evacuating) (t : Tale) (lease : MoveLease) (set : IsSetting c) (kept : IsConsistent c w) where
  abbrev IsBefore : MovePlace → Stage → Type 0
  IsBefore at stage = HostSpace c w (host_at h e (places.Moving lease at) stage) t

  abbrev behind : MovePlace → Made
  behind at = made c 0 w (move_action lease at)

  abbrev IsBehind : MovePlace → Stage → Type 0
  IsBehind at stage = IsMovedBy c (host_at h e (places.Moving lease at) stage) t lease at (behind at)

  move_at : (at : MovePlace) → IsBefore at (stages.Moving lease) → IsBehind at (stages.Moving lease)
  move_at Taking space =
      let word : ℕ = word_found c.opening w.snapshot.words (view_of w.snapshot.views 0) (steps.Take lease.page) in
      page_found c w h e t lease Taking set kept space (behind Taking).world.snapshot word (taken_bit word == 1) refl
  move_at Beginning space = steps_on c w h e t lease Beginning set kept space (behind Beginning).world.snapshot (Loading 0) tt
  move_at (Loading cell) space =
      let word : ℕ = word_found c.opening w.snapshot.words (view_of w.snapshot.views 0) (steps.Load cell) in
      steps_on c w h e t lease (Loading cell) set kept space (behind (Loading cell)).world.snapshot (Storing cell word) tt
  move_at (Storing cell value) space = cell_stored c w h e t lease (Storing cell value) set kept space (behind (Storing cell value)).world.snapshot (nat_lt (cell + 1) h.sizes.cells) cell
  move_at Marking space = steps_on c w h e t lease Marking set kept space (behind Marking).world.snapshot Remapping tt
  move_at Remapping space = steps_on c w h e t lease Remapping set kept space (behind Remapping).world.snapshot (Releasing None) tt
  move_at (Releasing None) space = move_told c w h e t lease (Releasing None) set kept space (behind (Releasing None)).world.snapshot None refl
  move_at (Releasing (Some word)) space = move_told c w h e t lease (Releasing (Some word)) set kept space (behind (Releasing (Some word))).world.snapshot (Some word) space.place.2

  move_behind : (at : MovePlace) (stage : Stage) → stage ≡ stages.Moving lease → IsBefore at stage → IsBehind at stage
  move_behind at stage is = subst (λ (s : Stage). IsBefore at s → IsBehind at s) (sym is) (move_at at)

-- ---- any of these

module _ (c : Setting) (w : World) (h : HostState) (t : Tale) (set : IsSetting c) (kept : IsConsistent c w) where
  -- the host at that place, with these commands left
  abbrev placed : List HostCommand → HostPlace → HostState
  placed left place = record h { left = left; place = place }

  abbrev made_at : List HostCommand → HostPlace → Made
  made_at left place = made c 0 w (host_action (placed left place))

  abbrev IsKeptAt : List HostCommand → HostPlace → Type 0
  IsKeptAt left place =
      HostSpace c (made_at left place).world (host_after (device_now c (made_at left place).world).plugged (placed left place) (made_at left place).heard)
      (tale_heard (placed left place) t (made_at left place).heard)

  kept_at : (left : List HostCommand) (place : HostPlace) → HostSpace c w (placed left place) t → host_ended (placed left place) ≡ false → IsRoundPlace place → MayMake c 0 w (host_action (placed left place)) → IsKeptAt left place
  kept_at [] place space going is may = absurd (true≢false going)
  kept_at (command ∷ more) places.Asking space going is may = absurd is
  kept_at (command ∷ more) places.Evacuating space going is may = told_behind c w (placed (command ∷ more) places.Evacuating) h.evacuation t set kept h.evacuation.stage space may
  kept_at (command ∷ more) (places.Moving lease at) space going is may =
      move_behind c w (placed (command ∷ more) (places.Moving lease at)) h.evacuation t lease set kept at h.evacuation.stage space.place.1 space
  kept_at (command ∷ more) places.TakingAway space going is may = absurd is
  kept_at (command ∷ more) (places.Zeroing frame cell) space going is may = absurd is
  kept_at (command ∷ more) (places.MarkingZeros frame) space going is may = absurd is
  kept_at (command ∷ more) (places.PuttingOnline result) space going is may = absurd is

-- Behind an action by which a block is emptied, the frame space is as the next place has it.
pub space_after_round : (c : Setting) (w : World) (h : HostState) (t : Tale) → IsSetting c → IsConsistent c w → HostSeat c w h → HostSpace c w h t → host_ended h ≡ false → IsRoundPlace h.place → MayMake c 0 w (host_action h)
    → HostSpace c (made c 0 w (host_action h)).world (host_after (device_now c (made c 0 w (host_action h)).world).plugged h (made c 0 w (host_action h)).heard) (tale_heard h t (made c 0 w (host_action h)).heard)
space_after_round c w h t set kept seat space going is may = kept_at c w h t set kept h.left h.place space going is may
