-- Where a host goes once its evacuation was told something: to the next action for the block, to the block's taking away, or
-- to the end of the command.
use Rattle.std.proofs.Common.{◌≡◌, ℕ, ◌-◌, ◌<◌, ◌≤◌, ◌==◌, ◌&&◌, ◌||◌, Bool, true, false, if◌then◌else◌, List, [], ◌∷◌, ◌++◌, length, refl, sym, ap, ◌∙◌, subst, slice_get, Some}
use Rattle.std.specs.List.{AllByRecursion}
use Rattle.std.proofs.Math.Bool.{or-false}
use Rattle.evac_model.specs.declared.evacuation.EvacCause.{EvacCause}
use Rattle.evac_model.specs.declared.host.HostResult.TheVariants as results
use Rattle.evac_model.specs.declared.names.BlockNo.{BlockNo}
use Rattle.evac_model.specs.declared.space.SpaceAction.{SpaceAction}
use Rattle.evac_model.specs.Numbers.{is_in, AreDistinct}
use Rattle.evac_model.specs.SpaceJournal.{SpaceState}
use Rattle.core_state.specs.declared.snapshot.Snapshot.{Snapshot}
use Rattle.evacuate.specs.declared.seen.EvacSeen.{EvacSeen}
use Rattle.evacuate.specs.declared.stage.Stage.{Stage}
use Rattle.evacuate.specs.declared.stage.Stage.TheVariants.{Isolating, Leasing, Moving, Returning, Undoing, Emptied, Failed}
use Rattle.evacuate.specs.Evacuating.{Evacuating, is_answer, after_answer, evacuation_after}
use Rattle.evacuate.specs.Tale.{Tale, nothing_tried}
use Rattle.evacuate.specs.UnderWay.{GoesBy, LeasedWasBusy, tale_after}
use Rattle.evacuate.proofs.Steps.{goes_on}
use Rattle.host_work.specs.Requests.{failed_line}
use Rattle.machine.specs.Consistent.{IsSetting, IsConsistent}
use Rattle.machine.specs.World.{Setting, World, space_at, space_now, device_now, is_held}
use Rattle.core_actors.specs.declared.host_place.HostPlace.{HostPlace}
use Rattle.core_actors.specs.declared.host_place.HostPlace.TheVariants as places
use Rattle.core_actors.specs.declared.host_place.MovePlace.TheVariants.{Taking}
use Rattle.core_actors.specs.Hosts.{HostState, away}
use Rattle.core_actors.specs.HostHears.{goes_on_at, with_evacuation, told}
use Rattle.core_actors.specs.HostSpace.{has_isolated, is_emptying, IsSpaceAt, AreCommandBlocks, IsEmptying, IsPlacedAt, IsShort, HostSpace, tale_by, tale_told}
use Rattle.core_actors.proofs.HostBegins.{has_result}
use Rattle.core_actors.proofs.HostTales.{IsRoundAt, standing}

-- ---- a host whose block is being emptied

-- what holds of it wherever its evacuation stands
pub record IsInCommand (c : Setting) (w : World) (h : HostState) (block : BlockNo) : Type 0 where
  pub sizes : h.sizes ≡ c.sizes
  pub commands : AllByRecursion IsShort h.left
  pub waiting : h.waiting ≤ length h.blocks
  pub managed : (b : ℕ) → is_in b h.blocks ≡ true → b < c.sizes.managed
  pub distinct : AreDistinct h.blocks
  pub held : (b : ℕ) → is_held c w b ≡ is_in b (away h)
  pub blocks : AreCommandBlocks c w h
  pub some_wait : 1 ≤ h.waiting
  pub emptied : slice_get h.blocks (h.waiting - 1) ≡ Some block.0

-- and what does of the evacuation
pub record IsEmptyingBy (c : Setting) (w : World) (e : Evacuating) (t : Tale) : Type 0 where
  pub sizes : e.sizes ≡ c.sizes
  pub isolated : (b : ℕ) → is_in b (space_now c w).isolated ≡ (is_in b (space_now c w).offline || (has_isolated e.stage && b == e.block.0))
  pub goes_by : GoesBy e t
  pub space : IsSpaceAt (space_now c w) e t e.stage

-- a host at this place, whose evacuation stands there
abbrev pub host_at : HostState → Evacuating → HostPlace → Stage → HostState
host_at h e place stage = record h { place = place; evacuation = standing e stage }

pub in_command : (c : Setting) (w : World) (h : HostState) (t : Tale) → HostSpace c w h t → IsEmptying c w h t → IsInCommand c w h h.evacuation.block
in_command c w h t space emptying = record {
  sizes = space.sizes;
  commands = space.commands;
  waiting = space.waiting;
  managed = space.managed;
  distinct = space.distinct;
  held = space.held;
  blocks = emptying.blocks;
  some_wait = emptying.some_wait;
  emptied = emptying.block;
}

module _ (c : Setting) (w : World) (h : HostState) (e : Evacuating) (t : Tale) (set : IsSetting c) (is : IsInCommand c w h e.block) where
  emptying_at : (place : HostPlace) (stage : Stage) → IsEmptyingBy c w (standing e stage) t → IsEmptying c w (host_at h e place stage) t
  emptying_at place stage by = record { blocks = is.blocks; some_wait = is.some_wait; block = is.emptied; sizes = by.sizes; goes_by = by.goes_by; space = by.space }

  -- it goes on with its block
  space_at_place : (place : HostPlace) (stage : Stage) → is_emptying place ≡ true → IsEmptyingBy c w (standing e stage) t → IsPlacedAt c w (host_at h e place stage) t place → HostSpace c w (host_at h e place stage) t
  space_at_place place stage empties by placed = record {
    sizes = is.sizes;
    commands = is.commands;
    waiting = is.waiting;
    managed = is.managed;
    distinct = is.distinct;
    held = is.held;
    isolated = λ b. by.isolated b ∙ ap (λ (x : Bool). is_in b (space_now c w).offline || (x && (has_isolated stage && b == e.block.0))) (sym empties);
    place = placed;
  }

  -- the command has failed
  has_failed : (why : EvacCause) → IsConsistent c w → IsEmptyingBy c w (standing e (Failed why)) t
      → HostSpace c w (goes_on_at (Failed why) (device_now c w).plugged (record h { evacuation = standing e (Failed why) })).state nothing_tried
  has_failed why kept by =
      has_result c w (record h { evacuation = standing e (Failed why); tried = h.tried ++ failed_line e.block.0 why ∷ [] }) results.Unsent set kept (record {
        sizes = is.sizes;
        commands = is.commands;
        waiting = is.waiting;
        managed = is.managed;
        distinct = is.distinct;
        held = is.held;
        isolated = λ b. by.isolated b ∙ or-false (is_in b (space_now c w).offline);
      })

  -- ---- wherever the evacuation stands

  by_stage : (stage : Stage) → (has_isolated stage ≡ false → IsConsistent c w) → IsEmptyingBy c w (standing e stage) t
      → HostSpace c w (goes_on_at stage (device_now c w).plugged (record h { evacuation = standing e stage })).state (tale_by stage t)
  by_stage Isolating kept by = space_at_place places.Evacuating Isolating refl by (emptying_at places.Evacuating Isolating by, tt)
  by_stage (Leasing after) kept by = space_at_place places.Evacuating (Leasing after) refl by (emptying_at places.Evacuating (Leasing after) by, tt)
  by_stage (Moving lease) kept by = space_at_place (places.Moving lease Taking) (Moving lease) refl by (emptying_at (places.Moving lease Taking) (Moving lease) by, refl, tt)
  by_stage (Returning attempt) kept by = space_at_place places.Evacuating (Returning attempt) refl by (emptying_at places.Evacuating (Returning attempt) by, tt)
  by_stage (Undoing why) kept by = space_at_place places.Evacuating (Undoing why) refl by (emptying_at places.Evacuating (Undoing why) by, tt)
  by_stage Emptied kept by = space_at_place places.TakingAway Emptied refl by (emptying_at places.TakingAway Emptied by, refl)
  by_stage (Failed why) kept by = has_failed why (kept refl) by

-- ---- it was told something

-- what an answer leaves: the evacuation behind it stands by the frame space, in which the same blocks are offline, and beside
-- them at most the one that is being emptied is isolated
pub record IsLeft (st space_later : SpaceState) (e after : Evacuating) (t : Tale) (on : Bool) : Type 0 where
  pub round : IsRoundAt space_later e after t on
  pub offline : space_later.offline ≡ st.offline
  pub isolated : (b : ℕ) → is_in b space_later.isolated ≡ (is_in b space_later.offline || (on && b == e.block.0))

module _ (c : Setting) (w : World) (h : HostState) (e : Evacuating) (t : Tale) (set : IsSetting c) (is : IsInCommand c w h e.block) (sizes : e.sizes ≡ c.sizes) (goes : GoesBy e t) (snapshot : Snapshot) (journal : List SpaceAction) where
  abbrev later : World
  later = record w { snapshot = snapshot; space = journal }

  module _ (after : Evacuating) (next : Tale) (on : Bool) (left : IsLeft (space_now c w) (space_at c journal) e after next on) (goes_by : GoesBy after next) where
    in_command_later : IsInCommand c later h after.block
    in_command_later = record {
      sizes = is.sizes;
      commands = is.commands;
      waiting = is.waiting;
      managed = is.managed;
      distinct = is.distinct;
      held = λ b. ap (λ (l : List ℕ). is_in b l && is_in b (device_now c w).plugged) left.offline ∙ is.held b;
      blocks = is.blocks;
      some_wait = is.some_wait;
      emptied = is.emptied ∙ ap (λ (b : BlockNo). Some b.0) (sym left.round.block);
    }

    emptying_later : IsEmptyingBy c later after next
    emptying_later = record {
      sizes = left.round.sizes ∙ sizes;
      isolated = λ b. left.isolated b
          ∙ (ap (λ (x : Bool). is_in b (space_at c journal).offline || (x && b == e.block.0)) (sym left.round.isolated)
          ∙ ap (λ (x : BlockNo). is_in b (space_at c journal).offline || (has_isolated after.stage && b == x.0)) (sym left.round.block));
      goes_by = goes_by;
      space = left.round.space;
    }

    evacuation_left : (on ≡ false → IsConsistent c later) → HostSpace c later (with_evacuation (device_now c w).plugged h after).state (tale_by after.stage next)
    evacuation_left kept = by_stage c later h after next set in_command_later after.stage (λ off. kept (sym left.round.isolated ∙ off)) emptying_later

  pub told_space : (what : EvacSeen) (on : Bool) (space_later : SpaceState) → space_at c journal ≡ space_later → is_answer e what ≡ true → LeasedWasBusy t what
      → IsLeft (space_now c w) space_later e (after_answer e e.stage what) (tale_after e t what) on → (on ≡ false → IsConsistent c later)
      → HostSpace c later (told (device_now c w).plugged (record h { evacuation = e }) what).state (tale_told (record h { evacuation = e }) t what)
  told_space what on space_later behind fits busy left kept =
      let here : IsLeft (space_now c w) (space_at c journal) e (after_answer e e.stage what) (tale_after e t what) on =
      subst (λ (st : SpaceState). IsLeft (space_now c w) st e (after_answer e e.stage what) (tale_after e t what) on) (sym behind) left in
      evacuation_left (evacuation_after e what) (tale_after e t what) on
      (subst (λ (x : Bool). IsLeft (space_now c w) (space_at c journal) e (if x then after_answer e e.stage what else e) (tale_after e t what) on) (sym fits) here)
      (goes_on e t what goes fits busy).goes_by kept
