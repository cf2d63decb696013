-- A driver at rest makes an action that is no step on words or mappings: all but its hand is as it was, and the host's place
-- behind the action is one at which it rests again.
use Rattle.std.proofs.Common.{◌≡◌, ◌⊎◌, ℕ, zero, suc, ◌≤◌, List, [], ◌∷◌, ◌++◌, length, drop, refl, sym, ap, ◌∙◌, subst, arith, inl, inr, Option, None, Some}
use Rattle.evac_model.specs.declared.host.HostResult.{HostResult}
use Rattle.evac_model.specs.declared.host.HostResult.TheVariants as results
use Rattle.evac_model.proofs.Bounds.{power_to_512_least}
use Rattle.evacuate.specs.declared.stage.Stage.{Stage}
use Rattle.evacuate.specs.declared.stage.Stage.TheVariants as stages
use Rattle.evacuate.specs.Evacuating.{Evacuating}
use Rattle.host_work.specs.Requests.{failed_line}
use Rattle.core_state.specs.declared.opening.Opening.{Opening}
use Rattle.core_state.specs.declared.view.View.{View}
use Rattle.machine.specs.declared.action.Action.{Action}
use Rattle.machine.specs.Consistent.{IsSetting, IsConsistent}
use Rattle.machine.specs.Made.{made}
use Rattle.machine.specs.MayMake.{MayMake}
use Rattle.machine.specs.World.{Setting, World, HasFrame}
use Rattle.machine.proofs.ActionsKept.{action_kept}
use Rattle.machine.proofs.Elsewhere.{IsNoStep, driver_changes_hand}
use Rattle.core_actors.specs.Hosts.{HostState, away, command_blocks, with_next_block}
use Rattle.core_actors.specs.HostHears.{with_result, ends_without, goes_on_at, with_evacuation}
use Rattle.core_actors.specs.HostSeat.{ForPage, for_page_at, for_page, HasForPage, IsThatFrame, IsOfHeldBlock, Rests, IsViewAt, IsDriver, HostSeat}
use Rattle.core_actors.proofs.HostViews.{driver_of, driver_there, driver_as}

-- ---- the host's place

-- the driver rests there, with that frame in hand for a page
pub record RestsWith (h : HostState) (x : Option ForPage) : Type 0 where
  pub view : (o : Opening) (v : View) → Rests v → IsViewAt o v h.place
  pub page : for_page h ≡ x

-- another block is emptied, or the device asked
next_rests : (waiting : ℕ) (h : HostState) → RestsWith (with_next_block waiting h) None
next_rests zero h = record { view = λ o v rests. rests; page = refl }
next_rests (suc n) h = record { view = λ o v rests. rests; page = refl }

ended_rests : (blocks plugged : List ℕ) (h : HostState) (result : HostResult) → RestsWith (ends_without blocks plugged h result).state None
ended_rests [] plugged h result =
    let next : HostState = record h { left = drop 1 h.left; number = suc h.number } in
    let named : List ℕ = command_blocks next.sizes plugged next.left in
    next_rests (length named) (record next { blocks = named; waiting = length named; tried = [] })
ended_rests (b ∷ blocks) plugged h result = record { view = λ o v rests. rests; page = refl }

-- the command has its result
pub result_rests : (plugged : List ℕ) (h : HostState) (result : HostResult) → RestsWith (with_result plugged h result).state None
result_rests plugged h result = ended_rests (away h) plugged h result

-- the frame in hand for a page, where a move of that stage is to begin
abbrev pub page_at : Stage → Option ForPage
page_at stages.Isolating = None
page_at (stages.Leasing after) = None
page_at (stages.Moving lease) = Some (record { frame = lease.target.0; page = lease.page.0 })
page_at (stages.Returning attempt) = for_page_at (stages.Returning attempt)
page_at (stages.Undoing cause) = None
page_at stages.Emptied = None
page_at (stages.Failed cause) = None

stage_rests : (stage : Stage) (plugged : List ℕ) (h : HostState) → h.evacuation.stage ≡ stage → RestsWith (goes_on_at stage plugged h).state (page_at stage)
stage_rests stages.Isolating plugged h is = record { view = λ o v rests. rests; page = ap for_page_at is }
stage_rests (stages.Leasing after) plugged h is = record { view = λ o v rests. rests; page = ap for_page_at is }
stage_rests (stages.Moving lease) plugged h is = record { view = λ o v rests. rests; page = refl }
stage_rests (stages.Returning attempt) plugged h is = record { view = λ o v rests. rests; page = ap for_page_at is }
stage_rests (stages.Undoing cause) plugged h is = record { view = λ o v rests. rests; page = ap for_page_at is }
stage_rests stages.Emptied plugged h is = record { view = λ o v rests. rests; page = refl }
stage_rests (stages.Failed cause) plugged h is = result_rests plugged (record h { tried = h.tried ++ failed_line h.evacuation.block.0 cause ∷ [] }) results.Unsent

-- the evacuation stands so now
pub evacuation_rests : (plugged : List ℕ) (h : HostState) (after : Evacuating) → RestsWith (with_evacuation plugged h after).state (page_at after.stage)
evacuation_rests plugged h after = stage_rests after.stage plugged (record h { evacuation = after }) refl

-- ---- the seat behind an action

-- in the driver's hand are the frames of the blocks that it holds, and that one
abbrev pub AreInHand : Setting → World → Option ForPage → Type 0
AreInHand c w x = (frame : ℕ) → HasFrame w 0 frame → IsOfHeldBlock c w frame ⊎ IsThatFrame x frame

-- the driver's seat is one of the machine
has_places : (c : Setting) (w : World) → IsSetting c → IsConsistent c w → (driver_of w).cells ≡ c.opening.cells → length (driver_of w).hand ≡ c.opening.frames
has_places c w set k cells = elim (k.sound.seats.each 0 (driver_of w) (driver_there c w k)) [
  | inl gone ↦
      let none : (driver_of w).cells ≡ 0 = ap (λ (v : View). v.cells) gone in
      let same = set.cells in
      let least : 1 ≤ c.sizes.cells = power_to_512_least c.sizes.cells set.limits.cells in
      absurd (omega arith)
  | inr seat ↦ seat.seated.hand
]

module _ (c : Setting) (w : World) (action : Action) (set : IsSetting c) (k : IsConsistent c w) (may : MayMake c 0 w action) (no_step : IsNoStep action) where
  abbrev later : World
  later = (made c 0 w action).world

  abbrev v : View
  v = driver_of w

  abbrev u : View
  u = driver_of later

  but_hand : u ≡ record v { hand = u.hand }
  but_hand = driver_changes_hand c 0 w action set k may no_step refl

  rests_again : Rests v → Rests u
  rests_again rests = (ap (λ (x : View). x.held) but_hand ∙ rests.0, ap (λ (x : View). x.unmarked) but_hand ∙ rests.1)

  drives_again : IsDriver c.opening v → IsDriver c.opening u
  drives_again d =
      let cells : u.cells ≡ v.cells = ap (λ (x : View). x.cells) but_hand in
      let long = has_places c later set (action_kept c 0 w action set k may) (cells ∙ d.seated.cells) in
      driver_as c.opening v u cells (long ∙ sym d.seated.hand) (ap (λ (x : View). x.scan) but_hand) (ap (λ (x : View). x.entries) but_hand) (ap (λ (x : View). x.left) but_hand) (ap (λ (x : View). x.mover) but_hand) d

  pub seat_at_rest : (after : HostState) (x : Option ForPage) → IsDriver c.opening v → Rests v → RestsWith after x → HasForPage c later x → AreInHand c later x → HostSeat c later after
  seat_at_rest after x d rests at has hand = record {
    driver = drives_again d;
    view = at.view c.opening u (rests_again rests);
    has = subst (λ (y : Option ForPage). HasForPage c later y) (sym at.page) has;
    hand = subst (λ (y : Option ForPage). AreInHand c later y) (sym at.page) hand;
  }
