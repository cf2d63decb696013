-- What an action of one seat leaves of the calls of other owners.
use Rattle.std.proofs.Common.{◌≡◌, ◌≢◌, ℕ, List, [], ◌∷◌, ◌++◌, refl, sym, ◌∙◌, Option, Some, None}
use Rattle.evac_model.specs.declared.entry.Entry.{Entry}
use Rattle.evac_model.specs.declared.names.BlockNo.{BlockNo}
use Rattle.evac_model.specs.declared.names.FrameNo.{FrameNo}
use Rattle.evac_model.specs.declared.names.Kind.{Kind}
use Rattle.evac_model.specs.declared.names.Kind.TheVariants.{Movable}
use Rattle.evac_model.specs.declared.names.PageNo.{PageNo}
use Rattle.evac_model.specs.declared.scenario.Scenario.{Scenario}
use Rattle.evac_model.specs.declared.space.SpaceAction.{SpaceAction}
use Rattle.evac_model.specs.declared.space.SpaceAction.TheVariants as space
use Rattle.evac_model.specs.Pairing.{caller_of, actions_of}
use Rattle.evac_model.specs.ScenarioGrammar.{online_of}
use Rattle.evac_model.specs.SpaceJournal.{SpaceState, Leased, lease_of}
use Rattle.space.specs.Refusals.{first_unmovable, next_out}
use Rattle.machine.specs.declared.action.Action.{Action}
use Rattle.machine.specs.declared.action.Action.TheVariants as actions
use Rattle.machine.specs.declared.action.BlockCall.TheVariants.{Isolate, Target, Undo, Offline, Online}
use Rattle.machine.specs.declared.action.DeviceCall.TheVariants.{Request, Config}
use Rattle.machine.specs.declared.action.SpaceCall.TheVariants.{Lease, Return}
use Rattle.machine.specs.Made.{Made, lease_made, isolate_made, target_made, made}
use Rattle.machine.specs.MayMake.{MayMake}
use Rattle.machine.specs.World.{World, space_now}
use Rattle.core_actors.specs.Owners.{OwnerState}
use Rattle.replay.specs.CallsMade.{AreOwnersCallsMade}
use Rattle.replay.specs.Runs.{setting}
use Rattle.replay.proofs.CallsKept.{calls_other}
use Rattle.evac_model.proofs.Pushes.{other_push}

-- what others made is as it was
pub record LeavesOthers (s : Scenario) (before after : List SpaceAction) (who : ℕ) : Type 0 where
  pub calls : (other : ℕ) → other ≢ who → (c : OwnerState) (es : List Entry) → AreOwnersCallsMade s before other c es → AreOwnersCallsMade s after other c es
  pub none : (other : ℕ) → other ≢ who → actions_of other before ≡ [] → actions_of other after ≡ []

module _ (s : Scenario) (w : World) (seat : ℕ) where
  abbrev st : SpaceState
  st = space_now (setting s) w

  abbrev Leaves : Made → Type 0
  Leaves x = LeavesOthers s w.space x.world.space seat

  -- the journal is the same, or has one more action of the seat
  the_same : LeavesOthers s w.space w.space seat
  the_same = record { calls = λ other ne c es h. h; none = λ other ne h. h }

  one_more : (x : SpaceAction) → caller_of x ≡ seat → LeavesOthers s w.space (w.space ++ x ∷ []) seat
  one_more x own = record {
    calls = λ other ne c es h. calls_other s w.space x other (λ is. ne (sym is ∙ own)) c es h;
    none = λ other ne h. other_push other w.space x (λ is. ne (sym is ∙ own)) ∙ h;
  }

  leaves_lease : (page : PageNo) (kind : Kind) (l : Option Leased) → Leaves (lease_made (setting s) seat w page kind l)
  leaves_lease page kind None = the_same
  leaves_lease page kind (Some l) = one_more (space.Lease seat (record { 0 = l.frame }) page kind) refl

  leaves_isolate : (block : BlockNo) (unmovable : Option (FrameNo × PageNo)) → 0 ≡ seat → Leaves (isolate_made w block unmovable)
  leaves_isolate block None own = one_more (space.Isolate block) own
  leaves_isolate block (Some at) own = the_same

  leaves_target : (next : Option (FrameNo × PageNo)) (l : Option Leased) → 0 ≡ seat → Leaves (target_made (setting s) w next l)
  leaves_target None l own = the_same
  leaves_target (Some at) None own = the_same
  leaves_target (Some at) (Some l) own = one_more (space.MoveLease (record { 0 = l.frame }) at.1) own

  pub leaves : (x : Action) → MayMake (setting s) seat w x → Leaves (made (setting s) seat w x)
  leaves (actions.Step step) may = the_same
  leaves (actions.Move step) may = the_same
  leaves (actions.Space (Lease page kind)) may = leaves_lease page kind (lease_of s.geometry (online_of s) st seat kind)
  leaves (actions.Space (Return frame)) may = one_more (space.Return seat frame) refl
  leaves (actions.Block (Isolate block)) may = leaves_isolate block (first_unmovable s.geometry st block.0) (sym may.driver)
  leaves (actions.Block (Target block after)) may = leaves_target (next_out s.geometry st block.0 after) (lease_of s.geometry (online_of s) st 0 Movable) (sym may.driver)
  leaves (actions.Block (Undo block)) may = one_more (space.Undo block) (sym may.driver)
  leaves (actions.Block (Offline block)) may = one_more (space.Offline block) (sym may.driver)
  leaves (actions.Block (Online block)) may = one_more (space.Online block) (sym may.driver)
  leaves (actions.Device (Request bytes)) may = the_same
  leaves (actions.Device Config) may = the_same
  leaves actions.Ended may = the_same
