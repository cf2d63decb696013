-- An evacuation that fails undoes its isolation last.
use Rattle.std.proofs.Common.{◌≡◌, ◌≢◌, List, [], ◌∷◌, ◌++◌, refl, sym, ap, ◌∙◌, subst, Some}
use Rattle.std.proofs.lemmas.Grind.{flat_map-append}
use Rattle.evac_model.specs.declared.evacuation.EvacCause.{EvacCause}
use Rattle.evac_model.specs.declared.evacuation.EvacCause.TheVariants.{Unmovable, Pinned, NoTarget, Busy}
use Rattle.evac_model.specs.declared.names.BlockNo.{BlockNo}
use Rattle.evac_model.specs.declared.names.FrameNo.{FrameNo}
use Rattle.evac_model.specs.declared.names.PageNo.{PageNo}
use Rattle.evac_model.specs.declared.space.SpaceAction.{SpaceAction}
use Rattle.evac_model.specs.declared.space.SpaceAction.TheVariants as space
use Rattle.evac_model.specs.Geometry.{Sizes}
use Rattle.evacuate.specs.declared.action.EvacAction.TheVariants.{Undo}
use Rattle.evacuate.specs.declared.seen.EvacSeen.TheVariants.{Done}
use Rattle.evacuate.specs.declared.stage.Stage.{Stage}
use Rattle.evacuate.specs.Tale.{Exchange, Tale, tale_log}
use Rattle.evacuate.specs.UnderWay.{led_to, failed_log, log_at}
use Rattle.host_work.specs.Evacuated.{space_action, space_actions, WasEvacuated}

-- the actions end with an undo of the block
abbrev pub EndUndone : BlockNo → List SpaceAction → Type 0
EndUndone b actions = (before : List SpaceAction) × (actions ≡ before ++ space.Undo b ∷ [])

undo_behind : (b : BlockNo) (log : List Exchange) → EndUndone b (space_actions (log ++ record { asked = Undo b; told = Done } ∷ []))
undo_behind b log = (space_actions log, flat_map-append (λ (x : Exchange). space_action x.asked x.told) log (record { asked = Undo b; told = Done } ∷ []))

log_undone : (b : BlockNo) (tale : Tale) (cause : EvacCause) → ((frame : FrameNo) (page : PageNo) → cause ≢ Unmovable frame page) → EndUndone b (space_actions (failed_log b tale cause))
log_undone b tale (Unmovable frame page) other = absurd (other frame page refl)
log_undone b tale (Pinned frame page word) other = undo_behind b (tale_log b tale ++ led_to b tale (Pinned frame page word))
log_undone b tale (NoTarget frame page at) other = undo_behind b (tale_log b tale ++ led_to b tale (NoTarget frame page at))
log_undone b tale (Busy frame page words) other = undo_behind b (tale_log b tale ++ led_to b tale (Busy frame page words))

module _ (s : Sizes) (b : BlockNo) (cause : EvacCause) (actions : List SpaceAction) (h : WasEvacuated s b (Some cause) actions) where
  by_log : actions ≡ space_actions (failed_log b h.tale cause)
  by_log =
      h.made
      ∙ (ap (λ (st : Stage). space_actions (log_at h.evacuation.block h.tale st)) h.ended
      ∙ ap (λ (x : BlockNo). space_actions (failed_log x h.tale cause)) h.block)

  pub end_undone : ((frame : FrameNo) (page : PageNo) → cause ≢ Unmovable frame page) → EndUndone b actions
  end_undone other = subst (EndUndone b) (sym by_log) (log_undone b h.tale cause other)

pub refused_alone : (s : Sizes) (b : BlockNo) (frame : FrameNo) (page : PageNo) (actions : List SpaceAction) → WasEvacuated s b (Some (Unmovable frame page)) actions → actions ≡ []
refused_alone s b frame page actions h = by_log s b (Unmovable frame page) actions h
