-- At the end of an evacuation, all that it was told is true of what it did.
use Rattle.std.proofs.Common.{◌≡◌, List, ◌∷◌, ◌++◌, length, append_assoc, refl, sym, ◌∙◌, subst, Option, Some, None}
use Rattle.std.proofs.lemmas.List.{append_cancel_right}
use Rattle.evac_model.specs.declared.evacuation.EvacCause.{EvacCause}
use Rattle.evac_model.specs.declared.space.SpaceAction.{SpaceAction}
use Rattle.evac_model.specs.Pairing.{actions_of}
use Rattle.evacuate.specs.declared.stage.Stage.{Stage}
use Rattle.evacuate.specs.Evacuating.{Evacuating}
use Rattle.evacuate.specs.Tale.{Tale}
use Rattle.evacuate.specs.UnderWay.{GoesBy}
use Rattle.host_work.specs.Evacuated.{end_by}
use Rattle.host_work.specs.Truth.{HasTrueCause, EndedThere, AreTrueRounds}
use Rattle.host_work.proofs.TruthGrows.{rounds_later}
use Rattle.machine.specs.World.{Setting, World}
use Rattle.core_actors.specs.HostFound.{space_run, DriverFound, truth, evacuation_did, IsTrueAt, HasToldTrue}

module _ (c : Setting) (x : World) (e : Evacuating) (t : Tale) (done emptying : List SpaceAction) (did_all : actions_of 0 x.space ≡ done ++ (emptying ++ evacuation_did e t)) (told_true : HasToldTrue c x e t) where
  abbrev own : List SpaceAction
  own = evacuation_did e t

  -- what the driver had done before
  same_before : told_true.before ≡ done ++ emptying
  same_before = append_cancel_right told_true.before (done ++ emptying) own (sym told_true.did ∙ (did_all ∙ sym (append_assoc done emptying own)))

  met_by : (cause : Option EvacCause) → IsTrueAt (space_run c x) (DriverFound x) told_true.before e.block own t.rounds told_true.end (end_by cause) → HasTrueCause (space_run c x) (DriverFound x) told_true.before e.block own cause
  met_by None is = tt
  met_by (Some why) is = is.holds

  ended_by : (cause : Option EvacCause) → IsTrueAt (space_run c x) (DriverFound x) told_true.before e.block own t.rounds told_true.end (end_by cause) → EndedThere (space_run c x) told_true.before e.block own cause
  ended_by None is = tt
  ended_by (Some why) is = is.did

  at_end : (cause : Option EvacCause) → e.stage ≡ end_by cause → IsTrueAt (space_run c x) (DriverFound x) told_true.before e.block own t.rounds told_true.end (end_by cause)
  at_end cause ended = subst (λ (s : Stage). IsTrueAt (space_run c x) (DriverFound x) told_true.before e.block own t.rounds told_true.end s) ended told_true.stage

  pub true_at_end : e.sizes ≡ c.sizes → GoesBy e t → (cause : Option EvacCause) → e.stage ≡ end_by cause → truth c x (done ++ emptying) e.block cause own
  true_at_end sizes goes_by cause ended = record {
    told = record { evacuation = e; tale = t; sizes = sizes; block = refl; ended = ended; goes_by = goes_by; made = refl };
    attempts =
        subst (λ (l : List SpaceAction). AreTrueRounds (space_run c x) (DriverFound x) l e.block own (length x.space) (t.attempts ∷ t.rounds)) same_before
        (rounds_later (space_run c x) (DriverFound x) told_true.before e.block own told_true.end (length x.space) told_true.inside (t.attempts ∷ t.rounds) told_true.rounds);
    cause_holds = subst (λ (l : List SpaceAction). HasTrueCause (space_run c x) (DriverFound x) l e.block own cause) same_before (met_by cause (at_end cause ended));
    ended = subst (λ (l : List SpaceAction). EndedThere (space_run c x) l e.block own cause) same_before (ended_by cause (at_end cause ended));
  }
