-- Behind a page that wasn't taken, or that was let go, the evacuation is told what came of it, and the frame that is in hand
-- for the page is to be given back.
use Rattle.std.proofs.Common.{◌≡◌, ℕ, Bool, true, if◌then◌else◌, List, refl, ap, ◌∙◌, Option, None, Some}
use Rattle.evac_model.specs.declared.evacuation.MoveLease.{MoveLease}
use Rattle.evacuate.specs.declared.stage.Stage.{Stage}
use Rattle.evacuate.specs.declared.stage.Stage.TheVariants as stages
use Rattle.evacuate.specs.Evacuating.{Evacuating, answers, is_answer, after_answer, evacuation_after}
use Rattle.core_actors.specs.declared.host_place.HostPlace.TheVariants as places
use Rattle.core_actors.specs.declared.host_place.MovePlace.TheVariants.{Releasing}
use Rattle.core_actors.specs.Hosts.{HostState}
use Rattle.core_actors.specs.HostHears.{goes_on, with_evacuation, told, came_of}
use Rattle.core_actors.specs.HostSpace.{StaysAt}

-- the host whose evacuation gives back the frame that a page leaves
abbrev pub giving_back : HostState → MoveLease → Option ℕ → HostState
giving_back h lease found =
    record h { place = places.Evacuating; evacuation = record h.evacuation { stage = stages.Returning (record { lease = lease; found = found }) } }

came_back : (st : Evacuating) (lease : MoveLease) (found : Option ℕ) → after_answer st (stages.Moving lease) (came_of found) ≡ record st { stage = stages.Returning (record { lease = lease; found = found }) }
came_back st lease None = refl
came_back st lease (Some word) = refl

pub answer_fits : (st : Evacuating) (lease : MoveLease) (found : Option ℕ) → StaysAt lease (Releasing found) → answers st.sizes st.block (stages.Moving lease) (came_of found) ≡ true
answer_fits st lease None stays = refl
answer_fits st lease (Some word) stays = stays

module _ (plugged : List ℕ) (h : HostState) (lease : MoveLease) (found : Option ℕ) (stage : h.evacuation.stage ≡ stages.Moving lease) (stays : StaysAt lease (Releasing found)) where
  abbrev st : Evacuating
  st = h.evacuation

  pub fits : is_answer st (came_of found) ≡ true
  fits = ap (λ (s : Stage). answers st.sizes st.block s (came_of found)) stage ∙ answer_fits st lease found stays

  pub returning : evacuation_after st (came_of found) ≡ record st { stage = stages.Returning (record { lease = lease; found = found }) }
  returning =
      ap (λ (b : Bool). if b then after_answer st st.stage (came_of found) else st) fits
      ∙ (ap (λ (s : Stage). after_answer st s (came_of found)) stage ∙ came_back st lease found)

  pub told_back : told plugged h (came_of found) ≡ goes_on (giving_back h lease found)
  told_back = ap (λ (e : Evacuating). with_evacuation plugged h e) returning
