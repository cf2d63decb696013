-- What stays of an owner over its actions: its number, and its calls but those that end.
use Rattle.std.proofs.Common.{◌≡◌, ℕ, Bool, false, if◌then◌else◌, List, [], ◌∷◌, refl, sym, ap, ◌∙◌, subst, None, Some}
use Rattle.evac_model.specs.declared.names.PageNo.{PageNo}
use Rattle.evac_model.specs.declared.call.Call.{Call}
use Rattle.machine.specs.declared.action.Heard.{Heard}
use Rattle.core_actors.specs.declared.place.Place.{Place}
use Rattle.core_actors.specs.declared.place.Place.TheVariants.{Between, InCall}
use Rattle.core_actors.specs.declared.place.CallPlace.{CallPlace}
use Rattle.core_actors.specs.Places.{calls_behind, ends_call, frame_owed}
use Rattle.core_actors.specs.Owners.{OwnerState, owner_after}
use Rattle.core_actors.proofs.Kept.{calls_end}
use Rattle.core_actors.proofs.LeaseKept.{first_owes, place_owes}
use Rattle.core_actors.proofs.Cases.{if_then}
use Rattle.replay.specs.Keeping.{HaveNumbers}

pub record Stays (a b : OwnerState) : Type 0 where
  pub number : b.owner ≡ a.owner
  pub numbers : HaveNumbers a.left → HaveNumbers b.left

fewer_numbers : (c : PageNo × Call) (cs : List (PageNo × Call)) (at : CallPlace) → HaveNumbers (c ∷ cs) → HaveNumbers (calls_behind c cs at)
fewer_numbers c cs at h = subst HaveNumbers (calls_end c cs at) (if_then HaveNumbers (ends_call (InCall at)) cs (c ∷ cs) (λ t. h.1) (λ f. h))

stays_at : (owner cells : ℕ) (place : Place) (left : List (PageNo × Call)) (heard : Heard)
    → Stays (record { owner = owner; cells = cells; left = left; place = place }) (owner_after (record { owner = owner; cells = cells; left = left; place = place }) heard)
stays_at owner cells (Between (Some frame)) left heard = record { number = refl; numbers = λ h. h }
stays_at owner cells (Between None) [] heard = record { number = refl; numbers = λ h. h }
stays_at owner cells (Between None) (c ∷ cs) heard = record { number = refl; numbers = λ h. h }
stays_at owner cells (InCall at) [] heard = record { number = refl; numbers = λ h. h }
stays_at owner cells (InCall at) (c ∷ cs) heard = record { number = refl; numbers = fewer_numbers c cs at }

pub stays : (a : OwnerState) (heard : Heard) → Stays a (owner_after a heard)
stays a heard = stays_at a.owner a.cells a.place a.left heard

-- ---- an action that ends no call

-- the same calls are left then, and no frame is to be given back
pub record GoesOn (a b : OwnerState) : Type 0 where
  pub left : b.left ≡ a.left
  pub owes : frame_owed b.place ≡ None

goes_at : (owner cells : ℕ) (place : Place) (left : List (PageNo × Call)) (heard : Heard) → ends_call place ≡ false → frame_owed place ≡ None
    → GoesOn (record { owner = owner; cells = cells; left = left; place = place }) (owner_after (record { owner = owner; cells = cells; left = left; place = place }) heard)
goes_at owner cells (Between (Some frame)) left heard going none = absurd cc
goes_at owner cells (Between None) [] heard going none = record { left = refl; owes = refl }
goes_at owner cells (Between None) (c ∷ cs) heard going none = record { left = refl; owes = first_owes cells c.1 heard }
goes_at owner cells (InCall at) [] heard going none = record { left = refl; owes = refl }
goes_at owner cells (InCall at) (c ∷ cs) heard going none = record {
  left = sym (calls_end c cs at) ∙ ap (λ (b : Bool). if b then cs else c ∷ cs) going;
  owes = place_owes cells c.1 at heard going;
}

pub goes_on : (a : OwnerState) (heard : Heard) → ends_call a.place ≡ false → frame_owed a.place ≡ None → GoesOn a (owner_after a heard)
goes_on a heard going none = goes_at a.owner a.cells a.place a.left heard going none
