-- Owners that have ended: what is left of them, and what their seats have.
use Rattle.std.proofs.Common.{◌≡◌, ◌⊎◌, ℕ, zero, suc, ◌<◌, ◌&&◌, true, List, [], ◌∷◌, ◌++◌, length, map, append-nil, refl, sym, ap, ◌∙◌, subst, inl, inr, arith, Option, None, Some}
use Rattle.std.specs.List.{slice_get, enumerate_from, AllByRecursion}
use Rattle.std.proofs.lemmas.Bool.{false≢true}
use mathlib.Core.Logic.{dite}
use native.Mathlib.Decide.{dec_le}
use Rattle.evac_model.specs.declared.call.Call.{Call}
use Rattle.evac_model.specs.declared.names.FrameNo.{FrameNo}
use Rattle.evac_model.specs.declared.names.PageNo.{PageNo}
use Rattle.evac_model.specs.declared.scenario.Scenario.{Scenario}
use Rattle.evac_model.specs.Geometry.{Sizes}
use Rattle.evac_model.specs.Scripts.{script_of, numbered_call}
use Rattle.core_state.specs.declared.opening.Opening.{Opening}
use Rattle.core_state.specs.declared.view.View.{View}
use Rattle.core_state.specs.Histories.{AllLetGo}
use Rattle.core_state.specs.Views.{Has}
use Rattle.core_actors.specs.Owners.{OwnerState, are_none, is_nothing, owner_ended}
use Rattle.core_actors.specs.declared.place.Place.{Place}
use Rattle.core_actors.specs.declared.place.Place.TheVariants.{Between, InCall}
use Rattle.core_actors.specs.Fits.{Holds, has_at, Fits}
use Rattle.core_actors.specs.Places.{frame_owed}
use Rattle.replay.specs.Keeping.{IsKept}
use Rattle.replay.specs.Running.{Running}
use Rattle.replay.specs.Runs.{opening, AllEnded, HaveEnded}
use Rattle.replay.proofs.DriverSeat.{driver_entries, driver_lets_go}
use Rattle.replay.proofs.Members.{there}

-- ---- an owner that has ended

none_left : (left : List (PageNo × Call)) (back : Option FrameNo) → (are_none left && is_nothing back) ≡ true → (left ≡ []) × (back ≡ None)
none_left [] None e = (refl, refl)
none_left [] (Some frame) e = absurd (false≢true e)
none_left (c ∷ cs) back e = absurd (false≢true e)

module _ (a : OwnerState) (ended : owner_ended a ≡ true) where
  -- it has no call
  pub left_at_end : a.left ≡ []
  left_at_end = (none_left a.left (frame_owed a.place) ended).0

  -- it has no frame to give back
  pub back_at_end : frame_owed a.place ≡ None
  back_at_end = (none_left a.left (frame_owed a.place) ended).1

  module _ (s : Sizes) (o : Opening) (v : View) (script : List (PageNo × Call)) (f : Fits s o script v a) where
    -- its seat has an entry for each call
    entries_at_end : map numbered_call v.entries ≡ enumerate_from 0 script
    entries_at_end =
        sym (append-nil (map numbered_call v.entries))
        ∙ (ap (λ (l : List (PageNo × Call)). map numbered_call v.entries ++ enumerate_from (length v.entries) l) (sym left_at_end) ∙ f.belongs.entries)

    -- its seat holds no page
    held_at_end : v.held ≡ None
    held_at_end = none_held a.cells o.cells a.place (subst (λ (l : List (PageNo × Call)). Holds o.cells l ((has_at a.cells a.place l).page) v.held) left_at_end f.has.held)
      where
        none_held : (cells size : ℕ) (place : Place) → Holds size [] ((has_at cells place []).page) v.held → v.held ≡ None
        none_held cells size (Between back) h = h
        none_held cells size (InCall at) h = h

-- ---- the seats of a run whose owners have all ended

-- the seat of the owner at a place
pub record IsEndedSeat (s : Scenario) (m : Running) (place : ℕ) (v : View) : Type 0 where
  pub low : place < length s.owners
  pub owner : OwnerState
  pub here : slice_get m.owners place ≡ Some owner
  pub left : owner.left ≡ []
  pub back : frame_owed owner.place ≡ None
  pub entries : map numbered_call v.entries ≡ enumerate_from 0 (script_of s.owners (suc place))
  pub held : v.held ≡ None
  pub callers : AllByRecursion (λ e. e.caller ≡ suc place) v.entries

-- the seat is some owner's
pub record IsOwners (s : Scenario) (m : Running) (seat : ℕ) (v : View) : Type 0 where
  pub place : ℕ
  pub is : seat ≡ suc place
  pub ended : IsEndedSeat s m place v

module _ (s : Scenario) (m : Running) (k : IsKept s m) (ended : AllEnded m.owners) where
  pub owners_seat : (i : ℕ) (v : View) → i < length s.owners → Has m.world.snapshot.views (suc i) v → IsEndedSeat s m i v
  owners_seat i v low has =
      let a = there m.owners i (let n = k.seats.owners in omega arith) in
      let done = ended i a.0 a.1 in
      let f = k.seats.fits i a.0 v a.1 has in
      record {
        low = low;
        owner = a.0;
        here = a.1;
        left = left_at_end a.0 done;
        back = back_at_end a.0 done;
        entries = entries_at_end a.0 done s.geometry (opening s) v (script_of s.owners (suc i)) f.1;
        held = held_at_end a.0 done s.geometry (opening s) v (script_of s.owners (suc i)) f.1;
        callers = subst (λ (n : ℕ). AllByRecursion (λ e. e.caller ≡ n) v.entries) f.0 f.1.belongs.callers;
      }

  -- a seat is an owner's, or makes no calls
  pub each_seat : (i : ℕ) (v : View) → Has m.world.snapshot.views i v → IsOwners s m i v ⊎ (v.entries ≡ [])
  each_seat zero v has = inr (driver_entries s m k.host v has)
  each_seat (suc i) v has = dite (dec_le (suc i) (length s.owners))
      (λ le. inl (record { place = i; is = refl; ended = owners_seat i v (omega arith) has }))
      (λ gt. inr (k.seats.others (suc i) v has (omega arith)).entries)

-- where the host has ended, too, no page is held
pub let_go : (s : Scenario) (m : Running) → IsKept s m → HaveEnded m → AllLetGo m.world.snapshot.views
let_go s m k ended zero v has = driver_lets_go s m k.host v has ended.host
let_go s m k ended (suc i) v has = dite (dec_le (suc i) (length s.owners))
    (λ le. (owners_seat s m k ended.owners i v (omega arith) has).held)
    (λ gt. (k.seats.others (suc i) v has (omega arith)).rests.holds_none)
